use Rattle.guppy_feature_graph.specs.Queries.{QueryValue}
use Rattle.guppy_feature_graph.specs.declared.feature_link_context.FeatureLinkContext.{FeatureLinkContext}

-- the query for which a link is shown
abbrev pub query_of : FeatureLinkContext → QueryValue
query_of cx = cx.query.now
