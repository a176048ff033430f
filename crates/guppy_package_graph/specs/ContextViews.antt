use Rattle.guppy_package_graph.specs.Queries.{QueryValue}
use Rattle.guppy_package_graph.specs.declared.package_link_context.PackageLinkContext.{PackageLinkContext}

-- the query for which a link is shown
abbrev pub query_of : PackageLinkContext → QueryValue
query_of cx = cx.query.now
