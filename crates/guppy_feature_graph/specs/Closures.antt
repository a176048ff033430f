-- Closures that say of each link whether it is followed.
use Rattle.std.specs.Prelude.{◌≡◌, Bool}
use Rattle.std.specs.Borrow.{Bor}
use Rattle.std.specs.Fn.{Mut, Called}
use Rattle.numbered_offers.specs.declared.offer.Offer.{Offer}
use Rattle.guppy_feature_graph.specs.ContextViews.{query_of}
use Rattle.guppy_feature_graph.specs.Links.{link_of}
use Rattle.guppy_feature_graph.specs.Queries.{QueryValue}
use Rattle.guppy_feature_views.specs.Views.{link_view}
use Rattle.guppy_feature_views.specs.declared.conditional_link.ConditionalLink.{ConditionalLink}
use Rattle.guppy_feature_graph.specs.declared.feature_link_context.FeatureLinkContext.{FeatureLinkContext}

-- the closure is called with the link that is offered, of the query's graph, and answers
pub record AsksClosure {F : Type 0} (call : Mut F (Bor FeatureLinkContext × (ConditionalLink × Unit {0})) Bool) (q : QueryValue) (f : F) (o : Offer) (answer : Bool) (next : F) : Type 0 where
  pub cx : Bor FeatureLinkContext
  pub link : ConditionalLink
  pub of_query : query_of cx.now ≡ q
  pub of_offer : link_view link ≡ link_of q.graph o
  pub called : Called call f (cx, (link, tt)) answer next
