-- Closures that say of each link whether it is followed.
use Rattle.std.specs.Prelude.{◌≡◌, ℕ, Bool}
use Rattle.std.specs.Borrow.{Bor}
use Rattle.std.specs.Fn.{Mut, Called}
use Rattle.guppy_package_graph.specs.ContextViews.{query_of}
use Rattle.guppy_package_graph.specs.Queries.{QueryValue}
use Rattle.guppy_package_graph.specs.Views.{link_graph_of, number_of}
use Rattle.guppy_package_graph.specs.declared.package_link.PackageLink.{PackageLink}
use Rattle.guppy_package_graph.specs.declared.package_link_context.PackageLinkContext.{PackageLinkContext}

-- the closure is called with a link of the query's graph, and answers
pub record AsksClosure {F : Type 0} (call : Mut F (Bor PackageLinkContext × (PackageLink × Unit {0})) Bool) (q : QueryValue) (f : F) (j : ℕ) (answer : Bool) (next : F) : Type 0 where
  pub cx : Bor PackageLinkContext
  pub link : PackageLink
  pub of_query : query_of cx.now ≡ q
  pub of_graph : link_graph_of link ≡ q.graph
  pub of_number : number_of link ≡ j
  pub called : Called call f (cx, (link, tt)) answer next
