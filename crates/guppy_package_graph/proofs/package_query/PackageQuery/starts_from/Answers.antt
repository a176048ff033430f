use Rattle.std.proofs.Common.{◌∙◌, ◌==◌, ap}
use Rattle.std.specs.List.{list_any}
use Rattle.guppy_package_graph.specs.Queries.{QueryValue}
use Rattle.guppy_package_graph.proofs.StartFacts.{found_start}
use Rattle.guppy_package_graph.proofs.package_query.PackageQuery.starts_from.Goals as goal

pub returns : goal.returns
returns c =
    let xs = c.deref.result.now in
    c.is_ok.ensures.value ∙ found_start xs c.args.place c.binary_search.result (rw c.deref.ensures.value c.self.invariant.1) c.binary_search.ensures.position ∙ ap (list_any (λ v. v == c.args.place)) (c.deref.ensures.value ∙ ap (λ (q : QueryValue). q.initials) c.self.view_is)
