use Rattle.std.proofs.Common.{◌∙◌, ap}
use Rattle.std.specs.List.{list_any}
use Rattle.guppy_package_parts.proofs.SetFacts.{is_ok_from_search, sorted_from_strictly}
use Rattle.guppy_package_parts.proofs.sorted_set.SortedSet.contains.Goals as goal

pub returns : goal.returns
returns g c =
    c.is_ok.ensures.value ∙ is_ok_from_search g.met.T.Ord.total g.met.T.Ord.matches_eq c.deref.result.now c.args.element.now c.binary_search.result (sorted_from_strictly g.met.T.Ord.total c.deref.result.now (rw c.deref.ensures.value c.self.invariant)) c.binary_search.ensures.bound c.binary_search.ensures.position ∙ ap (list_any (λ y. g.T.PartialEq.eq y c.args.element.now)) (c.deref.ensures.value ∙ c.self.view_is)
