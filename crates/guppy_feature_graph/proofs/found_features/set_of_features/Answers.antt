use Rattle.std.proofs.Common.{◌↔◌, Contains, IsTrue, map, subst}
use Rattle.numbered_graph.specs.Sets.{has}
use Rattle.guppy_feature_demands.specs.IdViews.{id_view}
use Rattle.guppy_feature_graph.specs.Views.{feature_graph_of}
use Rattle.guppy_feature_graph.proofs.FoundFacts.{all_known, named}
use Rattle.guppy_feature_graph.proofs.found_features.set_of_features.Goals as goal

pub returns-clause-named : goal.returns-clause-named
returns-clause-named c = λ v.
    let set = c.in_ok-set.set in
    let members : IsTrue (has set v) ↔ Contains c.in_ok-numbers.numbers.items v = subst (λ xs. IsTrue (has set v) ↔ Contains xs v) c.deref.ensures.value (c.in_ok-set.ensures.members v) in
    let are = named (feature_graph_of c.args.graph.now) (map id_view c.args.feature_ids.now) c.in_ok-numbers.numbers.items c.in_ok-numbers.ensures.found c.in_ok-numbers.ensures.within v in
    (λ h. are.0 (members.0 h), λ h. members.1 (are.1 h))

pub returns-clause-known : goal.returns-clause-known
returns-clause-known c =
    all_known (feature_graph_of c.args.graph.now) (map id_view c.args.feature_ids.now) c.in_ok-numbers.numbers.items c.in_ok-numbers.ensures.found c.in_ok-numbers.ensures.within
