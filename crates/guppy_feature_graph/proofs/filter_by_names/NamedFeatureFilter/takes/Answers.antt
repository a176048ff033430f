use Rattle.std.proofs.Common.{◌∙◌, ℕ, List, Bor, ap, map, rules, sym, tests}
use Rattle.std.proofs.lemmas.Iterator.{YieldsList-from_slice}
use Rattle.std.proofs.lemmas.Iterator.Search.{any_from_yields_List}
use Rattle.std.specs.Str.{bytes_eq}
use Rattle.list_facts.proofs.Quantifiers.{list_any-map}
use Rattle.guppy_feature_graph.specs.WrappedFilters.{is_named_so}
use Rattle.guppy_feature_graph.proofs.filter_by_names.NamedFeatureFilter.takes.Goals as goal

pub returns-in-Named : goal.returns-in-Named
returns-in-Named g c =
    let names = c.args.self.now.names.now in
    let text : Bor (List ℕ) → List ℕ = λ n. n.now in
    any_from_yields_List (λ (n : Bor (List ℕ)). bytes_eq n.now c.in-Named.name.now) _ _ c.any.result c.any.ensures.ran (YieldsList-from_slice names cc) (λ x b q k. search (rules, tests)) ∙ sym (list_any-map (λ t. bytes_eq t c.in-Named.name.now) text names) ∙ ap (is_named_so (map text names)) c.in-Named.ensures.value
