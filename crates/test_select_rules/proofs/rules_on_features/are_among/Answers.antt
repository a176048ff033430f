use Rattle.std.proofs.Common.{Global, String, rules, string_bytes, sym, tests, ◌∙◌}
use Rattle.std.proofs.lemmas.Iterator.{YieldsList-from_slice}
use Rattle.std.proofs.lemmas.Iterator.Search.{all_from_yields_List}
use Rattle.std.proofs.lemmas.List.Folds.{list_all-map}
use Rattle.guppy_package_rules.specs.Found.{finds}
use Rattle.test_select_rules.proofs.rules_on_features.are_among.Goals as goal

pub returns : goal.returns
returns c = all_from_yields_List (λ (name : String Global). finds c.args.own.now (string_bytes name)) _ _ _ c.all.ensures.ran (YieldsList-from_slice c.args.names.now c.iter.ensures.rest) (λ x b q k. search (rules, tests)) ∙ sym (list_all-map (finds c.args.own.now) string_bytes c.args.names.now)
