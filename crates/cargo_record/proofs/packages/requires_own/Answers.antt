use Rattle.std.proofs.Common.{◌∙◌, Global, String, ap, rules, string_bytes, tests}
use Rattle.std.proofs.lemmas.Iterator.{YieldsList-from_slice}
use Rattle.std.proofs.lemmas.Iterator.Search.{all_from_yields_List}
use Rattle.std.specs.List.{list_all}
use Rattle.cargo_record.specs.Kept.{is_feature}
use Rattle.cargo_record.proofs.Texts.{all_texts}
use Rattle.cargo_record.proofs.packages.requires_own.Goals as goal

pub returns : goal.returns
returns c =
    all_from_yields_List (λ (s : String Global). is_feature c.args.features.now (string_bytes s)) _ _ c.all.result c.all.ensures.ran (YieldsList-from_slice c.deref.result.now cc) (λ x b q k. search (rules, tests)) ∙ ap (list_all (λ s. is_feature c.args.features.now (string_bytes s))) c.deref.ensures.value ∙ all_texts (is_feature c.args.features.now) c.target.inside.required_features.items ∙ ap (λ t. list_all (is_feature c.args.features.now) t.required_features) c.target.view_is
