use Rattle.std.proofs.Common.{◌∙◌, Global, String, rules, string_bytes, sym, tests}
use Rattle.std.proofs.lemmas.Iterator.{YieldsList-from_slice}
use Rattle.std.proofs.lemmas.Iterator.Search.{any_from_yields_List}
use Rattle.workspace_record.specs.Features.{Dep}
use Rattle.workspace_record.specs.Records.{Text}
use Rattle.list_facts.proofs.Quantifiers.{list_any-map}
use Rattle.guppy_feature_graph.specs.FeaturesFor.{has_label}
use Rattle.guppy_feature_graph.proofs.features_for.has_dependency.Goals as goal

pub returns : goal.returns
returns c =
    let has = λ (name : Text). has_label c.args.set.now c.args.id.now (Dep name) in
    any_from_yields_List (λ (name : String Global). has (string_bytes name)) _ _ c.any.result c.any.ensures.ran (YieldsList-from_slice c.args.names.now cc) (λ x b q k. search (rules, tests)) ∙ sym (list_any-map has string_bytes c.args.names.now)
