use Rattle.std.proofs.Common.{All, subst}
use Rattle.std.proofs.lemmas.List.Elements.{All-contains}
use Rattle.workspace_record.specs.Records.{FeatureEntry, Target}
use Rattle.nextest_filtering.specs.SameFilters.{AreBytes}
use Rattle.test_select_tests.specs.Questions.{IsBytePackage}
use Rattle.test_select_tests.proofs.ByteFacts.{text_bytes}
use Rattle.test_select_tests.proofs.byte_names.see_package.Goals as goal

pub returns : goal.returns
returns c =
    let is_feature : FeatureEntry → Type 0 = λ f. AreBytes f.name in
    let is_target : Target → Type 0 = λ t. AreBytes t.name in
    subst IsBytePackage c.row.view_is (record {
      name = text_bytes c.row.inside.name;
      features = λ f inside. All-contains is_feature c.row.inside.features.items f (subst (All is_feature) c.deref.ensures.value c.see_features.ensures) inside;
      targets = λ t inside. All-contains is_target c.row.inside.targets.items t (subst (All is_target) c.deref-2.ensures.value c.see_targets.ensures) inside;
    })
