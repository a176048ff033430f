use Rattle.std.proofs.Common.{All, subst}
use Rattle.std.proofs.lemmas.List.Elements.{All-contains}
use Rattle.workspace_record.specs.Records.{Group}
use Rattle.nextest_filtering.specs.SameFilters.{AreBytes}
use Rattle.test_select_tests.specs.Questions.{IsBytePackage, HasByteTexts}
use Rattle.test_select_tests.proofs.byte_names.record_names_are_bytes.Goals as goal

pub returns : goal.returns
returns c =
    let is_group : Group → Type 0 = λ g. AreBytes g.name in
    record {
      texts = subst HasByteTexts c.record.view_is (record {
        packages = λ p inside. All-contains IsBytePackage c.record.inside.packages.items p (subst (All IsBytePackage) c.deref.ensures.value c.see_packages.ensures) inside;
        groups = λ g inside. All-contains is_group c.record.inside.groups.items g (subst (All is_group) c.deref-2.ensures.value c.see_groups.ensures) inside;
      });
    }
