use Rattle.std.proofs.Common.{map, subst}
use Rattle.workspace_record.specs.Records.{Workspace}
use Rattle.test_select_checks.specs.Contexts.{HasNamesOf}
use Rattle.test_select_tests.specs.Filtering.{Filters}
use Rattle.test_select_tests.specs.Following.{IsFollowedIn}
use Rattle.test_select_tests.specs.NamedFeatures.{AreNamedOn}
use Rattle.test_select_tests.proofs.filtering.compile_question_filters.Goals as goal

pub in_scope-requires : goal.in_scope-requires
in_scope-requires c = rw c.record-record.ensures.value c.graph-declared.ensures

pub returns : goal.returns
returns c = record {
  filters = subst (λ (w : Workspace). Filters (λ cx. HasNamesOf w cx × IsFollowedIn c.args.scope w c.args.on.now c.args.table.now cx.graph × AreNamedOn c.args.on.now cx.on) w (map (λ t. t.now) c.args.texts.now) c.in_scope.result) c.record-record.ensures.value c.in_scope.ensures;
}
