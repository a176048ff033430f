use Rattle.std.proofs.Common.{refl}
use Rattle.feature_account_rules.specs.IsRule.{member_base}
use Rattle.feature_account_rules.specs.RuleList.{base_of, given}
use Rattle.feature_account_rules.proofs.RuleFacts.{rule_list_iff}
use Rattle.test_select_feature_laws.proofs.StandingFacts.{found_alone}
use Rattle.test_select_feature_laws.specs.Laws.{WorkspacePackagesAreOn}
use Rattle.test_select_feature_laws.proofs.KeptFacts.{rows_kept}
use Rattle.test_select_feature_laws.proofs.laws.workspace_packages_are_on.Goals as goal

are_on : WorkspacePackagesAreOn
are_on w choice table p kept listed member s closed =
    closed (given (base_of p.id)) ((rule_list_iff w choice table (given (base_of p.id))).1 (member_base (found_alone w (rows_kept w kept).ids_apart p listed) member)) refl

pub returns : goal.returns
returns c = record { on = are_on }
