-- The law of rules with their sources.
use Rattle.std.specs.Prelude.{◌≡◌, map}
use Rattle.workspace_record.specs.Records.{Workspace}
use Rattle.workspace_record.specs.Choices.{Choice}
use Rattle.workspace_record.specs.declared.choice.PlatformTable.{PlatformTable}
use Rattle.feature_account_rules.specs.RuleList.{rule_list}
use Rattle.feature_account_making.specs.Sources.{sourced_rules}

-- without their sources they are the list of rules
abbrev pub SourcedAsListed : Type 0
SourcedAsListed =
    (w : Workspace) (choice : Choice) (table : PlatformTable) → map (λ r. r.rule) (sourced_rules w choice table) ≡ rule_list w choice table
