use Rattle.std.proofs.Common.{◌∙◌, ap, append-nil, sym}
use Rattle.std.specs.List.{flat_map}
use Rattle.list_facts.proofs.Lists.{flat_map-append}
use Rattle.feature_account_rules.specs.RuleList.{base_rules}
use Rattle.feature_account_rules.proofs.PushFacts.{pushed_all, pushed_more}
use Rattle.feature_account_rules.proofs.rule_list.push_packages_base_rules.Goals as goal

pub loop-owner-preserved : goal.loop-owner-preserved
loop-owner-preserved c =
    pushed_more (flat_map base_rules) (flat_map-append base_rules) _ _ _ _ c.args.packages.now c.loop-owner.owner-index c.owner-item.result c.loop-owner-test.true c.owner-item.is c.loop-owner.invariant c.in_ok-push_base_rules.ensures (ap base_rules c.row.ensures.value ∙ sym (append-nil _))

pub returns : goal.returns
returns c =
    pushed_all (flat_map base_rules) _ _ c.args.packages.now c.loop-owner.owner-index c.loop-owner-test.false c.loop-owner.invariant
