use Rattle.std.proofs.Common.{append-nil, sym}
use Rattle.std.specs.List.{flat_map}
use Rattle.list_facts.proofs.Lists.{flat_map-append}
use Rattle.feature_account_rules.specs.RuleList.{member_features}
use Rattle.feature_account_rules.proofs.PushFacts.{pushed_all, pushed_more}
use Rattle.feature_account_rules.proofs.own_features.push_members_features.Goals as goal

pub loop-owner-preserved : goal.loop-owner-preserved
loop-owner-preserved c =
    let features = member_features c.args.index.now c.args.standard in
    pushed_more (flat_map features) (flat_map-append features) _ _ _ _ c.args.packages.now c.loop-owner.owner-index c.owner-item.result c.loop-owner-test.true c.owner-item.is c.loop-owner.invariant c.in_ok-push_member_features.ensures (sym (append-nil _))

pub returns : goal.returns
returns c =
    pushed_all (flat_map (member_features c.args.index.now c.args.standard)) _ _ c.args.packages.now c.loop-owner.owner-index c.loop-owner-test.false c.loop-owner.invariant
