use Rattle.std.proofs.Common.{◌≡◌, IfOk, map, subst, ap, take_all, ◌∙◌}
use Rattle.std.specs.Ordering.{eq_by_cmp}
use Rattle.workspace_record.specs.Records.{Member}
use Rattle.guppy_package_rules.specs.Paths.{path_cmp}
use Rattle.guppy_package_rules.specs.Places.{first_repeat}
use Rattle.guppy_package_rules.specs.declared.paths.PathText.{PathText}
use Rattle.guppy_package_rules.proofs.RepeatFacts.{first_repeat-map}
use Rattle.guppy_package_rules.proofs.member_rules.first_repeated_path.Goals as goal

pub returns : goal.returns
returns c =
    subst (λ first. IfOk c.first_repeat_in_order.result (λ place. place ≡ first)) (first_repeat-map (λ (p : PathText). p.text.now) (eq_by_cmp path_cmp) c.deref.result.now ∙ ap (first_repeat (eq_by_cmp path_cmp)) (ap (map (λ (p : PathText). p.text.now)) c.deref.ensures.value ∙ c.loop-member.invariant ∙ ap (map (λ (m : Member). m.path)) (take_all c.loop-member.member-index c.args.members.now c.loop-member-test.false))) c.first_repeat_in_order.ensures
