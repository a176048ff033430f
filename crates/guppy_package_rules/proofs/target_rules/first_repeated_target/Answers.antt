use Rattle.std.proofs.Common.{not, sym, ◌∙◌, ap, take_all}
use Rattle.std.specs.List.{list_any}
use Rattle.guppy_package_rules.specs.Rules.{has_distinct_targets}
use Rattle.guppy_package_rules.proofs.Positions.{no_position, position_at}
use Rattle.guppy_package_rules.proofs.target_rules.first_repeated_target.Goals as goal

pub returns-then-not-branch : goal.returns-then-not-branch
returns-then-not-branch c =
    sym (position_at (λ p. not (has_distinct_targets p)) c.args.packages.now c.loop-place.place c.index-packages-place.result c.loop-place-test.true c.loop-place.invariant (ap (λ p. not (has_distinct_targets p)) (sym c.index-packages-place.is) ∙ ap not (sym c.in_ok-has_distinct_targets.ensures ∙ c.if-not-branch.true)))

pub returns : goal.returns
returns c =
    sym (no_position (λ p. not (has_distinct_targets p)) c.args.packages.now (ap (list_any (λ p. not (has_distinct_targets p))) (sym (take_all c.loop-place.place c.args.packages.now c.loop-place-test.false)) ∙ c.loop-place.invariant))
