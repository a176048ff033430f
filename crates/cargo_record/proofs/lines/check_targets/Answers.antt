use Rattle.std.proofs.Common.{◌≡◌, ◌∙◌, rules, sym, true}
use Rattle.std.proofs.lemmas.Result.{err_from_is_err_and}
use Rattle.std.specs.List.{list_all}
use Rattle.workspace_record.specs.Packages.{is_member}
use Rattle.cargo_record.specs.Kept.{requires_own}
use Rattle.cargo_record.proofs.OwnFacts.{all_here, all_next, unless}
use Rattle.cargo_record.proofs.lines.check_targets.Goals as goal

pub loop-target-preserved : goal.loop-target-preserved
loop-target-preserved c =
    let p = c.args.«package».now in
    let targets : c.deref-target-items.result.now ≡ c.args.«package».now.row.targets = search rules in
    all_next (requires_own p.row.features) p.row.targets c.loop-target.target-index c.target-item.result (rw targets at c.loop-target-test.true) (rw targets at c.target-item.is) c.loop-target.invariant c.in_ok-check_target.ensures.own

pub returns-clause-own : goal.returns-clause-own
returns-clause-own c =
    let p = c.args.«package».now in
    let targets : c.deref-target-items.result.now ≡ c.args.«package».now.row.targets = search rules in
    unless (is_member c.args.index.now p.row.id) (list_all (requires_own p.row.features) p.row.targets) (all_here (requires_own p.row.features) p.row.targets c.loop-target.target-index (rw targets at c.loop-target-test.false) c.loop-target.invariant)

pub returns-in_err-check_target-clause-refused : goal.returns-in_err-check_target-clause-refused
returns-in_err-check_target-clause-refused c =
    let p = err_from_is_err_and c.from_residual.result c.from_residual.ensures.1 in
    let on : is_member c.args.index.now c.args.«package».now.row.id ≡ true = rw c.id_of.ensures at (sym c.is_member.ensures.answer ∙ c.if-not-is_member.false) in
    let targets : c.deref-target-items.result.now ≡ c.args.«package».now.row.targets = search rules in
    rw (p.1, p.2) (on, c.in_err-check_target.ensures.refused (c.loop-target.target-index, rw targets at c.loop-target-test.true, sym (rw targets at c.target-item.is)))
