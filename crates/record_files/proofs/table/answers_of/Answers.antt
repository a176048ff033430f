use Rattle.std.proofs.Common.{◌≡◌, ◌∙◌, [], ◌∷◌}
use Rattle.record_files.specs.Tables.{answer_of}
use Rattle.record_files.proofs.Keys.{insert_new}
use Rattle.record_files.proofs.Members.{Kept, starts, goes_on}
use Rattle.record_files.proofs.Specs.{specs_ascend}
use Rattle.record_files.proofs.table.answers_of.Goals as goal

pub loop-spec-init : goal.loop-spec-init
loop-spec-init c =
    let none : c.new-answers.result.entries ≡ [] = c.new-answers.ensures.empty in
    let all : c.into_iter-spec-iterator.result ≡ c.args.members.now.entries = c.into_iter-spec-iterator.ensures.into_iter_gives ∙ c.iter-spec-items.ensures.rest in
    rw (none, all) (starts (λ b. b) answer_of c.args.members.now.entries c.iter-spec-items.ensures.ordered)

pub loop-spec-preserved : goal.loop-spec-preserved
loop-spec-preserved c =
    let steps : c.loop-spec.spec-iterator ≡ (c.in-Some.spec.now, c.in-Some.value.now) ∷ c.next.new.self = c.in-Some.ensures.steps in
    let kept : Kept (λ b. b) answer_of c.args.members.now.entries c.loop-spec.answers.entries c.loop-spec.spec-iterator = c.loop-spec.invariant in
    goes_on _ _ _ _ _ c.in-Some.spec.now c.in-Some.value.now _ c.in_ok-spec.spec c.in_ok-answer.answer (rw steps at kept) c.in_ok-spec.ensures.ok c.in_ok-answer.ensures
    (λ sorted. c.in_ok-insert.ensures.entries ∙ insert_new _ _ _ _ sorted)

pub returns-clause-ascending : goal.returns-clause-ascending
returns-clause-ascending c =
    let kept : Kept (λ b. b) answer_of c.args.members.now.entries c.loop-spec.answers.entries c.loop-spec.spec-iterator = c.loop-spec.invariant in
    let none : c.loop-spec.spec-iterator ≡ [] = c.in-None.ensures.steps.0 in
    specs_ascend c.loop-spec.answers.entries (rw none at kept).0
