use Rattle.std.proofs.Common.{string_bytes}
use Rattle.std.proofs.lemmas.Map.Text.{hash_map_updates_text}
use Rattle.std.proofs.lemmas.Result.{err_from_is_err_and}
use Rattle.cargo_files.proofs.TableFacts.{answers_at_end, answers_one_more, one_refused}
use Rattle.cargo_files.proofs.cfg_table.answers_to.Goals as goal

pub returns-in_err-answer-clause-refused : goal.returns-in_err-answer-clause-refused
returns-in_err-answer-clause-refused c =
    let p = err_from_is_err_and c.from_residual.result c.from_residual.ensures.1 in
    rw (p.1, p.2) (one_refused c.loop-spec.spec-index c.args.specs.now _ c.in_err-answer.field-0.0 c.loop-spec-test.true c.in_err-answer.ensures.refused)

pub loop-spec-preserved : goal.loop-spec-preserved
loop-spec-preserved c spec =
    answers_one_more c.args.triple.now c.args.settings.now c.loop-spec.spec-index c.args.specs.now _ spec (string_bytes c.in_ok-spec.spec) c.in_ok-answer.answer _ _ c.loop-spec-test.true c.in_ok-spec.ensures.ok c.in_ok-answer.ensures.says (hash_map_updates_text (string_bytes c.in_ok-spec.spec) c.loop-spec.answers c.insert.new.self _ c.in_ok-insert.ensures.updates spec) (c.loop-spec.invariant spec)

pub returns-clause-answers : goal.returns-clause-answers
returns-clause-answers c spec =
    answers_at_end c.args.triple.now c.args.settings.now c.loop-spec.spec-index c.args.specs.now spec _ c.loop-spec-test.false (c.loop-spec.invariant spec)
