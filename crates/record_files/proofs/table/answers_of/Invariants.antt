use Rattle.record_files.specs.Tables.{answer_of}
use Rattle.record_files.proofs.Members.{Kept}
use Rattle.record_files.proofs.table.answers_of.Given as goal

abbrev pub invariant-loop-spec : goal.invariant-loop-spec
invariant-loop-spec l = Kept (λ b. b) answer_of l.members.entries l.answers.entries l.spec-iterator
