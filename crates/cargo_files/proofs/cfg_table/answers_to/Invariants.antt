use Rattle.std.proofs.Common.{map, take}
use Rattle.indexmap.specs.IndexMap.{get_by_text}
use Rattle.workspace_record.specs.Records.{Text}
use Rattle.cargo_files.specs.TableAnswers.{IsAnswer}
use Rattle.cargo_files.proofs.cfg_table.answers_to.Given as goal

abbrev pub invariant-loop-spec : goal.invariant-loop-spec
invariant-loop-spec l =
    (spec : Text) → IsAnswer l.triple l.settings (map (λ s. s.now) (take l.spec-index l.specs)) spec (get_by_text l.answers spec)
