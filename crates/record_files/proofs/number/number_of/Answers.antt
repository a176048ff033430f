use Rattle.std.proofs.Common.{◌≡◌, ◌≢◌, get_or, drop, true, false, sym, ap, ◌∙◌, arith, take_all, length-drop}
use Rattle.fast_float.specs.Text.{scan}
use Rattle.serde_json.specs.Read.{number_of, number_from}
use Rattle.record_files.proofs.Numbers.{behind_minus, without_minus, nothing_first}
use Rattle.record_files.proofs.number.number_of.Goals as goal
use Rattle.record_files.proofs.number.number_of.Goals.{else-not-is_empty-via-then-not-is_empty+else-bytes-eq45, else-not-is_empty-via-else-not-is_empty}

pub returns-then-bytes-eq45 : goal.returns-then-bytes-eq45
returns-then-bytes-eq45 c =
    let s = c.as_bytes-bytes.result.now in
    let here : get_or s 0 0 ≡ 45 = grind arith in
    let rest : c.scan.result ≡ scan (drop 1 s) = c.scan.ensures.parts ∙ ap scan (take_all _ (drop 1 s) (omega (arith, length-drop 1 s))) in
    c.negative.ensures ∙ ap (number_from true) rest ∙ sym (behind_minus s here) ∙ ap number_of c.as_bytes-bytes.ensures.value

pub returns-else-not-is_empty : goal.returns-else-not-is_empty
returns-else-not-is_empty c =
    let s = c.as_bytes-bytes.result.now in
    let other : get_or s 0 0 ≢ 45 = elim c.else-not-is_empty.branch as (λ _. get_or s 0 0 ≢ 45) [ else-not-is_empty-via-then-not-is_empty+else-bytes-eq45 w ↦ grind arith | else-not-is_empty-via-else-not-is_empty w ↦ nothing_first s (sym c.is_empty.ensures ∙ w.if-not-is_empty.false) ] in
    c.unsigned.ensures ∙ ap (number_from false) c.scan-else-not-is_empty.ensures.parts ∙ sym (without_minus s other) ∙ ap number_of c.as_bytes-bytes.ensures.value
