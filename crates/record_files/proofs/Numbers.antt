-- Numbers, as `serde_json` reads them from their texts.
use Rattle.std.proofs.Common.{◌≡◌, ◌≢◌, ◌==◌, [], ◌∷◌, length, get_or, drop, true, false, ne_eqb, arith}
use Rattle.fast_float.specs.Text.{scan}
use Rattle.serde_json.specs.Read.{number_of, number_from}
use Rattle.workspace_record.specs.Records.{Text}

pub behind_minus : (text : Text) → get_or text 0 0 ≡ 45 → number_of text ≡ number_from true (scan (drop 1 text))
unfolding number_of
behind_minus text e = rw e

pub without_minus : (text : Text) → get_or text 0 0 ≢ 45 → number_of text ≡ number_from false (scan text)
unfolding number_of
without_minus text e = rw (ne_eqb (get_or text 0 0) 45 e)

-- an empty text begins with no minus
pub nothing_first : (text : Text) → (length text == 0) ≡ true → get_or text 0 0 ≢ 45
nothing_first [] e = grind arith
nothing_first (c ∷ text) e = grind arith
