-- A cloned table has the same answers.
use Rattle.std.proofs.Common.{◌≡◌, Bool, cond, Some, List, [], ◌∷◌, map, String, Global, string_bytes, refl}
use Rattle.std.specs.List.{AllZip}
use Rattle.std.specs.Map.{lookup}
use Rattle.std.specs.Str.{bytes_eq}
use Rattle.workspace_record.specs.Records.{Text}
use Rattle.workspace_record.specs.Tables.{entry_of}

abbrev Entry : Type 0
Entry = String Global × Bool

-- the second entry is a clone of the first
abbrev IsCloneOf : Entry → Entry → Type 0
IsCloneOf p q = (string_bytes q.0 ≡ string_bytes p.0) × (q.1 ≡ p.1)

pub same_answered : (es fs : List Entry) → AllZip IsCloneOf es fs → map entry_of fs ≡ map entry_of es
same_answered [] [] h = refl
same_answered [] (f ∷ fs) h = absurd h
same_answered (e ∷ es) [] h = absurd h
same_answered (e ∷ es) (f ∷ fs) h = λ i. (h.0.0 i, h.0.1 i) ∷ same_answered es fs h.1 i

pub same_answers : (spec : Text) (es fs : List Entry) → AllZip IsCloneOf es fs → lookup (λ (k : String Global). bytes_eq spec (string_bytes k)) fs ≡ lookup (λ (k : String Global). bytes_eq spec (string_bytes k)) es
same_answers spec [] [] h = refl
same_answers spec [] (f ∷ fs) h = absurd h
same_answers spec (e ∷ es) [] h = absurd h
same_answers spec (e ∷ es) (f ∷ fs) h = λ i. cond (bytes_eq spec (h.0.0 i)) (Some (h.0.1 i)) (same_answers spec es fs h.1 i)
