-- Lists of values, and what reading makes of them element by element.
use Rattle.std.proofs.Common.{Global, ◌≡◌, ◌∙◌, refl, sym, ap, append_assoc, ℕ, ◌+◌, ◌<◌, List, [], ◌∷◌, ◌++◌, drop, get_or, length, map, ◌&&◌, is_some, Option, Some, None, option_map, option_and_then, String, string_bytes, Result, Ok, Err}
use Rattle.std.proofs.lemmas.List.{drop_more, map-append}
use Rattle.std.specs.List.{list_all}
use Rattle.serde_json.specs.Data.{Data}
use Rattle.serde_json.specs.Find.{as_object, as_str}
use Rattle.workspace_record.specs.Records.{Text}
use Rattle.record_files.specs.Trees.{seen, seen_items}
use Rattle.json.specs.declared.value.Value.{Value}
use Rattle.record_files.specs.Faults.{Fault}
use Rattle.record_files.specs.Outcomes.{◌>>=◌}
use Rattle.record_files.specs.Values.{each, each_text, all_objects}

-- what is read, behind what was read before
abbrev pub with_front : {A : Type 0} → List A → Result (List A) Fault → Result (List A) Fault
with_front front said = said >>= λ xs. Ok (front ++ xs)

-- the values from a place on, each under `read`
abbrev pub from_value : {A : Type 0} → (Data → Result A Fault) → List (Value Global) → ℕ → Result (List A) Fault
from_value read vs i = each read (seen_items (drop i vs))

pub all_objects_seen : (vs : List (Value Global)) → list_all (λ v. is_some (as_object (seen v))) vs ≡ all_objects (seen_items vs)
all_objects_seen [] = refl
all_objects_seen (v ∷ vs) = ap (λ b. is_some (as_object (seen v)) && b) (all_objects_seen vs)

-- the value at a place is read too, behind what was read before
with_more : {A : Type 0} (front : List A) (x : A) (rest : Result (List A) Fault) → with_front front (rest >>= λ xs. Ok (x ∷ xs)) ≡ with_front (front ++ x ∷ []) rest
with_more front x (Ok xs) = ap Ok (sym (append_assoc front (x ∷ []) xs))
with_more front x (Err fault) = refl

pub each_step : {A : Type 0} (read : Data → Result A Fault) (vs : List (Value Global)) (i : ℕ) (d v : (Value Global)) (x : A) (front new : List A) → i < length vs → v ≡ get_or vs i d → read (seen v) ≡ Ok x → new ≡ front ++ x ∷ [] → with_front front (from_value read vs i) ≡ each read (seen_items vs) → with_front new (from_value read vs (i + 1)) ≡ each read (seen_items vs)
each_step read vs i d v x front new lt at is more before =
    let rest = from_value read vs (i + 1) in
    let here : from_value read vs i ≡ (rest >>= λ xs. Ok (x ∷ xs)) = ap (λ ws. each read (seen_items ws)) (drop_more vs i d lt) ∙ ap (λ w. read (seen w) >>= λ y. rest >>= λ xs. Ok (y ∷ xs)) (sym at) ∙ ap (λ r. r >>= λ y. rest >>= λ xs. Ok (y ∷ xs)) is in
    ap (λ xs. with_front xs rest) more ∙ sym (with_more front x rest) ∙ sym (ap (with_front front) here) ∙ before

-- the texts of values from a place on, behind those that were read before
abbrev pub with_texts : List Text → Option (List Text) → Option (List Text)
with_texts front said = option_map (λ ts. front ++ ts) said

more_texts : (front : List Text) (t : Text) (rest : Option (List Text)) → with_texts front (option_map (λ ts. t ∷ ts) rest) ≡ with_texts (front ++ t ∷ []) rest
more_texts front t (Some ts) = ap Some (sym (append_assoc front (t ∷ []) ts))
more_texts front t None = refl

pub text_step : (vs : List (Value Global)) (i : ℕ) (d v : Value Global) (t : Text) (s : String Global) (old new : List (String Global)) (all : Option (List Text)) → i < length vs → v ≡ get_or vs i d → as_str (seen v) ≡ Some t → string_bytes s ≡ t → new ≡ old ++ s ∷ [] → with_texts (map string_bytes old) (each_text (seen_items (drop i vs))) ≡ all → with_texts (map string_bytes new) (each_text (seen_items (drop (i + 1) vs))) ≡ all
text_step vs i d v t s old new all lt at is same more before =
    let rest = each_text (seen_items (drop (i + 1) vs)) in
    let read : Value Global → Option (List Text) = λ w. option_and_then (λ u. option_map (λ ts. u ∷ ts) rest) (as_str (seen w)) in
    let here : each_text (seen_items (drop i vs)) ≡ option_map (λ ts. t ∷ ts) rest = ap (λ ws. each_text (seen_items ws)) (drop_more vs i d lt) ∙ ap read (sym at) ∙ ap (option_and_then (λ u. option_map (λ ts. u ∷ ts) rest)) is in
    let texts : map string_bytes new ≡ map string_bytes old ++ t ∷ [] = ap (map string_bytes) more ∙ map-append string_bytes old (s ∷ []) ∙ ap (λ u. map string_bytes old ++ u ∷ []) same in
    ap (λ ts. with_texts ts rest) texts ∙ sym (more_texts (map string_bytes old) t rest) ∙ sym (ap (with_texts (map string_bytes old)) here) ∙ before
