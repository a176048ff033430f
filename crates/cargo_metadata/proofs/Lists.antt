-- Lists of values, and what reading makes of them element by element.
use Rattle.std.proofs.Common.{◌≡◌, ◌∙◌, refl, sym, ap, append_assoc, ℕ, ◌+◌, ◌<◌, List, [], ◌∷◌, ◌++◌, drop, get_or, length, ◌&&◌, is_some, Result, Ok, Err}
use Rattle.std.proofs.lemmas.List.{drop_more}
use Rattle.std.specs.List.{list_all}
use Rattle.serde_json.specs.Data.{Data, Members, member}
use Rattle.serde_json.specs.Find.{as_object}
use Rattle.serde_json.specs.View.{view, items_view}
use Rattle.serde_json.specs.declared.value.Value.{Value}
use Rattle.workspace_record.specs.Records.{Text, FeatureEntry}
use Rattle.cargo_metadata.specs.declared.key.Key.TheVariants as key
use Rattle.cargo_metadata.specs.Faults.{Fault}
use Rattle.cargo_metadata.specs.Outcomes.{◌>>=◌}
use Rattle.cargo_metadata.specs.Packages.{each_feature}
use Rattle.cargo_metadata.specs.Values.{each, all_objects, texts_of}

-- what is read, behind what was read before
abbrev pub with_front : {A : Type 0} → List A → Result (List A) Fault → Result (List A) Fault
with_front front said = said >>= λ xs. Ok (front ++ xs)

-- the values from a place on, each under `read`
abbrev pub from_value : {A : Type 0} → (Data → Result A Fault) → List Value → ℕ → Result (List A) Fault
from_value read vs i = each read (items_view (drop i vs))

pub all_objects_seen : (vs : List Value) → list_all (λ v. is_some (as_object (view v))) vs ≡ all_objects (items_view vs)
all_objects_seen [] = refl
all_objects_seen (v ∷ vs) = ap (λ b. is_some (as_object (view v)) && b) (all_objects_seen vs)

-- the value at a place is read too, behind what was read before
with_more : {A : Type 0} (front : List A) (x : A) (rest : Result (List A) Fault) → with_front front (rest >>= λ xs. Ok (x ∷ xs)) ≡ with_front (front ++ x ∷ []) rest
with_more front x (Ok xs) = ap Ok (sym (append_assoc front (x ∷ []) xs))
with_more front x (Err fault) = refl

pub each_step : {A : Type 0} (read : Data → Result A Fault) (vs : List Value) (i : ℕ) (d v : Value) (x : A) (front new : List A) → i < length vs → v ≡ get_or vs i d → read (view v) ≡ Ok x → new ≡ front ++ x ∷ [] → with_front front (from_value read vs i) ≡ each read (items_view vs) → with_front new (from_value read vs (i + 1)) ≡ each read (items_view vs)
each_step read vs i d v x front new lt at is more before =
    let rest = from_value read vs (i + 1) in
    let here : from_value read vs i ≡ (rest >>= λ xs. Ok (x ∷ xs)) = ap (λ ws. each read (items_view ws)) (drop_more vs i d lt) ∙ ap (λ w. read (view w) >>= λ y. rest >>= λ xs. Ok (y ∷ xs)) (sym at) ∙ ap (λ r. r >>= λ y. rest >>= λ xs. Ok (y ∷ xs)) is in
    ap (λ xs. with_front xs rest) more ∙ sym (with_more front x rest) ∙ sym (ap (with_front front) here) ∙ before

-- the first of the features is read too, behind those that were read before
pub feature_step : (f : FeatureEntry) (name : Text) (d : Data) (ms : Members) (front new : List FeatureEntry) (all : Result (List FeatureEntry) Fault) → f.name ≡ name → texts_of key.Features d ≡ Ok f.enables → new ≡ front ++ f ∷ [] → with_front front (each_feature (member name d ms)) ≡ all → with_front new (each_feature ms) ≡ all
feature_step f name d ms front new all same is more before =
    let rest = each_feature ms in
    let entry : Text → List Text → FeatureEntry = λ n ts. record { name = n; enables = ts } in
    let here : each_feature (member name d ms) ≡ (rest >>= λ fs. Ok (f ∷ fs)) = ap (λ r. r >>= λ ts. rest >>= λ fs. Ok (entry name ts ∷ fs)) is ∙ ap (λ n. rest >>= λ fs. Ok (entry n f.enables ∷ fs)) (sym same) in
    ap (λ xs. with_front xs rest) more ∙ sym (with_more front f rest) ∙ sym (ap (with_front front) here) ∙ before
