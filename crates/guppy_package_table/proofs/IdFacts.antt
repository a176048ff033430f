-- Places of ids that are apart.
use Rattle.std.proofs.Common.{◌≡◌, ◌≢◌, refl, sym, ap, ◌∙◌, ℕ, zero, suc, ◌+◌, ◌<◌, ◌≤◌, List, [], ◌∷◌, ◌++◌, Bool, true, false, not, ◌||◌, map, length, take, get_or, AllPairs, Some, None, position, nat_lt, cond, arith, if◌then◌else◌}
use Rattle.std.proofs.lemmas.Bool.Decides.{nat_tests}
use Rattle.std.specs.List.{list_any, position_or_len}
use Rattle.std.proofs.lemmas.List.Sums.{prefix_len-le-length}
use Rattle.workspace_record.specs.Equality.{text_eq, texts_decide}
use Rattle.workspace_record.specs.Records.{Text}
use Rattle.indexmap.specs.IndexSet.{insert_key}
use Rattle.list_facts.proofs.Lists.{map-take_more}

closed : (a b : ℕ) → a ≤ b → cond (nat_lt a b) (Some a) None ≡ None → a ≡ b
closed a b le none = grind (arith, nat_tests, le, none)

pub at_end : {X : Type 0} (p : X → Bool) (xs : List X) → position p xs ≡ None → position_or_len p xs ≡ length xs
at_end p xs none = closed (position_or_len p xs) (length xs) (prefix_len-le-length (λ x. not (p x)) xs) none

no : (b : Bool) → ¬ b ≡ true → b ≡ false
no true h = absurd (h refl)
no false h = refl

differs : (x y : Text) → x ≢ y → text_eq y x ≡ false
differs x y apart = no (text_eq y x) (λ h. apart (sym ((texts_decide y x).0 h)))

added : (y : Text) (ks : List Text) → list_any (text_eq y) ks ≡ false → insert_key text_eq ks y ≡ ks ++ y ∷ []
added y ks new = ap (λ b. if b then ks else (ks ++ y ∷ [])) new

neither : (a b : Bool) → a ≡ false → b ≡ false → (a || b) ≡ false
neither false b p q = q
neither true b p q = p

module _ {X : Type 0} (id : X → Text) where
  -- an id that differs from all others is not among those before it
  pub new_id : (xs : List X) (i : ℕ) (d : X) → i < length xs → AllPairs (λ a b. id a ≢ id b) xs → list_any (text_eq (id (get_or xs i d))) (map id (take i xs)) ≡ false
  new_id xs zero d lt apart = refl
  new_id [] (suc i) d lt apart = refl
  new_id (x ∷ xs) (suc i) d lt apart =
      neither _ _ (differs (id x) (id (get_or xs i d)) (apart 0 (suc i) d (omega arith) (omega (arith, lt))))
      (new_id xs i d (omega (arith, lt)) (λ j k e before within. apart (suc j) (suc k) e (omega (arith, before)) (omega (arith, within))))

  -- one id more
  pub ids_more : (xs : List X) (i : ℕ) (d : X) → i < length xs → AllPairs (λ a b. id a ≢ id b) xs → (old new : List Text) → old ≡ map id (take i xs) → new ≡ insert_key text_eq old (id (get_or xs i d)) → new ≡ map id (take (i + 1) xs)
  ids_more xs i d lt apart old new is inserted =
      inserted ∙ ap (λ ks. insert_key text_eq ks (id (get_or xs i d))) is ∙ added _ _ (new_id xs i d lt apart) ∙ sym (map-take_more id xs i d lt)
