-- Packages that are picked one by one.
use Rattle.std.proofs.Common.{◌≡◌, ◌∙◌, ◌↔◌, ◌⊎◌, ◌+◌, ◌<◌, inl, inr, ⊎_elim, refl, sym, ap, subst, true≢false, append-nil, length, take, drop, get_or, Bool, true, false, IsTrue, if◌then◌else◌, ℕ, List, [], ◌∷◌, ◌++◌, map, Contains}
use Rattle.list_facts.specs.Ascending.{text_cmp}
use Rattle.nextest_filtering.proofs.ContextFacts.{map-append}
use Rattle.list_facts.proofs.Ascending.{text_total, text_exact, Contains-insert_key, Contains-insert_key_cases}
use Rattle.list_facts.proofs.Membership.{Contains-none, Contains-first, Contains-rest, Contains-cons_cases, Contains-append_left, Contains-append_right, Contains-append_cases}
use Rattle.std.proofs.lemmas.List.{take_more, drop_more}
use Rattle.std.specs.BTreeSet.{insert_key}
use Rattle.workspace_record.specs.Records.{Text}
use Rattle.nextest_filter_evaluation.specs.NameTests.{NameTest, Suits, SuitsOneOf}
use Rattle.nextest_filter_evaluation.proofs.NameFacts.{suits_first, suits_none}
use Rattle.nextest_filtering.specs.ContextViews.{ArePicked}

-- what one more element adds
last_of : {X : Type 0} (xs : List X) (x : X) → Contains (xs ++ x ∷ []) x
last_of xs x = Contains-append_right xs (x ∷ []) x (Contains-first x [])

more_cases : {X : Type 0} (xs : List X) (x y : X) → Contains (xs ++ x ∷ []) y → Contains xs y ⊎ (x ≡ y)
more_cases xs x y h = ⊎_elim (λ l. inl l) (λ r. ⊎_elim (λ e. inr e) (λ n. absurd (Contains-none y n)) (Contains-cons_cases x [] y r)) (Contains-append_cases xs (x ∷ []) y h)

pub picked_none : (passes : Text × Text → Type 0) → ArePicked passes [] []
picked_none passes id = (λ h. absurd (Contains-none id h), λ h. absurd (Contains-none h.0 h.1))

picked_more : (passes : Text × Text → Type 0) (xs : List (Text × Text)) (x : Text × Text) (ids : List Text) → passes x → ArePicked passes xs ids → ArePicked passes (xs ++ x ∷ []) (ids ++ x.0 ∷ [])
picked_more passes xs x ids pass was id = (
  λ h. ⊎_elim (λ l. let q = (was id).0 l in (q.0, Contains-append_left xs (x ∷ []) q.0 q.1, q.2, q.3)) (λ e. (x, last_of xs x, pass, e)) (more_cases ids x.0 id h),
  λ (p, listed, passed, e). ⊎_elim (λ l. Contains-append_left ids (x.0 ∷ []) id ((was id).1 (p, l, passed, e))) (λ same. subst (λ y. Contains (ids ++ x.0 ∷ []) y) (ap (λ (q : Text × Text). q.0) same ∙ e) (last_of ids x.0)) (more_cases xs x p listed),
)

picked_over : (passes : Text × Text → Type 0) (xs : List (Text × Text)) (x : Text × Text) (ids : List Text) → (passes x → ⊥) → ArePicked passes xs ids → ArePicked passes (xs ++ x ∷ []) (ids ++ [])
picked_over passes xs x ids out was id = (
  λ h. let q = (was id).0 (subst (λ ys. Contains ys id) (append-nil ids) h) in (q.0, Contains-append_left xs (x ∷ []) q.0 q.1, q.2, q.3),
  λ (p, listed, passed, e). ⊎_elim (λ l. subst (λ ys. Contains ys id) (sym (append-nil ids)) ((was id).1 (p, l, passed, e))) (λ same. absurd (out (subst passes (sym same) passed))) (more_cases xs x p listed),
)

-- one more package, which is picked if it passes
pub picked_step : (passes : Text × Text → Type 0) (xs more : List (Text × Text)) (x : Text × Text) (ids new : List Text) (b : Bool) → (IsTrue b ↔ passes x) → more ≡ xs ++ x ∷ [] → new ≡ ids ++ (if b then x.0 ∷ [] else []) → ArePicked passes xs ids → ArePicked passes more new
picked_step passes xs more x ids new true says e n was = rw (e, n) (picked_more passes xs x ids (says.0 refl) was)
picked_step passes xs more x ids new false says e n was = rw (e, n) (picked_over passes xs x ids (λ p. true≢false (sym (says.1 p))) was)

pub same_none : (keys : List Text) → keys ≡ [] → (id : Text) → Contains keys id ↔ Contains [] id
same_none keys e id = (λ h. subst (λ ys. Contains ys id) e h, λ h. subst (λ ys. Contains ys id) (sym e) h)

pub same_more : (keys new ids more : List Text) (k : Text) → new ≡ insert_key text_cmp keys k → more ≡ ids ++ k ∷ [] → ((id : Text) → Contains keys id ↔ Contains ids id) → (id : Text) → Contains new id ↔ Contains more id
same_more keys new ids more k n e was id = rw (n, e) (
  λ h. ⊎_elim (λ same. subst (λ y. Contains (ids ++ k ∷ []) y) same (last_of ids k)) (λ r. Contains-append_left ids (k ∷ []) id ((was id).0 r)) (Contains-cons_cases k keys id (Contains-insert_key_cases text_total text_exact keys k id h)),
  λ h. Contains-insert_key text_total text_exact keys k id (⊎_elim (λ l. Contains-rest k keys id ((was id).1 l)) (λ same. subst (λ y. Contains (k ∷ keys) y) same (Contains-first k keys)) (more_cases ids k id h)),
)

pub one_more : {X : Type 0} (xs : List X) (i : ℕ) (d x : X) → i < length xs → x ≡ get_or xs i d → take (i + 1) xs ≡ take i xs ++ x ∷ []
one_more xs i d x lt e = take_more xs i d lt ∙ ap (λ y. take i xs ++ y ∷ []) (sym e)

pub one_less : {X : Type 0} (xs : List X) (i : ℕ) (d x : X) → i < length xs → x ≡ get_or xs i d → drop i xs ≡ x ∷ drop (i + 1) xs
one_less xs i d x lt e = drop_more xs i d lt ∙ ap (λ y. y ∷ drop (i + 1) xs) (sym e)

pub more_of : {X Y : Type 0} (f : X → Y) (xs : List X) (i : ℕ) (d x : X) → i < length xs → x ≡ get_or xs i d → map f (take (i + 1) xs) ≡ map f (take i xs) ++ f x ∷ []
more_of f xs i d x lt e = ap (map f) (one_more xs i d x lt e) ∙ map-append f (take i xs) (x ∷ [])

-- the first of the names that are left suits, and so one of all
pub found_first : (t : NameTest) (all left : List Text) (x : Text) (rest : List Text) (b : Bool) → left ≡ x ∷ rest → (IsTrue b ↔ Suits t x) → IsTrue b → SuitsOneOf t all ↔ SuitsOneOf t left → IsTrue true ↔ SuitsOneOf t all
found_first t all left x rest b e says suited h = (λ here. h.1 (subst (SuitsOneOf t) (sym e) (suits_first t x rest (says.0 suited))), λ s. refl)

-- no name is left, and so none of all suits
pub found_none : (t : NameTest) (all left : List Text) → left ≡ [] → SuitsOneOf t all ↔ SuitsOneOf t left → IsTrue false ↔ SuitsOneOf t all
found_none t all left e h = (λ no. absurd (true≢false (sym no)), λ s. absurd (suits_none t left e (h.0 s)))
