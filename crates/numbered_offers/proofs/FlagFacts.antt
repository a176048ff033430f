-- Flags that are set, links that are shown, and answers, each with one more.
use Rattle.std.proofs.Common.{◌≡◌, ◌↔◌, ℕ, suc, ◌-◌, ◌<◌, ◌≤◌, Bool, true, false, ◌&&◌, ◌||◌, ◌==◌, IsTrue, List, [], ◌∷◌, ◌++◌, length, set, Contains, AllPairs, ◌⊎◌, inl, inr, ⊎_elim, refl, sym, subst, ap, ◌∙◌, arith, true≢false}
use Rattle.std.proofs.lemmas.Bool.{and_parts, eq-eqb, or_cases, or_left, or_right, cases_lt}
use Rattle.std.proofs.lemmas.List.{get_or-set_same, get_or-set_other, map-append}
use Rattle.std.proofs.lemmas.List.Elements.{Contains-push, Contains-push_cases, Contains-append_left}
use Rattle.std.proofs.lemmas.List.Folds.{list_any-append}
use Rattle.numbered_graph.specs.Listings.{numbers_below}
use Rattle.numbered_graph.specs.Sets.{has}
use Rattle.numbered_graph.specs.Walks.{Shown, shown_links, is_accepted}
use Rattle.numbered_graph.proofs.Kept.{AllPairs-filter}
use Rattle.numbered_graph.proofs.Numbers.{numbers-rising}
use Rattle.numbered_offers.specs.declared.edge.Edge.{Edge}
use Rattle.numbered_offers.specs.Graphs.{has_optional_half, halves_of, all_links}
use Rattle.numbered_offers.specs.Keeping.{half_at}
use Rattle.numbered_offers.proofs.LinkFacts.{place_lt}
use Rattle.numbered_offers.proofs.OfferFacts.{same_edge}

pub true_or_false : (b : Bool) → (b ≡ true) ⊎ (b ≡ false)
true_or_false true = inl refl
true_or_false false = inr refl

or_true : (b : Bool) → (b || true) ≡ true
or_true true = refl
or_true false = refl

pub or_false : (b : Bool) → (b || false) ≡ b
or_false true = refl
or_false false = refl

-- a flag is set that was set before, or is set now
pub has-set_is : (flags : List Bool) (j x : ℕ) → j < length flags → has (set flags j true) x ≡ (has flags x || (j == x))
has-set_is flags j x lt = ⊎_elim
    (λ same. subst (λ y. has (set flags j true) y ≡ (has flags y || (j == y))) (same_edge j x same) (get_or-set_same flags j true false lt ∙ sym (or_true (has flags j)) ∙ ap (λ b. has flags j || b) (sym (eq-eqb j j refl))))
    (λ other. get_or-set_other flags j x true false (λ e. true≢false (sym (eq-eqb j x (sym e)) ∙ other)) ∙ sym (or_false (has flags x)) ∙ ap (λ b. has flags x || b) (sym other))
    (true_or_false (j == x))

pub set_cases : (flags : List Bool) (j x : ℕ) → j < length flags → has (set flags j true) x ≡ true → (has flags x ≡ true) ⊎ (j ≡ x)
set_cases flags j x lt h = ⊎_elim (λ old. inl old) (λ now. inr (same_edge j x now)) (or_cases (has flags x) (j == x) (sym (has-set_is flags j x lt) ∙ h))

pub set_still : (flags : List Bool) (j x : ℕ) → j < length flags → has flags x ≡ true → has (set flags j true) x ≡ true
set_still flags j x lt h = has-set_is flags j x lt ∙ or_left (has flags x) (j == x) h

pub set_now : (flags : List Bool) (j x : ℕ) → j < length flags → j ≡ x → has (set flags j true) x ≡ true
set_now flags j x lt e = has-set_is flags j x lt ∙ or_right (has flags x) (j == x) (eq-eqb j x e)

same_flag : (x y : Bool) → IsTrue x ↔ IsTrue y → x ≡ y
same_flag true true h = refl
same_flag true false h = absurd (true≢false (sym (h.0 refl)))
same_flag false true h = absurd (true≢false (sym (h.1 refl)))
same_flag false false h = refl

-- as many flags, and the same ones set
pub flags_same : (xs ys : List Bool) → length xs ≡ length ys → ((v : ℕ) → IsTrue (has xs v) ↔ IsTrue (has ys v)) → xs ≡ ys
flags_same [] [] e h = refl
flags_same [] (y ∷ ys) e h = absurd (omega arith)
flags_same (x ∷ xs) [] e h = absurd (omega arith)
flags_same (x ∷ xs) (y ∷ ys) e h = ap (λ b. b ∷ xs) (same_flag x y (h 0)) ∙ ap (λ zs. y ∷ zs) (flags_same xs ys (omega arith) (λ v. h (suc v)))

-- the flag that is set now says that its number is listed now
pub mark_is : (flags : List Bool) (xs : List ℕ) (j x : ℕ) → j < length flags → IsTrue (has flags x) ↔ Contains xs x → IsTrue (has (set flags j true) x) ↔ Contains (xs ++ j ∷ []) x
mark_is flags xs j x lt old = (
  λ h. ⊎_elim (λ before. Contains-append_left xs (j ∷ []) x (old.0 before)) (λ e. subst (Contains (xs ++ j ∷ [])) e (Contains-push xs j)) (set_cases flags j x lt h),
  λ h. ⊎_elim (λ before. set_still flags j x lt (old.1 before)) (λ e. set_now flags j x lt e) (Contains-push_cases xs j x h),
)

-- of another number nothing is changed
pub other_is : (P : Type 0) (xs : List ℕ) (j x : ℕ) → (j ≡ x → ⊥) → P ↔ Contains xs x → P ↔ Contains (xs ++ j ∷ []) x
other_is P xs j x other old = (
  λ p. Contains-append_left xs (j ∷ []) x (old.0 p),
  λ h. old.1 (⊎_elim (λ before. before) (λ e. absurd (other e)) (Contains-push_cases xs j x h)),
)

-- two links do not wait for the half of one edge
pub half_apart : (edges : List Edge) (x y : ℕ) → length edges ≤ x → x < length (all_links edges) → length edges ≤ y → y < length (all_links edges) → half_at edges x ≡ half_at edges y → x ≡ y
half_apart edges x y bx lx by ly e = ⊎_elim (λ lt. absurd (apart x y bx by ly lt e)) (λ ge. ⊎_elim (λ lt. absurd (apart y x by bx lx lt (sym e))) (λ le. omega arith) (cases_lt y x)) (cases_lt x y)
  where
    rising : AllPairs (λ a b. a < b) (halves_of edges)
    rising = AllPairs-filter (λ a b. a < b) (has_optional_half edges) (numbers_below (length edges)) (numbers-rising (length edges))

    apart : (a b : ℕ) → length edges ≤ a → length edges ≤ b → b < length (all_links edges) → a < b → half_at edges a ≡ half_at edges b → ⊥
    apart a b ba bb lb lt same = let less = rising (a - length edges) (b - length edges) 0 (omega arith) (place_lt edges b bb lb) in omega arith

pub links_push : (shown : Shown) (j : ℕ) (b : Bool) → shown_links (shown ++ (j, b) ∷ []) ≡ shown_links shown ++ j ∷ []
links_push shown j b = map-append (λ s. s.0) shown ((j, b) ∷ [])

pub accepted_push : (shown : Shown) (j : ℕ) (b : Bool) (x : ℕ) → is_accepted (shown ++ (j, b) ∷ []) x ≡ (is_accepted shown x || ((j == x) && b))
accepted_push shown j b x = list_any-append (λ s. (s.0 == x) && s.1) shown ((j, b) ∷ []) ∙ ap (λ c. is_accepted shown x || c) (or_false ((j == x) && b))

pub accepted_still : (shown : Shown) (j : ℕ) (b : Bool) (x : ℕ) → is_accepted shown x ≡ true → is_accepted (shown ++ (j, b) ∷ []) x ≡ true
accepted_still shown j b x h = accepted_push shown j b x ∙ or_left (is_accepted shown x) ((j == x) && b) h

pub accepted_now : (shown : Shown) (j : ℕ) (b : Bool) → b ≡ true → is_accepted (shown ++ (j, b) ∷ []) j ≡ true
accepted_now shown j b h = accepted_push shown j b j ∙ or_right (is_accepted shown j) ((j == j) && b) (ap (λ t. t && b) (eq-eqb j j refl) ∙ h)

pub accepted_cases : (shown : Shown) (j : ℕ) (b : Bool) (x : ℕ) → is_accepted (shown ++ (j, b) ∷ []) x ≡ true → (is_accepted shown x ≡ true) ⊎ ((j ≡ x) × (b ≡ true))
accepted_cases shown j b x h =
    ⊎_elim (λ old. inl old) (λ now. let p = and_parts (j == x) b now in inr (same_edge j x p.0, p.1)) (or_cases (is_accepted shown x) ((j == x) && b) (sym (accepted_push shown j b x) ∙ h))
