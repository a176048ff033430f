-- Parts of lists, and what is added to them, made an element at a time.
use Rattle.std.proofs.Common.{◌≡◌, ◌↔◌, ◌⊎◌, inl, inr, List, [], ◌∷◌, ◌++◌, map, sym, subst, Contains, ⊎_elim, Result, Ok, Err, OnOk}
use Rattle.std.proofs.lemmas.List.{map-append}
use Rattle.list_facts.proofs.Membership.{Contains-none, Contains-first, Contains-cons_cases, Contains-append_left, Contains-append_right, Contains-append_cases}
use Rattle.test_select_tests.specs.Kept.{Adds, AreThose, HoldsThose}

module _ {X : Type 0} (P : X → Type 0) where
  pub kept_none : HoldsThose P [] []
  kept_none x = (λ h. absurd (Contains-none x h), λ h. absurd (Contains-none x h.0))

  -- one more, which is kept
  pub kept_one : (all kept : List X) (y : X) → HoldsThose P all kept → P y → HoldsThose P (all ++ y ∷ []) (kept ++ y ∷ [])
  kept_one all kept y so_far holds x =
      let there : Contains (kept ++ y ∷ []) x → Contains (all ++ y ∷ []) x × P x = λ h.
      ⊎_elim
      (λ i. let r = (so_far x).0 i in (Contains-append_left all (y ∷ []) x r.0, r.1))
      (λ i. ⊎_elim (λ e. subst (λ z. Contains (all ++ y ∷ []) z × P z) e (Contains-append_right all (y ∷ []) y (Contains-first y []), holds)) (λ r. absurd (Contains-none x r)) (Contains-cons_cases y [] x i))
      (Contains-append_cases kept (y ∷ []) x h) in
      let back : (Contains (all ++ y ∷ []) x × P x) → Contains (kept ++ y ∷ []) x = λ h.
      ⊎_elim (λ i. Contains-append_left kept (y ∷ []) x ((so_far x).1 (i, h.1))) (λ i. Contains-append_right kept (y ∷ []) x i) (Contains-append_cases all (y ∷ []) x h.0) in
      (there, back)

  -- one more, which is not kept
  pub kept_off : (all kept : List X) (y : X) → HoldsThose P all kept → (P y → ⊥) → HoldsThose P (all ++ y ∷ []) kept
  kept_off all kept y so_far fails x =
      let there : Contains kept x → Contains (all ++ y ∷ []) x × P x = λ h. let r = (so_far x).0 h in (Contains-append_left all (y ∷ []) x r.0, r.1) in
      let back : (Contains (all ++ y ∷ []) x × P x) → Contains kept x = λ h.
      ⊎_elim
      (λ i. (so_far x).1 (i, h.1))
      (λ i. ⊎_elim (λ e. absurd (fails (subst P (sym e) h.1))) (λ r. absurd (Contains-none x r)) (Contains-cons_cases y [] x i))
      (Contains-append_cases all (y ∷ []) x h.0) in
      (there, back)

  those_one : (all kept : List X) (y : X) → AreThose P all kept → P y → AreThose P (all ++ y ∷ []) (kept ++ y ∷ [])
  those_one all kept y so_far holds = record {
    those = kept_one all kept y so_far.those holds;
    decided = λ x i twice. ⊎_elim (λ r. so_far.decided x r twice) (λ r. ⊎_elim (λ e. subst P e holds) (λ n. absurd (Contains-none x n)) (Contains-cons_cases y [] x r)) (Contains-append_cases all (y ∷ []) x i);
  }

  those_off : (all kept : List X) (y : X) → AreThose P all kept → (P y → ⊥) → AreThose P (all ++ y ∷ []) kept
  those_off all kept y so_far fails = record {
    those = kept_off all kept y so_far.those fails;
    decided = λ x i twice. ⊎_elim (λ r. so_far.decided x r twice) (λ r. ⊎_elim (λ e. absurd (twice (subst (λ z. P z → ⊥) e fails))) (λ n. absurd (Contains-none x n)) (Contains-cons_cases y [] x r)) (Contains-append_cases all (y ∷ []) x i);
  }

  pub those_none : AreThose P [] []
  those_none = record { those = kept_none; decided = λ x i _. absurd (Contains-none x i) }

  -- the same of what f gives of the elements
  module _ {A : Type 0} (f : A → X) where
    pub those_map_one : (ys ks more : List A) (y : A) → AreThose P (map f ys) (map f ks) → P (f y) → more ≡ ks ++ y ∷ [] → AreThose P (map f (ys ++ y ∷ [])) (map f more)
    those_map_one ys ks more y so_far holds grown =
        rw (grown, map-append f ys (y ∷ []), map-append f ks (y ∷ [])) (those_one (map f ys) (map f ks) (f y) so_far holds)

    pub those_map_off : (ys ks : List A) (y : A) → AreThose P (map f ys) (map f ks) → (P (f y) → ⊥) → AreThose P (map f (ys ++ y ∷ [])) (map f ks)
    those_map_off ys ks y so_far fails = rw (map-append f ys (y ∷ [])) (those_off (map f ys) (map f ks) (f y) so_far fails)

-- what is added to a list, and then more
module _ {X : Type 0} where
  pub adds_none : (P : X → Type 0) (xs : List X) → ((x : X) → P x → ⊥) → Adds P xs xs
  adds_none P xs none x = (λ h. inl h, λ s. ⊎_elim (λ h. h) (λ p. absurd (none x p)) s)

  pub adds_one : (P : X → Type 0) (old new : List X) (y : X) → new ≡ old ++ y ∷ [] → P y → ((x : X) → P x → y ≡ x) → Adds P old new
  adds_one P old new y grown holds only x = rw grown (
    λ h. ⊎_elim (λ l. inl l) (λ r. ⊎_elim (λ e. inr (subst P e holds)) (λ n. absurd (Contains-none x n)) (Contains-cons_cases y [] x r)) (Contains-append_cases old (y ∷ []) x h),
    λ s. ⊎_elim (λ l. Contains-append_left old (y ∷ []) x l) (λ p. Contains-append_right old (y ∷ []) x (subst (λ z. Contains (y ∷ []) z) (only x p) (Contains-first y []))) s,
  )

  pub adds_then : (P Q R : X → Type 0) (old mid new : List X) → Adds P old mid → Adds Q mid new → ((x : X) → R x ↔ (P x ⊎ Q x)) → Adds R old new
  adds_then P Q R old mid new first second both x = (
    λ h. ⊎_elim (λ m. ⊎_elim (λ o. inl o) (λ p. inr ((both x).1 (inl p))) ((first x).0 m)) (λ z. inr ((both x).1 (inr z))) ((second x).0 h),
    λ s. ⊎_elim (λ o. (second x).1 (inl ((first x).1 (inl o)))) (λ r. ⊎_elim (λ p. (second x).1 (inl ((first x).1 (inr p)))) (λ z. (second x).1 (inr z)) ((both x).0 r)) s,
  )

  pub adds_alike : (P Q : X → Type 0) (old new : List X) → ((x : X) → P x ↔ Q x) → Adds P old new → Adds Q old new
  adds_alike P Q old new alike h x = (
    λ i. ⊎_elim (λ o. inl o) (λ p. inr ((alike x).0 p)) ((h x).0 i),
    λ s. (h x).1 (⊎_elim (λ o. inl o) (λ z. inr ((alike x).1 z)) s),
  )

pub on_ok_so : {A E : Type 0} {P Q : Type 0} (r : Result A E) → (P → Q) → OnOk r P → OnOk r Q
on_ok_so (Ok x) so h = so h
on_ok_so (Err e) so h = h
