-- One call more, or the last one, after some ids were answered.
use Rattle.std.proofs.Common.{◌≡◌, ℕ, ◌+◌, ◌<◌, ◌≤◌, List, [], ◌∷◌, ◌++◌, length, All, get_or, take, map, refl, sym, ◌∙◌, ap, subst, inl, inr, ⊎_elim, Some, append_assoc, append-nil, take_all, arith}
use Rattle.std.proofs.lemmas.List.{take_more, map-append, length-map, get_or-map}
use Rattle.std.proofs.lemmas.List.Elements.{All-more}
use Rattle.nextest_binaries.specs.Listers.{Shown, Asked, Failed, largest, one_more}
use Rattle.nextest_binaries.specs.Listings.{IsWellFormed, HasFault}
use Rattle.nextest_binaries.specs.Asking.{HoldsWellFormed, Answered, FailedAt, FaultyAt, AskedSome}
use Rattle.nextest_binaries.specs.declared.fault.ListingFault.{ListingFault}

pub answered_none : (s : Shown) → Answered s [] [] s
answered_none s = record {
  asked = record { asked = sym (append-nil s.asked); failures = refl; listings = refl };
  not_full = λ lt. absurd (omega arith);
  held = refl;
  well_formed = λ k d lt. absurd (omega arith);
}

-- before anything was asked
pub asked_nothing : (s : Shown) (ids : List (List ℕ)) → AskedSome s ids s
asked_nothing s ids = record {
  count = 0;
  tested = 0;
  last_untested = omega arith;
  asked = record { asked = sym (append-nil s.asked); failures = refl; listings = refl };
  well_formed = λ k d lt. absurd (omega arith);
}

-- once all were answered
pub asked_all : (s t : Shown) (ids : List (List ℕ)) (answers : List (List (List ℕ))) → Answered s ids answers t → AskedSome s ids t
asked_all s t ids answers h = record {
  count = length ids;
  tested = length ids;
  last_untested = omega arith;
  asked = subst (λ xs. Asked s xs t) (sym (take_all (length ids) ids (omega arith))) h.asked;
  well_formed = subst (All (HoldsWellFormed s)) (sym (take_all (length ids) ids (omega arith))) h.well_formed;
}

-- the id at place i
module _ (ids : List (List ℕ)) (i : ℕ) (id : List ℕ) (within : i < length ids) (at : get_or ids i [] ≡ id) where
  pub one_more_id : take (i + 1) ids ≡ take i ids ++ id ∷ []
  one_more_id = take_more ids i [] within ∙ ap (λ x. take i ids ++ x ∷ []) at

  pub asked_more : (s t u : Shown) → Asked s (take i ids) t → Asked t (id ∷ []) u → Asked s (take (i + 1) ids) u
  asked_more s t u a b = record {
    asked = b.asked ∙ ap (λ xs. xs ++ id ∷ []) a.asked ∙ append_assoc s.asked (take i ids) (id ∷ []) ∙ ap (λ xs. s.asked ++ xs) (sym one_more_id);
    failures = b.failures ∙ a.failures;
    listings = b.listings ∙ a.listings;
  }

  module _ (s t u : Shown) (answers : List (List (List ℕ))) (so_far : Answered s (take i ids) answers t) where
    below : t.failures < largest → s.failures < largest
    below lt = subst (λ n. n < largest) so_far.asked.failures lt

    holds : (names : List (List ℕ)) → t.listing_of id ≡ Some names → s.listing_of (get_or ids i []) ≡ Some names
    holds names h = subst (λ f. f (get_or ids i []) ≡ Some names) so_far.asked.listings (ap t.listing_of at ∙ h)

    pub answered_more : (names : List (List ℕ)) → Asked t (id ∷ []) u → t.failures < largest → t.listing_of id ≡ Some names → IsWellFormed names → Answered s (take (i + 1) ids) (answers ++ names ∷ []) u
    answered_more names b lt h good = record {
      asked = asked_more s t u so_far.asked b;
      not_full = λ _. below lt;
      held = map-append Some answers (names ∷ []) ∙ ap (λ xs. xs ++ Some names ∷ []) so_far.held ∙ ap (λ x. map s.listing_of (take i ids) ++ x ∷ []) (sym (holds names h)) ∙ sym (map-append s.listing_of (take i ids) (get_or ids i [] ∷ [])) ∙ ap (map s.listing_of) (sym (take_more ids i [] within));
      well_formed = All-more (HoldsWellFormed s) ids i [] within so_far.well_formed (names, holds names h, good);
    }

    pub failed_at : Failed t (id ∷ []) 0 u → FailedAt s ids i u
    failed_at f = record {
      within = within;
      failed = record {
        asked = ⊎_elim (λ e. inl (e ∙ append-nil t.asked ∙ so_far.asked.asked)) (λ e. inr (e ∙ ap (λ xs. xs ++ id ∷ []) so_far.asked.asked ∙ append_assoc s.asked (take i ids) (id ∷ []) ∙ ap (λ xs. s.asked ++ xs) (sym one_more_id))) f.asked;
        failures = f.failures ∙ ap one_more so_far.asked.failures;
        listings = f.listings ∙ so_far.asked.listings;
      };
      well_formed = so_far.well_formed;
    }

    -- memory ran out before the last listing was tested or kept
    pub asked_some : Asked t (id ∷ []) u → AskedSome s ids u
    asked_some b = record {
      count = i + 1;
      tested = i;
      last_untested = omega arith;
      asked = asked_more s t u so_far.asked b;
      well_formed = so_far.well_formed;
    }

    pub faulty_at : (names : List (List ℕ)) (fault : ListingFault) → Asked t (id ∷ []) u → t.failures < largest → t.listing_of id ≡ Some names → HasFault names fault → FaultyAt s ids i fault u
    faulty_at names fault b lt h bad = record {
      within = within;
      asked = asked_more s t u so_far.asked b;
      not_full = below lt;
      faulty = (names, holds names h, bad);
      well_formed = so_far.well_formed;
    }

-- all ids were answered
pub answered_all : (ids : List (List ℕ)) (i : ℕ) (s t : Shown) (answers : List (List (List ℕ))) → length ids ≤ i → Answered s (take i ids) answers t → Answered s ids answers t
answered_all ids i s t answers past h = subst (λ xs. Answered s xs answers t) (take_all i ids past) h

-- the ids of some elements, and that of the one at i
module _ {B : Type 0} (id_of : B → List ℕ) (bs : List B) (i : ℕ) where
  pub id_within : i < length bs → i < length (map id_of bs)
  id_within lt = omega (arith, length-map bs id_of)

  pub id_at : (b : B) → i < length bs → get_or (map id_of bs) i [] ≡ id_of (get_or bs i b)
  id_at b lt = get_or-map id_of bs i b [] lt
