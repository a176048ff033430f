-- Listings that are taken out of a map, one after another.
use Rattle.std.proofs.Common.{◌≡◌, ℕ, ◌+◌, ◌<◌, ◌≤◌, List, [], ◌∷◌, ◌++◌, Bool, true, false, cond, length, get_or, take, drop, map, refl, sym, ◌∙◌, ap, subst, inl, inr, ◌⊎◌, ⊎_elim, Contains, take_all, length-take, get_or-take, Option, Some, None, Result, Ok, Err, String, Vec, append-nil, arith, take-append-drop}
use Rattle.std.specs.BTreeMap.{get_by_text}
use Rattle.std.specs.Global.{Global}
use Rattle.std.specs.Map.{update}
use Rattle.std.specs.Prelude.{IsErrAnd, option_map}
use Rattle.std.specs.Str.{bytes_eq}
use Rattle.std.proofs.lemmas.List.{get_or_default}
use Rattle.std.proofs.lemmas.Slice.Eq.{bytes_eq-Decides}
use Rattle.list_facts.proofs.Membership.{Contains-none, Contains-first, Contains-cons_cases, Contains-append_left, Contains-append_right, Contains-append_cases}
use Rattle.list_facts.specs.Texts.{texts}
use Rattle.nextest_binaries.specs.Listers.{Shown, Asked, HeldListings, listing_in, unasked}
use Rattle.nextest_binaries.specs.Listings.{IsWellFormed, HasFault}
use Rattle.nextest_binaries.specs.Asking.{Answered, IsFirstAt, TakesEach}
use Rattle.nextest_binaries.specs.declared.fault.AskError.{AskError}
use Rattle.nextest_binaries.specs.declared.fault.AskError.TheVariants.{Lister, BadListing, Memory}
use Rattle.nextest_binaries.specs.declared.fault.ListingFault.{ListingFault}
use Rattle.nextest_binaries.proofs.Asking.{answered_all, answered_more, answered_none, asked_nothing, failed_at, faulty_at, one_more_id}

-- a lister over the map that was asked for these ids
abbrev pub after_asking : HeldListings → List (List ℕ) → Shown
after_asking was ids = record { asked = ids; failures = 0; listing_of = listing_in was }

-- the listings of the ids before place i were taken out of the map, which has those that it still has from before
pub record AreTaken (was : HeldListings) (ids : List (List ℕ)) (i : ℕ) (taken : List (List (List ℕ))) (is : HeldListings) : Type 0 where
  pub answered : Answered (unasked was) (take i ids) taken (after_asking was (take i ids))
  pub had : (cs : List ℕ) (listing : Vec (String Global) Global) → get_by_text is cs ≡ Some listing → get_by_text was cs ≡ Some listing
  pub gone : (cs : List ℕ) → Contains (take i ids) cs → get_by_text is cs ≡ None
  pub left : (cs : List ℕ) → ¬ (Contains (take i ids) cs) → get_by_text is cs ≡ get_by_text was cs

pub taken_none : (was : HeldListings) (ids : List (List ℕ)) → AreTaken was ids 0 [] was
taken_none was ids = record {
  answered = answered_none (unasked was);
  had = λ cs listing h. h;
  gone = λ cs stands. absurd (Contains-none cs stands);
  left = λ cs apart. refl;
}

kept_on : {X : Type 0} (b : Bool) (x : Option X) (y : X) → cond b None x ≡ Some y → x ≡ Some y
kept_on true x y e = absurd cc
kept_on false x y e = e

-- what stands in a beginning stands in the whole
contained_in_whole : {X : Type 0} (xs : List X) (i : ℕ) (x : X) → Contains (take i xs) x → Contains xs x
contained_in_whole xs i x stands = subst (λ ys. Contains ys x) (take-append-drop i xs) (Contains-append_left (take i xs) (drop i xs) x stands)

-- whatever was taken, ids that stand nowhere keep their listings
pub others_left : {was is : HeldListings} {ids : List (List ℕ)} {i : ℕ} {taken : List (List (List ℕ))} → AreTaken was ids i taken is → (cs : List ℕ) → ¬ (Contains ids cs) → get_by_text is cs ≡ get_by_text was cs
others_left {ids} {i} so_far cs apart = so_far.left cs (λ stands. apart (contained_in_whole ids i cs stands))

none_on : {X : Type 0} (b : Bool) (x : Option X) → (b ≡ true) ⊎ (x ≡ None) → cond b None x ≡ None
none_on true x h = refl
none_on false x h = ⊎_elim (λ e. absurd cc) (λ e. e) h

-- an id that stands first at place i does not stand before it
first_is_new : (ids : List (List ℕ)) (i : ℕ) (id : List ℕ) → get_or ids i [] ≡ id → i < length ids → IsFirstAt ids i → ¬ (Contains (take i ids) id)
first_is_new ids i id at within first stands =
    let k = stands.0 in
    let short : k < length (take i ids) = stands.1 in
    let before : k < i = omega (arith, length-take i ids) in
    first k before (get_or_default ids k [] id (omega arith) ∙ sym (get_or-take i ids k id before) ∙ stands.2 ∙ sym at)

other_left : {X : Type 0} (b : Bool) (x : Option X) → (b ≡ true → ⊥) → cond b None x ≡ x
other_left true x = λ no. absurd (no refl)
other_left false x = λ no. refl

-- the map has no listing that it had not before
abbrev HasNoOther : HeldListings → HeldListings → Type 0
HasNoOther was is = (cs : List ℕ) (listing : Vec (String Global) Global) → get_by_text is cs ≡ Some listing → get_by_text was cs ≡ Some listing

-- memory runs out
pub stops_taking : (was is : HeldListings) (ids : List (List ℕ)) (result : Result (Vec (Vec (String Global) Global) Global) AskError) → IsErrAnd result (λ e. e ≡ Memory) → ((cs : List ℕ) → ¬ (Contains ids cs) → get_by_text is cs ≡ get_by_text was cs) → HasNoOther was is → TakesEach was ids result is
stops_taking was is ids (Ok taken) stopped left had = absurd stopped
stops_taking was is ids (Err e) stopped left had = subst (λ e. TakesEach was ids (Err e) is) (sym stopped) (record { after = unasked was; lists = asked_nothing (unasked was) ids; missing = λ j same. absurd cc; gone = λ other. absurd (other refl); left = left; had = had })

-- the id at place i
module _ (was is : HeldListings) (ids : List (List ℕ)) (i : ℕ) (id : List ℕ) (within : i < length ids) (at : get_or ids i [] ≡ id) (taken : List (List (List ℕ))) (so_far : AreTaken was ids i taken is) where
  abbrev now : Shown
  now = after_asking was (take i ids)

  abbrev next : Shown
  next = after_asking was (take (i + 1) ids)

  asked_next : Asked now (id ∷ []) next
  asked_next = record { asked = one_more_id ids i id within at; failures = refl; listings = refl }

  was_there : (listing : Vec (String Global) Global) → get_by_text is id ≡ Some listing → listing_in was id ≡ Some (texts listing.items)
  was_there listing there = ap (option_map (λ (l : Vec (String Global) Global). texts l.items)) (so_far.had id listing there)

  cases : (cs : List ℕ) → Contains (take (i + 1) ids) cs → Contains (take i ids) cs ⊎ (id ≡ cs)
  cases cs stands =
      ⊎_elim (λ before. inl before) (λ last. ⊎_elim (λ e. inr e) (λ no. absurd (Contains-none cs no)) (Contains-cons_cases id [] cs last)) (Contains-append_cases (take i ids) (id ∷ []) cs (subst (λ xs. Contains xs cs) (one_more_id ids i id within at) stands))

  is_before : (cs : List ℕ) → Contains (take i ids) cs → Contains (take (i + 1) ids) cs
  is_before cs stands = subst (λ xs. Contains xs cs) (sym (one_more_id ids i id within at)) (Contains-append_left (take i ids) (id ∷ []) cs stands)

  is_last : (cs : List ℕ) → id ≡ cs → Contains (take (i + 1) ids) cs
  is_last cs same = subst (λ x. Contains (take (i + 1) ids) x) same (subst (λ xs. Contains xs id) (sym (one_more_id ids i id within at)) (Contains-append_right (take i ids) (id ∷ []) id (Contains-first id [])))

  left_next : (new : HeldListings) → ((cs : List ℕ) → get_by_text new cs ≡ update bytes_eq (get_by_text is) id None cs) → (cs : List ℕ) → ¬ (Contains (take (i + 1) ids) cs) → get_by_text new cs ≡ get_by_text was cs
  left_next new changed cs apart = changed cs ∙ other_left (bytes_eq id cs) (get_by_text is cs) (λ e. apart (is_last cs ((bytes_eq-Decides id cs).0 e))) ∙ so_far.left cs (λ before. apart (is_before cs before))

  gone_next : (new : HeldListings) → ((cs : List ℕ) → get_by_text new cs ≡ update bytes_eq (get_by_text is) id None cs) → (cs : List ℕ) → Contains (take (i + 1) ids) cs → get_by_text new cs ≡ None
  gone_next new changed cs stands = changed cs ∙ none_on (bytes_eq id cs) (get_by_text is cs) (⊎_elim (λ before. inr (so_far.gone cs before)) (λ last. inl ((bytes_eq-Decides id cs).1 last)) (cases cs stands))

  had_next : (new : HeldListings) → ((cs : List ℕ) → get_by_text new cs ≡ update bytes_eq (get_by_text is) id None cs) → HasNoOther was new
  had_next new changed cs other is_other = so_far.had cs other (kept_on (bytes_eq id cs) (get_by_text is cs) other (sym (changed cs) ∙ is_other))

  -- its listing is taken too
  pub taken_more : (listing : Vec (String Global) Global) (new : HeldListings) → get_by_text is id ≡ Some listing → ((cs : List ℕ) → get_by_text new cs ≡ update bytes_eq (get_by_text is) id None cs) → IsWellFormed (texts listing.items) → AreTaken was ids (i + 1) (taken ++ texts listing.items ∷ []) new
  taken_more listing new there changed good = record {
    answered = answered_more ids i id within at (unasked was) now next taken so_far.answered (texts listing.items) asked_next (omega arith) (was_there listing there) good;
    had = had_next new changed;
    gone = gone_next new changed;
    left = left_next new changed;
  }

  -- it has none
  missing_at : get_by_text is id ≡ None → IsFirstAt ids i → listing_in was (get_or ids i []) ≡ None
  missing_at none first =
      ap (option_map (λ (l : Vec (String Global) Global). texts l.items)) (ap (get_by_text was) at ∙ sym (so_far.left id (first_is_new ids i id at within first)) ∙ none)

  pub fails_at : (new : HeldListings) → get_by_text is id ≡ None → ((cs : List ℕ) → get_by_text new cs ≡ update bytes_eq (get_by_text is) id None cs) → TakesEach was ids (Err (Lister i)) new
  fails_at new none changed = record {
    after = record { asked = take i ids; failures = 1; listing_of = listing_in was };
    lists = failed_at ids i id within at (unasked was) now _ taken so_far.answered (record { asked = inl (sym (append-nil (take i ids))); failures = refl; listings = refl });
    missing = λ j same. let here : i ≡ j = cc in subst (λ k. IsFirstAt ids k → listing_in was (get_or ids k []) ≡ None) here (missing_at none);
    gone = λ other. gone_next new changed;
    left = left_next new changed;
    had = had_next new changed;
  }

  -- its listing has a fault
  pub finds_fault : (listing : Vec (String Global) Global) (fault : ListingFault) (new : HeldListings) → get_by_text is id ≡ Some listing → ((cs : List ℕ) → get_by_text new cs ≡ update bytes_eq (get_by_text is) id None cs) → HasFault (texts listing.items) fault → TakesEach was ids (Err (BadListing i fault)) new
  finds_fault listing fault new there changed bad = record {
    after = next;
    lists = faulty_at ids i id within at (unasked was) now next taken so_far.answered (texts listing.items) fault asked_next (omega arith) (was_there listing there) bad;
    missing = λ j same. absurd cc;
    gone = λ other. gone_next new changed;
    left = left_next new changed;
    had = had_next new changed;
  }

  -- memory runs out after it
  pub stops_after : (new : HeldListings) → ((cs : List ℕ) → get_by_text new cs ≡ update bytes_eq (get_by_text is) id None cs) → (result : Result (Vec (Vec (String Global) Global) Global) AskError) → IsErrAnd result (λ e. e ≡ Memory) → TakesEach was ids result new
  stops_after new changed result stopped = stops_taking was new ids result stopped (λ cs apart. left_next new changed cs (λ stands. apart (contained_in_whole ids (i + 1) cs stands))) (had_next new changed)

-- all are taken
pub takes_all : (was is : HeldListings) (ids : List (List ℕ)) (i : ℕ) (taken : Vec (Vec (String Global) Global) Global) → length ids ≤ i → AreTaken was ids i (map (λ (v : Vec (String Global) Global). texts v.items) taken.items) is → TakesEach was ids (Ok taken) is
takes_all was is ids i taken past done = record {
  after = after_asking was (take i ids);
  lists = answered_all ids i (unasked was) (after_asking was (take i ids)) _ past done.answered;
  missing = λ j same. absurd cc;
  gone = λ other cs stands. done.gone cs (subst (λ xs. Contains xs cs) (sym (take_all i ids past)) stands);
  left = others_left done;
  had = done.had;
}
