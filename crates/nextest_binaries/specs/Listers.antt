-- What a lister shows, and what a call of it changes.
use Rattle.std.specs.Prelude.{◌≡◌, ℕ, ◌+◌, ◌-◌, ◌^◌, ◌<◌, min, List, [], ◌∷◌, ◌++◌, take, ◌⊎◌, Option, Some, Result, Ok, Err, Vec, String, option_map}
use Rattle.std.specs.Global.{Global}
use Rattle.std.specs.BTreeMap.{BTreeMap, get_by_text}
use Rattle.list_facts.specs.Texts.{texts}

-- the ids that were asked, first to last, the count of calls that failed, and the listing that the lister holds for an id
pub record Shown : Type 0 where
  pub asked : List (List ℕ)
  pub failures : ℕ
  pub listing_of : List ℕ → Option (List (List ℕ))

-- the largest count of failures
abbrev pub largest : ℕ
largest = 2 ^ 64 - 1

-- a count of failures after one more, which stays at the largest
abbrev pub one_more : ℕ → ℕ
one_more n = min (n + 1) largest

-- the ids were asked, in order, and no call failed
pub record Asked (old : Shown) (ids : List (List ℕ)) (new : Shown) : Type 0 where
  pub asked : new.asked ≡ old.asked ++ ids
  pub failures : new.failures ≡ old.failures
  pub listings : new.listing_of ≡ old.listing_of

-- the ids before place i were asked, and the call for the id at i failed: that id is among the asked ones only if there was room for it
pub record Failed (old : Shown) (ids : List (List ℕ)) (i : ℕ) (new : Shown) : Type 0 where
  pub asked : (new.asked ≡ old.asked ++ take i ids) ⊎ (new.asked ≡ old.asked ++ take (i + 1) ids)
  pub failures : new.failures ≡ one_more old.failures
  pub listings : new.listing_of ≡ old.listing_of

-- what one call does: an answer is the listing held for the id, and there is none once the count of failures is the largest
abbrev pub Lists : {E : Type 0} → Shown → List ℕ → Result (Vec (String Global) Global) E → Shown → Type 0
Lists old id (Ok listing) new = Asked old (id ∷ []) new × (old.failures < largest) × (old.listing_of id ≡ Some (texts listing.items))
Lists old id (Err e) new = Failed old (id ∷ []) 0 new

-- listings, by the id of their binary
abbrev pub HeldListings : Type 0
HeldListings = BTreeMap (String Global) (Vec (String Global) Global)

-- the listing that a map holds for an id
abbrev pub listing_in : HeldListings → List ℕ → Option (List (List ℕ))
listing_in listings id = option_map (λ listing. texts listing.items) (get_by_text listings id)

-- a lister that was asked nothing yet and holds these listings
abbrev pub unasked : HeldListings → Shown
unasked listings = record { asked = []; failures = 0; listing_of = listing_in listings }
