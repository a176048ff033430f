-- What it is to ask for several listings, one after another.
use Rattle.std.specs.Prelude.{◌≡◌, ◌≢◌, ℕ, ◌+◌, ◌<◌, ◌≤◌, List, length, take, map, All, slice_index_or, [], Contains, Some, None, Result, Ok, Err, Vec, String}
use Rattle.std.specs.BTreeMap.{get_by_text}
use Rattle.std.specs.Global.{Global}
use Rattle.list_facts.specs.Texts.{texts}
use Rattle.nextest_binaries.specs.Listers.{Shown, Asked, Failed, HeldListings, largest, listing_in, unasked}
use Rattle.nextest_binaries.specs.Listings.{IsWellFormed, HasFault}
use Rattle.nextest_binaries.specs.declared.fault.ListingFault.{ListingFault}
use Rattle.nextest_binaries.specs.declared.fault.AskError.{AskError}
use Rattle.nextest_binaries.specs.declared.fault.AskError.TheVariants.{Lister, BadListing, Memory}

-- the lister holds a well-formed listing for the id
abbrev pub HoldsWellFormed : Shown → List ℕ → Type 0
HoldsWellFormed lister id = (names : List (List ℕ)) × (lister.listing_of id ≡ Some names) × IsWellFormed names

-- the lister holds a listing with this fault for the id
abbrev pub HoldsFaulty : Shown → ListingFault → List ℕ → Type 0
HoldsFaulty lister fault id = (names : List (List ℕ)) × (lister.listing_of id ≡ Some names) × HasFault names fault

-- each id was answered, by the listing that the lister holds for it, and each listing is well-formed
pub record Answered (old : Shown) (ids : List (List ℕ)) (answers : List (List (List ℕ))) (new : Shown) : Type 0 where
  pub asked : Asked old ids new
  pub not_full : 0 < length ids → old.failures < largest
  pub held : map Some answers ≡ map old.listing_of ids
  pub well_formed : All (HoldsWellFormed old) ids

-- the call for the id at place i failed, and the listings before it are well-formed
pub record FailedAt (old : Shown) (ids : List (List ℕ)) (i : ℕ) (new : Shown) : Type 0 where
  pub within : i < length ids
  pub failed : Failed old ids i new
  pub well_formed : All (HoldsWellFormed old) (take i ids)

-- the id at place i was the last one asked, its listing has the fault, and the listings before it are well-formed
pub record FaultyAt (old : Shown) (ids : List (List ℕ)) (i : ℕ) (fault : ListingFault) (new : Shown) : Type 0 where
  pub within : i < length ids
  pub asked : Asked old (take (i + 1) ids) new
  pub not_full : old.failures < largest
  pub faulty : HoldsFaulty old fault (slice_index_or ids i [])
  pub well_formed : All (HoldsWellFormed old) (take i ids)

-- a beginning of the ids was asked for, no call failed, and the listings of these, but maybe the last one's, are well-formed
pub record AskedSome (old : Shown) (ids : List (List ℕ)) (new : Shown) : Type 0 where
  pub count : ℕ
  pub tested : ℕ
  pub last_untested : count ≤ tested + 1
  pub asked : Asked old (take count ids) new
  pub well_formed : All (HoldsWellFormed old) (take tested ids)

-- what asking for the listings of these ids does, also where memory runs out
abbrev pub ListsEach : Shown → List (List ℕ) → Result (Vec (Vec (String Global) Global) Global) AskError → Shown → Type 0
ListsEach old ids (Ok listings) new = Answered old ids (map (λ listing. texts listing.items) listings.items) new
ListsEach old ids (Err (Lister i)) new = FailedAt old ids i new
ListsEach old ids (Err (BadListing i fault)) new = FaultyAt old ids i fault new
ListsEach old ids (Err Memory) new = AskedSome old ids new

-- no id before place i is the one there
abbrev pub IsFirstAt : List (List ℕ) → ℕ → Type 0
IsFirstAt ids i = (j : ℕ) → j < i → slice_index_or ids j [] ≢ slice_index_or ids i []

-- the ids that were come to: all, or those up to the one at which the taking ended; where memory ran out, maybe all
abbrev pub come_to : {A : Type 0} → List (List ℕ) → Result A AskError → List (List ℕ)
come_to ids (Ok listings) = ids
come_to ids (Err (Lister i)) = take (i + 1) ids
come_to ids (Err (BadListing i fault)) = take (i + 1) ids
come_to ids (Err Memory) = ids

-- the listings of these ids are taken out of a map, which keeps all others as they were, also those of ids that were not come to: what asking a lister over it comes to, which fails for an id alone that has no listing, or whose was taken before
pub record TakesEach (old : HeldListings) (ids : List (List ℕ)) (result : Result (Vec (Vec (String Global) Global) Global) AskError) (new : HeldListings) : Type 0 where
  pub after : Shown
  pub lists : ListsEach (unasked old) ids result after
  pub missing : (i : ℕ) → result ≡ Err (Lister i) → IsFirstAt ids i → listing_in old (slice_index_or ids i []) ≡ None
  pub gone : result ≢ Err Memory → (id : List ℕ) → Contains (come_to ids result) id → get_by_text new id ≡ None
  pub left : (id : List ℕ) → ¬ (Contains (come_to ids result) id) → get_by_text new id ≡ get_by_text old id
  pub had : (id : List ℕ) (listing : Vec (String Global) Global) → get_by_text new id ≡ Some listing → get_by_text old id ≡ Some listing
