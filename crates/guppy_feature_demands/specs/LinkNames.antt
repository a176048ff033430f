-- The links of packages by the names that they give them.
use Rattle.std.specs.Prelude.{◌≡◌, true, ℕ, nat_eq, Bool, List, [], ◌∷◌, Option, None, Some, map, ◌++◌}
use Rattle.std.specs.Ordering.{on}
use Rattle.std.specs.Cmp.{IsEquivalence, unsigned_Decides}
use Rattle.std.specs.Hash as fed
use Rattle.std.proofs.Common.{Global, Vec, ap}
use Rattle.indexmap.specs.IndexMap.{get}
use Rattle.workspace_record.specs.Equality.{DecidesEquality, equivalence, pair_eq, pairs_decide, text_eq, texts_decide}
use Rattle.workspace_record.specs.Records.{Text, Link}
use Rattle.guppy_feature_demands.specs.Equivalences.{on_equivalence}
use Rattle.guppy_feature_demands.specs.IdHashes.{text_hash}
use Rattle.guppy_feature_demands.specs.Numbered.{links_named}
use Rattle.guppy_feature_demands.specs.NumberedViews.{link_view}
use Rattle.guppy_feature_demands.specs.declared.numbered.NumberedLink.{NumberedLink}
use Rattle.guppy_feature_demands.specs.declared.link_names.LinkName.{LinkName}
use Rattle.guppy_feature_demands.specs.declared.link_names.LinkNames.{LinkNames}

-- a package's id with its hash, and a name
abbrev pub key_view : LinkName → ℕ × (Text × Text)
key_view q = (q.hash, (q.from.now, q.name.now))

pub keys_decide : DecidesEquality (pair_eq nat_eq (pair_eq text_eq text_eq))
keys_decide = pairs_decide unsigned_Decides (pairs_decide texts_decide texts_decide)

abbrev pub key_eq : LinkName → LinkName → Bool
key_eq = on key_view (pair_eq nat_eq (pair_eq text_eq text_eq))

pub keys_equivalence : IsEquivalence key_eq
keys_equivalence = on_equivalence key_view (equivalence keys_decide)

abbrev pub key_writes : ℕ × (Text × Text) → fed.HashWrites
key_writes k = fed.u64 k.0 ++ (k.1.1 ∷ [])

pub same_key_writes : (a b : LinkName) → key_eq a b ≡ true → key_writes (key_view a) ≡ key_writes (key_view b)
same_key_writes a b h = ap key_writes ((keys_decide (key_view a) (key_view b)).0 h)

-- the key is of this package and this name
pub record IsNameOf (id : Text) (name : Text) (q : LinkName) : Type 0 where
  pub hash : q.hash ≡ text_hash id
  pub from : q.from.now ≡ id
  pub name_is : q.name.now ≡ name

-- the links of a group, if there is one
abbrev pub links_in : Option (Vec NumberedLink Global) → List (ℕ × Link)
links_in None = []
links_in (Some group) = map link_view group.items

-- under each name the links of that name are found, in their order
pub record NamesLinks (links : List (ℕ × Link)) (names : LinkNames) : Type 0 where
  pub each : (id name : Text) (q : LinkName) → IsNameOf id name q → links_in (get key_eq names.groups q) ≡ links_named links id name
