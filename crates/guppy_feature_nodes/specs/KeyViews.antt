use Rattle.std.specs.Prelude.{◌≡◌, ℕ, ◌+◌, ◌*◌, ◌%◌, ◌^◌, true, [], ◌∷◌, ◌++◌, Bool}
use Rattle.std.specs.Ordering.{on}
use Rattle.std.specs.Cmp.{IsEquivalence, unsigned_Decides}
use Rattle.std.specs.Hash as fed
use Rattle.std.proofs.Common.{ap}
use Rattle.workspace_record.specs.Equality.{DecidesEquality, equivalence, pairs_decide, texts_decide}
use Rattle.workspace_record.specs.Records.{Text}
use Rattle.guppy_feature_demands.specs.Equivalences.{on_equivalence}
use Rattle.guppy_feature_nodes.specs.Joining.{Key, key_eq}
use Rattle.guppy_feature_nodes.specs.declared.edge_key.EdgeKey.{EdgeKey}

-- what contracts see of a key
abbrev pub key_view : EdgeKey → Key
key_view k = ((k.from, k.to), (k.sort, k.name.now))

abbrev pub same_key : EdgeKey → EdgeKey → Bool
same_key = on key_view key_eq

pub keys_decide : DecidesEquality key_eq
keys_decide = pairs_decide (pairs_decide unsigned_Decides unsigned_Decides) (pairs_decide unsigned_Decides texts_decide)

pub keys_equivalence : IsEquivalence key_eq
keys_equivalence = equivalence keys_decide

pub edge_keys_equivalence : IsEquivalence same_key
edge_keys_equivalence = on_equivalence key_view keys_equivalence

-- the ends and the sort in one word
abbrev pub key_word : Key → ℕ
key_word k = (((k.0.0 * 2 ^ 32) % 2 ^ 64 + (k.0.1 * 4) % 2 ^ 64) % 2 ^ 64 + k.1.0) % 2 ^ 64

-- a name, unless it is empty
abbrev pub name_feeds : Text → fed.HashWrites
name_feeds [] = []
name_feeds (byte ∷ bytes) = fed.str (byte ∷ bytes)

abbrev pub key_writes : Key → fed.HashWrites
key_writes k = fed.usize (key_word k) ++ name_feeds k.1.1

pub same_key_writes : (a b : EdgeKey) → same_key a b ≡ true → key_writes (key_view a) ≡ key_writes (key_view b)
same_key_writes a b h = ap key_writes ((keys_decide (key_view a) (key_view b)).0 h)
