use Rattle.std.proofs.Common.{◌≡◌, fold, take}
use Rattle.guppy_feature_demands.specs.IdHashes.{add_byte}
use Rattle.guppy_feature_demands.proofs.hashed_id.HashedId.of.Given as goal

abbrev pub invariant-loop-byte : goal.invariant-loop-byte
invariant-loop-byte l = l.hash ≡ fold add_byte 0 (take l.byte-index l.text)
