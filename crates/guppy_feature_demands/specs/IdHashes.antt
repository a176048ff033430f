-- The hashes of packages' ids.
use Rattle.std.specs.Prelude.{ℕ, ◌+◌, ◌*◌, ◌%◌, ◌^◌}
use Rattle.std.specs.List.{fold}
use Rattle.workspace_record.specs.Records.{Text}

-- a hash, with one byte more
abbrev pub add_byte : ℕ → ℕ → ℕ
add_byte hash byte = ((hash * 1099511628211) % 2 ^ 64 + byte) % 2 ^ 64

-- the hash of a text, byte by byte
unfoldable pub text_hash : Text → ℕ
text_hash text = fold add_byte 0 text
