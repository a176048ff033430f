-- Strings seen as texts, each the list of its bytes.
use Rattle.std.specs.Prelude.{ℕ, List, map, String, string_bytes}
use Rattle.std.specs.Global.{Global}

-- the text of each string
abbrev pub texts : List (String Global) → List (List ℕ)
texts names = map string_bytes names

-- both texts of a pair of strings
abbrev pub pair_of : String Global × String Global → List ℕ × List ℕ
pair_of pair = (string_bytes pair.0, string_bytes pair.1)
