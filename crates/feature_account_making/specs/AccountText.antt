-- The line of JSON that an account is written as.
use Rattle.std.specs.Prelude.{◌≡◌, ℕ, List, [], ◌∷◌, ◌++◌, Option, Result, Ok, Err, codes, decimal}
use Rattle.std.specs.List.{flat_map}
use Rattle.feature_account_making.specs.declared.write_account_error.WriteAccountError.{WriteAccountError}
use Rattle.feature_account_making.specs.declared.write_account_error.WriteAccountError.TheVariants.{Memory, Write}

-- the numbers, parted by commas
abbrev pub numbers_text : List ℕ → List ℕ
numbers_text [] = []
numbers_text (n ∷ ns) = decimal n ++ flat_map (λ m. codes "," ++ decimal m) ns

-- an object with the list of numbers, and a line feed
abbrev pub account_text : List ℕ → List ℕ
account_text account = codes "{\"rules\":[" ++ (numbers_text account ++ codes "]}\n")

-- where memory ran out, nothing was written
abbrev pub LeavesWhereMemoryFails : Option (List ℕ) → Result (Unit {0}) WriteAccountError → Option (List ℕ) → Type 0
LeavesWhereMemoryFails old (Ok x) new = Unit {0}
LeavesWhereMemoryFails old (Err Memory) new = new ≡ old
LeavesWhereMemoryFails old (Err (Write fault)) new = Unit {0}
