-- Parts of a list of tests.
use Rattle.std.specs.Prelude.{◌≡◌, ℕ, ◌-◌, ◌%◌, ◌^◌, ◌<◌, ◌≤◌, ◌==◌, Bool, List, ◌++◌, codes, filter, map}
use Rattle.std.specs.List.{enumerate_from}
use Rattle.std.specs.Str.Parse.{IsNumeral, digits_value, without_leading_plus}
use Rattle.workspace_record.specs.Records.{Text}

-- the text is the number in decimal digits, as `usize` parses them: a plus may stand before them
pub record WritesNumber (text : Text) (number : ℕ) : Type 0 where
  pub numeral : IsNumeral 10 (without_leading_plus text)
  pub value : number ≡ digits_value 10 (without_leading_plus text)
  pub fits : number < 2 ^ 64

-- the text is `count:M/N` for this part of so many parts, from 1 (from nextest)
pub record AsksForPart (text : Text) (part parts : ℕ) : Type 0 where
  pub first : Text
  pub second : Text
  pub whole : text ≡ codes "count:" ++ (first ++ (codes "/" ++ second))
  pub first_is : WritesNumber first part
  pub second_is : WritesNumber second parts
  pub from_one : 1 ≤ part
  pub within : part ≤ parts

-- the place, from 0, is one of this part of so many parts (from nextest)
abbrev pub is_in_part : ℕ → ℕ → ℕ → Bool
is_in_part part parts place = place % parts == part - 1

-- what stands at the places of the part, in their order (from nextest)
abbrev pub part_of : {A : Type 0} → ℕ → ℕ → List A → List A
part_of part parts xs = map (λ e. e.1) (filter (λ e. is_in_part part parts e.0) (enumerate_from 0 xs))
