-- The file of an account or of an explanation: rules, by their numbers, and the feature that is explained.
use Rattle.std.specs.Prelude.{ℕ, List, Option, ok_or, option_and_then, Result, Ok}
use Rattle.serde_json.specs.Data.{Data}
use Rattle.serde_json.specs.Find.{as_number, as_u64}
use Rattle.workspace_record.specs.Features.{FeatureValue}
use Rattle.record_files.specs.Faults.{Fault, at_key}
use Rattle.record_files.specs.declared.key.Key.{Key}
use Rattle.record_files.specs.declared.key.Key.TheVariants as key
use Rattle.record_files.specs.Outcomes.{◌>>=◌}
use Rattle.record_files.specs.Values.{each, required, optional, items_of, object_of}
use Rattle.record_files.specs.Choices.{extra_of}

-- the number of a rule: whole, not negative, and of 64 bits, as a `usize` is
abbrev pub rule_of : Key → Data → Result ℕ Fault
rule_of key d = ok_or (option_and_then as_u64 (as_number d)) (at_key key)

-- a list of numbers of rules
abbrev pub rules_of : Key → Data → Result (List ℕ) Fault
rules_of key d = items_of key d >>= each (rule_of key)

-- the feature that is explained: an object
abbrev pub goal_of : Key → Data → Result FeatureValue Fault
goal_of key d = object_of key d >>= extra_of

-- of an `AccountFile`: the numbers of its rules, and the feature that they explain, if they do
pub record AccountValue : Type 0 where
  pub numbers : List ℕ
  pub goal : Option FeatureValue

-- an account, whose rules have to be given, or an explanation, which has a goal
unfoldable pub account_of : Data → Result AccountValue Fault
account_of d = do
  numbers ← required rules_of key.Rules d
  goal ← optional goal_of key.Goal d
  Ok (record { numbers = numbers; goal = goal })

-- a file that is an account
abbrev pub account_file : Data → Result AccountValue Fault
account_file d = object_of key.File d >>= account_of
