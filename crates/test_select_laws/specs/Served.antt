-- Which questions are answered by a selection.
use Rattle.std.specs.Prelude.{◌≡◌, ◌<◌, Result, Ok, Err}
use Rattle.nextest_filter_tokens.specs.FaultLists.{syntax_faults}
use Rattle.nextest_binaries.specs.Asking.{HoldsWellFormed}
use Rattle.nextest_binaries.specs.Listers.{Shown, largest}
use Rattle.test_select_rules.specs.Binaries.{Binary}
use Rattle.test_select_checks.specs.declared.record_error.RecordError.TheVariants as refused
use Rattle.test_select_checks.specs.declared.select_error.SelectError.{SelectError}
use Rattle.test_select_checks.specs.declared.select_error.SelectError.TheVariants.{Record, UnknownExtra, Filter, Lister, BadListing, Memory}
use Rattle.test_select_tests.specs.Questions.{Question}
use Rattle.test_select_tests.specs.Readings.{Readings}
use Rattle.test_select_tests.specs.Selecting.{Answers, IsAnswered, IsAvailableBinary}
use Rattle.test_select_tests.specs.Selections.{Selected}

-- the lister holds a well-formed listing for each available binary, and no call of it failed
pub record ListsWell (q : Question) (old new : Shown) : Type 0 where
  pub listings : (b : Binary) → IsAvailableBinary q b → HoldsWellFormed old b.id
  pub not_full : old.failures < largest
  pub none_failed : new.failures ≡ old.failures

-- a selection was made, or memory ran out, or `regex` refused a pattern: a filter of the record or a text has no other fault
abbrev pub IsSelectedOrWants : Result Selected SelectError → Type 0
IsSelectedOrWants (Ok selection) = Unit {0}
IsSelectedOrWants (Err (Record (refused.Broken rule place))) = ⊥
IsSelectedOrWants (Err (Record (refused.Filter place faults))) = syntax_faults faults.items ≡ 0
IsSelectedOrWants (Err (Record refused.Memory)) = ⊥
IsSelectedOrWants (Err (UnknownExtra place)) = ⊥
IsSelectedOrWants (Err (Filter place faults)) = syntax_faults faults.items ≡ 0
IsSelectedOrWants (Err (Lister id)) = ⊥
IsSelectedOrWants (Err (BadListing id fault)) = ⊥
IsSelectedOrWants (Err Memory) = Unit {0}

-- where the record keeps the rules, the extras are known, the texts are accepted and the lister lists well, a selection is made, or memory runs out, or `regex` refuses a pattern
abbrev pub ServedQuestionsAreAnswered : Type 0
ServedQuestionsAreAnswered =
    (q : Question) (r : Readings) (old new : Shown) (result : Result Selected SelectError)
    → IsAnswered q r
    → ListsWell q old new
    → Answers q old result new
    → IsSelectedOrWants result
