-- The refusal of a filter text as that of a selection.
use Rattle.std.specs.Prelude.{ℕ}
use Rattle.nextest_filtering.specs.declared.refusals.FiltersetError.{FiltersetError}
use Rattle.nextest_filtering.specs.declared.refusals.FiltersetError.TheVariants as filterset
use Rattle.test_select_checks.specs.declared.select_error.SelectError.{SelectError}
use Rattle.test_select_checks.specs.declared.select_error.SelectError.TheVariants.{Filter, Memory}

-- the faults of the text at a place
abbrev pub text_error_of : ℕ → FiltersetError → SelectError
text_error_of place (filterset.Parse refused) = Filter place refused.errors
text_error_of place filterset.Memory = Memory
