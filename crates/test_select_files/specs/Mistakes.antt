-- Words in which `clap` finds mistakes, and how a run on them fails.
use Rattle.std.specs.Prelude.{◌≡◌, ◌≢◌, ◌⊎◌, []}
use Rattle.clap.specs.Kinds.{IsAmong, Kinds}
use Rattle.clap.specs.declared.error.ErrorKind.{ErrorKind}
use Rattle.clap.specs.declared.error.ErrorKind.TheVariants.{DisplayHelp, DisplayVersion}
use Rattle.test_select_files.specs.Failures.{status_of}
use Rattle.test_select_files.specs.declared.run_failure.RunFailure.{RunFailure}
use Rattle.test_select_files.specs.declared.run_failure.RunFailure.TheVariants.{Memory}

-- something is wrong with the words, and they ask neither for the help nor for the version
pub record AreMistakes (kinds : Kinds) : Type 0 where
  pub some : kinds ≢ []
  pub no_request : (k : ErrorKind) → IsAmong k kinds → (k ≢ DisplayHelp) × (k ≢ DisplayVersion)

-- a command line is refused, with status 2, or memory ran out
abbrev pub IsBadLine : RunFailure → Type 0
IsBadLine failure = (failure ≡ Memory) ⊎ (status_of failure ≡ 2)
