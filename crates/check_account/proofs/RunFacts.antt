-- What the words of a command line come to, where they have no fault.
use Rattle.std.proofs.Common.{◌≡◌, ◌∙◌, ℕ, List, [], refl, ap, subst, sym, true, inl, inr, Result, Ok, Err}
use Rattle.std.specs.Prelude.{IfErr, IsErrAnd, Option}
use Rattle.clap.specs.Words.{App, HasMatchesOf, Row, Text, found_of, is_simple, matches_of, rows_of}
use Rattle.clap.specs.Faults.{is_simple_and_free}
use Rattle.clap.specs.declared.parser.ArgMatches.{ArgMatches}
use Rattle.clap.proofs.OnLiterals.{clap_on_literals}
use Rattle.test_select_files.specs.Files.{Answer}
use Rattle.test_select_files.specs.Failures.{status_of}
use Rattle.test_select_files.specs.Mistakes.{IsBadLine}
use Rattle.test_select_files.specs.Reading.{Asks}
use Rattle.test_select_files.specs.Verdicts.{EndsCheck}
use Rattle.test_select_files.specs.declared.run_failure.RunFailure.{RunFailure}
use Rattle.test_select_files.specs.declared.run_failure.RunFailure.TheVariants.{Memory}
use Rattle.check_account.specs.Checker.{checker}

-- the matches of the program's words are those that `clap` gives
checker_is_simple : is_simple checker ≡ true
unfolding clap_on_literals
checker_is_simple = refl

-- and so are its faults
pub checker_is_free : is_simple_and_free checker ≡ true
unfolding clap_on_literals
checker_is_free = refl

-- what a command line that is taken asks for
pub rows_are : (a : App) (words : List Text) (m : ArgMatches) → a ≡ checker → HasMatchesOf a words m → rows_of (found_of m) ≡ matches_of checker words
rows_are a words m is h = (h (ap is_simple is ∙ checker_is_simple)).0 ∙ ap (λ (x : App). matches_of x words) is

-- want of memory refuses too
pub memory_refuses : (result : Result (Unit {0}) RunFailure) → IsErrAnd result (λ f. f ≡ Memory) → IsErrAnd result IsBadLine
memory_refuses (Ok x) is = absurd is
memory_refuses (Err f) is = inl is

-- and has status 1
pub memory_is_one : (result : Result (Unit {0}) RunFailure) → result ≡ Err Memory → IfErr result (λ f. status_of f ≡ 1)
memory_is_one result is = subst (λ (r : Result (Unit {0}) RunFailure). IfErr r (λ f. status_of f ≡ 1)) (sym is) refl

module _ {R : List ℕ → Text → Answer → List ℕ → Type 0} {s : List ℕ} where
  -- where memory ran out no file was asked for
  pub memory_ends : (rows : List Row) (result : Result (Unit {0}) RunFailure) (old new : Option Text) → result ≡ Err Memory → new ≡ old → Asks R s s (EndsCheck rows result old new)
  memory_ends rows result old new is same = record {
    asked = [];
    answered = refl;
    holds = inr (record { failure = Memory; fails = inl (inl tt); stops = (is, same) });
  }

module _ {R : List ℕ → Text → Answer → List ℕ → Type 0} {s t : List ℕ} where
  -- the end of a check by the words that were parsed
  pub ends_as : (rows asked : List Row) (result : Result (Unit {0}) RunFailure) (old new : Option Text) → rows ≡ asked → Asks R s t (EndsCheck rows result old new) → Asks R s t (EndsCheck asked result old new)
  ends_as rows asked result old new same ends = subst (λ (w : List Row). Asks R s t (EndsCheck w result old new)) same ends
