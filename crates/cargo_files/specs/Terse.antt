-- What a test program prints when it is asked for its tests with `--list --format terse`.
use Rattle.std.specs.Prelude.{◌≡◌, ◌<◌, Bool, true, false, List, [], ◌∷◌, ◌++◌, length, get_or, codes}
use Rattle.workspace_record.specs.Records.{Text}
use Rattle.cargo_files.specs.declared.terse.TerseFault.{TerseFault}
use Rattle.cargo_files.specs.declared.terse.TerseFault.TheVariants.{NoTest, Memory}

-- the line of a test, and that of a benchmark
abbrev pub test_line : Text → Text
test_line name = name ++ codes ": test"

abbrev pub benchmark_line : Text → Text
benchmark_line name = name ++ codes ": benchmark"

-- the lines list these tests, in this order, and besides them benchmarks alone; empty lines list nothing (from libtest)
pub data ListTests : List Text → List Text → Type 0 where
  nothing : ListTests [] []
  test : {lines names : List Text} → (name : Text) → ListTests lines names → ListTests (test_line name ∷ lines) (name ∷ names)
  benchmark : {lines names : List Text} → (name : Text) → ListTests lines names → ListTests (benchmark_line name ∷ lines) names
  empty : {lines names : List Text} → ListTests lines names → ListTests ([] ∷ lines) names

-- the line is that of no test and of no benchmark, and is not empty (from libtest)
pub record IsStray (line : Text) : Type 0 where
  pub no_test : (name : Text) → line ≡ test_line name → ⊥
  pub no_benchmark : (name : Text) → line ≡ benchmark_line name → ⊥
  pub some : 0 < length line

-- some line is stray, and the fault names its place, counted from 0; or memory ran out
abbrev pub IsRefused : List Text → TerseFault → Type 0
IsRefused lines (NoTest place) = (place < length lines) × IsStray (get_or lines place [])
IsRefused lines Memory = Unit {0}

-- what becomes of the names before a line: those that it lists stand behind them, or it is stray
abbrev pub Takes : Text → Bool → List Text → List Text → Type 0
Takes line true old new = (names : List Text) × ListTests (line ∷ []) names × (new ≡ old ++ names)
Takes line false old new = IsStray line
