-- What is planned before the lister is asked.
use Rattle.std.specs.Prelude.{◌≡◌, List, map, Contains, ◌↔◌, Some, Result, Ok, Err}
use Rattle.workspace_record.specs.Records.{Text}
use Rattle.workspace_record.specs.Features.{FeatureValue}
use Rattle.test_select_rules.specs.Binaries.{Binary}
use Rattle.test_select_rules.specs.BinaryView.{binary_view}
use Rattle.test_select_rules.specs.OnLines.{IsAvailable}
use Rattle.test_select_checks.specs.Checks.{IsChecked}
use Rattle.test_select_features.specs.Switching.{IsRefused, unknown_extra}
use Rattle.test_select_checks.specs.declared.select_error.SelectError.{SelectError}
use Rattle.test_select_checks.specs.declared.select_error.SelectError.TheVariants.{Record, UnknownExtra, Filter, Lister, BadListing, Memory}
use Rattle.test_select_rules.specs.Asked.{binary_asked, test_asked}
use Rattle.test_select_tests.specs.QuestionFilters.{CompiledQuestion, MayPass, Pass, question_view}
use Rattle.test_select_tests.specs.Questions.{Question, WantedIn}
use Rattle.test_select_tests.specs.Readings.{Readings}
use Rattle.test_select_tests.specs.Selecting.{DefaultHolds, IsAnswered, IsAsked, IsAvailableBinary, IsWanted, RefusesText, TextsHold}
use Rattle.test_select_tests.specs.declared.asked_binaries.AskedBinaries.{AskedBinaries}
use Rattle.test_select_tests.specs.declared.plan.Plan.{Plan}

-- a binary is available and wanted, it being let through where some test there may pass
abbrev pub MayMatch : AskedBinaries → (FeatureValue → Type 0) → CompiledQuestion → Binary → Type 0
MayMatch asks on filters b = IsAvailable on b × WantedIn asks (MayPass filters (binary_asked b))

-- the filters hold of a test of the binary
abbrev pub PassesIn : CompiledQuestion → Binary → Text → Type 0
PassesIn filters b test = Pass filters (test_asked b test)

module _ (q : Question) where
  -- the binaries to ask for, in the order of their ids, and filters that hold where a text and the default filter do
  pub record IsPlan (filters : CompiledQuestion) (asked : List Binary) : Type 0 where
    pub readings : Readings
    pub answered : IsAnswered q readings
    pub ids : IsAsked q readings (map (λ b. b.id) asked)
    pub binaries : (b : Binary) → Contains asked b ↔ (IsAvailableBinary q b × IsWanted q readings b)
    pub decided : (b : Binary) → IsAvailableBinary q b → ((IsWanted q readings b → ⊥) → ⊥) → IsWanted q readings b
    pub passes : (b : Binary) (test : Text) → PassesIn filters b test ↔ (TextsHold q readings b test × DefaultHolds q readings b test)

  -- what planning comes to
  abbrev pub Plans : Result Plan SelectError → Type 0
  Plans (Ok plan) = IsPlan (question_view plan.filters) (map binary_view plan.asked.items)
  Plans (Err (Record e)) = IsRefused q.workspace e
  Plans (Err (UnknownExtra place)) = IsChecked q.workspace (Ok tt) × (unknown_extra q.workspace q.choice ≡ Some place)
  Plans (Err (Filter place faults)) = RefusesText q place faults
  Plans (Err (Lister id)) = ⊥
  Plans (Err (BadListing id fault)) = ⊥
  Plans (Err Memory) = Unit {0}
