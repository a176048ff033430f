-- Reasons say what a selection chooses and asks.
use Rattle.std.proofs.Common.{◌≡◌, ◌↔◌, ◌∙◌, refl, sym, ap, subst, true≢false, true, false, IsTrue, List, Contains, Option, Some}
use Rattle.workspace_record.specs.Records.{Text}
use Rattle.test_select_rules.specs.Binaries.{Binary}
use Rattle.test_select_rules.proofs.KeptRules.{binaries_told_apart}
use Rattle.nextest_filter_evaluation.proofs.QuestionFacts.{first_some}
use Rattle.test_select_checks.specs.Meaning.{HoldsIn}
use Rattle.test_select_tests.specs.Explaining.{IsReasonOfBinaryIn, IsReasonOfTestIn}
use Rattle.test_select_rules.specs.Asked.{test_asked}
use Rattle.test_select_tests.specs.Questions.{Question}
use Rattle.test_select_tests.specs.Readings.{Readings}
use Rattle.test_select_tests.specs.Reasons.{is_asked, is_chosen}
use Rattle.test_select_tests.specs.Selecting.{DefaultHolds, IsAnswered, IsAvailableBinary, IsChosen, IsLetThrough, TextsHold}
use Rattle.test_select_tests.specs.declared.reason.TestReason.{TestReason}
use Rattle.test_select_tests.specs.declared.reason.TestReason.TheVariants.{NotListed, DefaultFilter, NoFilter, Chosen, ChosenBy}
use Rattle.test_select_tests.specs.declared.reason.BinaryReason.{BinaryReason}
use Rattle.test_select_tests.specs.declared.reason.BinaryReason.TheVariants as binary
use Rattle.test_select_tests.proofs.ChoosingFacts.{some_exact}

never : {A : Type 0} → (A → ⊥) → IsTrue false ↔ A
never none = (λ t. absurd (true≢false (sym t)), λ a. absurd (none a))

always : {A : Type 0} → A → IsTrue true ↔ A
always a = (λ _. a, λ _. refl)

module _ (q : Question) (r : Readings) (b : Binary) (answered : IsAnswered q r) (available : IsAvailableBinary q b) where
  module _ (listing_of : Text → Option (List Text)) (names : List Text) (name : Text) (listing : listing_of b.id ≡ Some names) where
    chosen : Contains names name → TextsHold q r b name → DefaultHolds q r b name → IsChosen q r listing_of (b.id, name)
    chosen listed holds default = record {
      binary = b;
      available = available;
      id = refl;
      names = names;
      listing = listing;
      listed = listed;
      holds = holds;
      default_holds = default;
    }

    -- the binary in which a test is chosen is the one with its id
    module _ (h : IsChosen q r listing_of (b.id, name)) where
      same : h.binary ≡ b
      same = binaries_told_apart q.workspace answered.checked.0 h.binary b h.available.declared available.declared h.id

      is_listed : Contains names name
      is_listed = subst (λ ns. Contains ns name) (some_exact (sym h.listing ∙ ap listing_of h.id ∙ listing)) h.listed

      texts_hold : TextsHold q r b name
      texts_hold = subst (λ x. TextsHold q r x name) same h.holds

      default_holds : DefaultHolds q r b name
      default_holds = subst (λ x. DefaultHolds q r x name) same h.default_holds

    pub tests_say : (why : TestReason) → IsReasonOfTestIn q r b names name why → IsTrue (is_chosen why) ↔ IsChosen q r listing_of (b.id, name)
    tests_say NotListed s = never (λ h. s (is_listed h))
    tests_say DefaultFilter s = never (λ h. s.1 (default_holds h))
    tests_say NoFilter s = never (λ h. let t = texts_hold h in s.2 t.0 t.1 t.2)
    tests_say Chosen s = always (chosen s.0 s.2 s.1)
    tests_say (ChosenBy place) s =
        always (chosen s.0 ((first_some (HoldsIn r.context r.filters (test_asked b name)) r.texts place s.2.0).0 s.2.1) s.1)

  pub binary_says : (why : BinaryReason) → IsReasonOfBinaryIn q r b why → IsTrue (is_asked why) ↔ IsLetThrough q r b
  binary_says binary.DefaultFilter s = never (λ h. s h.1)
  binary_says binary.NoFilter s = never (λ h. s.1 h.0)
  binary_says binary.Asked s = always (s.1, s.0)
