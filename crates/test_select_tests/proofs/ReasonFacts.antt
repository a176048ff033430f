-- Reasons by filters that say the same, place by place.
use Rattle.std.proofs.Common.{◌≡◌, ◌<◌, ◌↔◌, refl, ap, subst, sym, true≢false, ℕ, zero, suc, Bool, true, false, IsTrue, List, [], ◌∷◌, length, Contains, Some}
use Rattle.nextest_filter_evaluation.specs.Meaning.{DefaultHolds}
use Rattle.nextest_binaries.specs.Queries as asked
use Rattle.nextest_filter_evaluation.specs.Questions.{IsFirst}
use Rattle.nextest_filter_evaluation.proofs.QuestionFacts.{first_some}
use Rattle.test_select_tests.specs.FirstTexts.{FindsFirst}
use Rattle.test_select_tests.specs.QuestionFilters.{CompiledQuestion, TextPasses}
use Rattle.test_select_checks.specs.Alike.{AreAlike}
use Rattle.test_select_checks.proofs.AlikeFacts.{alike_back, alike_there}
use Rattle.test_select_tests.specs.CompiledReasons.{IsReasonOfListed, chosen_by}
use Rattle.test_select_tests.specs.Reasons.{IsBinaryReason, IsTestReason}
use Rattle.test_select_tests.specs.declared.reason.TestReason.{TestReason}
use Rattle.test_select_tests.specs.declared.reason.TestReason.TheVariants.{NotListed, DefaultFilter, NoFilter, Chosen, ChosenBy}
use Rattle.test_select_tests.specs.declared.reason.BinaryReason.{BinaryReason}
use Rattle.test_select_tests.specs.declared.reason.BinaryReason.TheVariants as binary

module _ {F G : Type 0} (belongs : F → G → Type 0) (P : F → Type 0) (Q : G → Type 0) (alike : (f : F) (g : G) → belongs f g → Q g ↔ P f) where
  length_alike : (fs : List F) (gs : List G) → AreAlike belongs fs gs → length gs ≡ length fs
  length_alike [] [] are = refl
  length_alike [] (g ∷ gs) are = absurd are
  length_alike (f ∷ fs) [] are = absurd are
  length_alike (f ∷ fs) (g ∷ gs) are = ap suc (length_alike fs gs are.1)

  first_alike : (fs : List F) (gs : List G) (k : ℕ) → AreAlike belongs fs gs → IsFirst Q gs k → IsFirst P fs k
  first_alike [] [] k are is = is
  first_alike [] (g ∷ gs) k are is = absurd are
  first_alike (f ∷ fs) [] k are is = absurd are
  first_alike (f ∷ fs) (g ∷ gs) zero are is = (alike f g are.0).0 is
  first_alike (f ∷ fs) (g ∷ gs) (suc k) are is =
      (λ p. is.0 ((alike f g are.0).1 p), first_alike fs gs k are.1 is.1)

  module _ (fs : List F) (gs : List G) (are : AreAlike belongs fs gs) where
    there : ((g : G) × Contains gs g × Q g) → (f : F) × Contains fs f × P f
    there w = let it = alike_back belongs fs gs w.0 are w.1 in (it.0, it.1, (alike it.0 w.0 it.2).0 w.2)

    back : ((f : F) × Contains fs f × P f) → (g : G) × Contains gs g × Q g
    back w = let it = alike_there belongs fs gs w.0 are w.1 in (it.0, it.1, (alike w.0 it.0 it.2).1 w.2)

    module _ (default another : Type 0) (defaults : default ↔ another) where
      pub test_reason : (listed given told : Type 0) → (given ↔ told) → (why : TestReason) → IsTestReason listed default Q gs given why → IsTestReason listed another P fs told why
      test_reason listed given told givens NotListed h = h
      test_reason listed given told givens DefaultFilter h = (h.0, λ d. h.1 (defaults.1 d))
      test_reason listed given told givens NoFilter h =
          (h.0, defaults.0 h.1, λ f i p. let w = back (f, i, p) in h.2 w.0 w.1 w.2)
      test_reason listed given told givens Chosen h = (h.0, defaults.0 h.1, there h.2, λ t. h.3 (givens.1 t))
      test_reason listed given told givens (ChosenBy place) h = (
        h.0,
        defaults.0 h.1,
        (first_alike fs gs place are h.2.0, subst (λ n. place < n) (length_alike fs gs are) h.2.1),
        givens.0 h.3,
      )

      pub binary_reason : (why : BinaryReason) → IsBinaryReason default Q gs why → IsBinaryReason another P fs why
      binary_reason binary.DefaultFilter h = λ d. h (defaults.1 d)
      binary_reason binary.NoFilter h = (defaults.0 h.0, λ w. h.1 (back w))
      binary_reason binary.Asked h = (defaults.0 h.0, there h.1)

-- the reason of a test that is listed is its reason
pub listed_so : {F : Type 0} (listed default : Type 0) (holds : F → Type 0) (filters : List F) (given : Type 0) → listed → (why : TestReason) → IsTestReason (Unit {0}) default holds filters given why → IsTestReason listed default holds filters given why
listed_so listed default holds filters given is NotListed h = absurd (h tt)
listed_so listed default holds filters given is DefaultFilter h = (is, h.1)
listed_so listed default holds filters given is NoFilter h = (is, h.1, h.2)
listed_so listed default holds filters given is Chosen h = (is, h.1, h.2, h.3)
listed_so listed default holds filters given is (ChosenBy place) h = (is, h.1, h.2, h.3)

-- the reason of a listed test of which the default filter and some text hold
pub chosen_so : (q : CompiledQuestion) (t : asked.Test) (given : Bool) (place : ℕ) → DefaultHolds q.filters.default t → FindsFirst (TextPasses q t) q.texts (Some place) → IsReasonOfListed q (IsTrue given) t (chosen_by given place)
chosen_so q t true place default found = (tt, default, found, refl)
chosen_so q t false place default found =
    (tt, default, (first_some (TextPasses q t) q.texts place found.0).0 found.1, λ e. true≢false (sym e))
