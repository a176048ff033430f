-- What lent filters say of a test is what the question's filters say.
use Rattle.std.proofs.Common.{◌≡◌, ◌∙◌, ◌↔◌, ℕ, zero, suc, inl, inr, refl, sym, ap, subst, List, [], ◌∷◌, ◌++◌, map, Some, slice_get, codes, IsTrue}
use Rattle.regex.specs.Patterns.{Re}
use Rattle.workspace_record.specs.Records.{Text}
use Rattle.nextest_filter_evaluation.specs.NameTests.{NameTest, Suits}
use Rattle.nextest_binaries.specs.Queries as asked
use Rattle.nextest_filter_evaluation.specs.Compiled.{Leaf}
use Rattle.nextest_filter_evaluation.specs.Formulas.{Formula}
use Rattle.nextest_filter_evaluation.specs.Meaning.{DefaultHolds, Passes}
use Rattle.nextest_filter_evaluation.specs.Ready.{IsSuited}
use Rattle.nextest_filter_evaluation.specs.Questions.{AllHold, AllSay, AnswerAlike, IsFirst, IsGrouped, Lent, ReadyView, lent_searches}
use Rattle.nextest_filter_evaluation.proofs.QuestionFacts.{filter_alike}
use Rattle.nextest_filter_evaluation.proofs.ReducingFacts.{iff_trans, some_same}
use Rattle.list_facts.proofs.Lists.{map-map}
use Rattle.test_select_checks.specs.CompiledViews.{group_view}
use Rattle.test_select_checks.specs.declared.filter_parts.GroupFilter.{GroupFilter}
use Rattle.test_select_checks.specs.Groups.{IsGroupMember, IsGroupOf}
use Rattle.test_select_tests.specs.QuestionFilters.{CompiledQuestion, IsReadyFor, Pass, lent_question}

-- a group by its place, or the one behind all, is a group by its name
module _ (holds : Formula Leaf → Type 0) (test : NameTest) where
  placed : (groups : List (Text × Formula Leaf)) (name : Text) → IsGroupOf holds groups name → Suits test name → (place : ℕ) × IsFirst holds (map (λ g. g.1) groups) place × IsSuited (map (λ g. g.0) groups ++ codes "@global" ∷ []) place test
  placed [] name is suits = (0, refl, (name, ap Some is, suits))
  placed (g ∷ groups) name is suits =
      elim is [
        | inl h ↦ (0, h.0, (name, ap Some h.1, suits))
        | inr h ↦ let w = placed groups name h.1 suits in (suc w.0, (h.0, w.1), w.2)
      ]

  named : (groups : List (Text × Formula Leaf)) (place : ℕ) → IsFirst holds (map (λ g. g.1) groups) place → IsSuited (map (λ g. g.0) groups ++ codes "@global" ∷ []) place test → (name : Text) × IsGroupOf holds groups name × Suits test name
  named [] place is suited =
      (suited.0, some_same (subst (λ k. slice_get (codes "@global" ∷ []) k ≡ Some suited.0) is suited.1), suited.2)
  named (g ∷ groups) zero is suited = (suited.0, inl (is, some_same suited.1), suited.2)
  named (g ∷ groups) (suc place) is suited =
      let w = named groups place is.1 suited in (w.0, inr (is.0, w.1), w.2)

same : (P : Type 0) → P ↔ P
same P = (λ p. p, λ p. p)

pub lent_pass : (q : CompiledQuestion) (t : asked.Test) → AllHold (lent_question q) t ↔ Pass q t
lent_pass q t =
    let default = DefaultHolds q.filters.default t in
    let holds = Passes q.filters.default (λ _. ⊥) t in
    let members : (m : NameTest) → IsGrouped (lent_question q) t m ↔ IsGroupMember q.filters t m = λ m. (λ w. named holds m q.filters.groups w.0 w.1 w.2, λ w. placed holds m q.filters.groups w.0 w.1 w.2) in
    let alike : (c : Formula Leaf) → Passes q.filters.default (IsGrouped (lent_question q) t) t c ↔ Passes q.filters.default (IsGroupMember q.filters t) t c = λ c. filter_alike _ _ default default t members (same default) c in
    (λ h. ((h.1.0, h.1.1, (alike h.1.0).0 h.1.2), h.0), λ h. (h.1, (h.0.0, h.0.1, (alike h.0.0).1 h.0.2)))

-- what is seen of a part of each group
pub parts_of : {A : Type 0} (part : Text × Formula Leaf → A) (groups : List GroupFilter) (all : List (Text × Formula Leaf)) → map group_view groups ≡ all → map (λ g. part (group_view g)) groups ≡ map part all
parts_of part groups all e = sym (map-map part group_view groups) ∙ ap (map part) e

-- so what is ready for the lent filters is for the question
pub ready_for : (patterns : List Re) (f : Lent) (q : CompiledQuestion) (b : asked.Binary) (r : ReadyView) → patterns ≡ lent_searches f → f ≡ lent_question q → AnswerAlike f b r → IsReadyFor patterns q b r
ready_for patterns f q b r stand same alike name answer says =
    let t : asked.Test = record { binary = b; name = name } in
    let h = alike name answer (subst (λ ps. IsTrue answer ↔ AllSay ps r name) stand says) in
    iff_trans (subst (λ l. IsTrue answer ↔ AllHold l t) same h) (lent_pass q t)
