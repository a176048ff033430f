-- The filters of a question, lent, and what they say together; and the same made ready for the tests of one binary.
use Rattle.std.specs.Prelude.{◌≡◌, ◌↔◌, Bool, IsTrue, ℕ, zero, suc, ◌+◌, List, [], ◌∷◌, ◌++◌, Contains, length, map}
use Rattle.regex.specs.Patterns.{Re}
use Rattle.workspace_record.specs.Records.{Text}
use Rattle.nextest_filter_evaluation.specs.NameTests.{NameTest}
use Rattle.nextest_binaries.specs.Queries as asked
use Rattle.nextest_filter_evaluation.specs.Compiled.{Leaf, compiled_of}
use Rattle.nextest_filter_evaluation.specs.Formulas.{Formula, Holds}
use Rattle.nextest_filter_evaluation.specs.Meaning.{DefaultHolds, Passes}
use Rattle.nextest_filter_evaluation.specs.Searches.{HasAt, searches}
use Rattle.nextest_filter_evaluation.specs.Ready.{IsReady, IsSuited, Question, Says, ready_of}
use Rattle.nextest_filter_evaluation.specs.declared.ready_context.ReadyContext.{ReadyContext}
use Rattle.nextest_filter_evaluation.specs.declared.lent_filters.LentFilters.{LentFilters}
use Rattle.nextest_filter_evaluation.specs.declared.ready_filters.ReadyFilters.{ReadyFilters}

-- the place of the first that holds, or behind all
abbrev pub IsFirst : {F : Type 0} → (F → Type 0) → List F → ℕ → Type 0
IsFirst holds [] place = place ≡ 0
IsFirst holds (f ∷ fs) zero = holds f
IsFirst holds (f ∷ fs) (suc place) = (holds f → ⊥) × IsFirst holds fs place

-- the default filter, the filters of the groups with their names, of which one more stands behind, and those of the texts
pub record Lent : Type 0 where
  pub default : Formula Leaf
  pub names : List Text
  pub groups : List (Formula Leaf)
  pub texts : List (Formula Leaf)

abbrev pub lent_of : LentFilters → Lent
lent_of f = record {
  default = compiled_of f.default.now;
  names = map (λ t. t.now) f.group_names.items;
  groups = map (λ g. compiled_of g.now) f.groups.items;
  texts = map (λ t. compiled_of t.now) f.texts.items;
}

-- the name of the test's group suits: of the first whose filter holds, or the one behind all
abbrev pub IsGrouped : Lent → asked.Test → NameTest → Type 0
IsGrouped f t test = (place : ℕ) × IsFirst (Passes f.default (λ _. ⊥) t) f.groups place × IsSuited f.names place test

-- some text's filter and the default filter hold of the test
abbrev pub AllHold : Lent → asked.Test → Type 0
AllHold f t = DefaultHolds f.default t × ((c : Formula Leaf) × Contains f.texts c × Passes f.default (IsGrouped f t) t c)

-- the patterns of several filters
abbrev pub all_searches : List (Formula Leaf) → List Re
all_searches [] = []
all_searches (f ∷ fs) = searches f ++ all_searches fs

abbrev pub lent_searches : Lent → List Re
lent_searches f = searches f.default ++ (all_searches f.groups ++ all_searches f.texts)

-- each says the same as its filter, where the patterns stand from the place on
abbrev pub AreReady : ReadyContext → ℕ → List (Formula Leaf) → List (Formula Question) → Type 0
AreReady cx at [] [] = Unit {0}
AreReady cx at (f ∷ fs) (r ∷ rs) =
    IsReady cx (λ all. HasAt all at (searches f)) f r × AreReady cx (at + length (searches f)) fs rs
AreReady cx at _ _ = ⊥

-- the default filter, the groups' and the texts', ready for the tests of one binary
pub record ReadyView : Type 0 where
  pub default : Formula Question
  pub groups : List (Formula Question)
  pub texts : List (Formula Question)

abbrev pub ready_view : ReadyFilters → ReadyView
ready_view r = record {
  default = ready_of r.default;
  groups = map ready_of r.groups.items;
  texts = map ready_of r.texts.items;
}

-- the default filter holds of the test with the name, and some text's filter by its group
abbrev pub AllSay : List Re → ReadyView → Text → Type 0
AllSay patterns r name =
    Holds (Says patterns 0 name) r.default
    × ((group : ℕ) × IsFirst (Holds (Says patterns 0 name)) r.groups group × ((q : Formula Question) × Contains r.texts q × Holds (Says patterns group name) q))

-- for each test of the binary an answer to what is ready is one to the filters
abbrev pub AnswerAlike : Lent → asked.Binary → ReadyView → Type 0
AnswerAlike f b r =
    (name : Text) (answer : Bool) → (IsTrue answer ↔ AllSay (lent_searches f) r name) → IsTrue answer ↔ AllHold f (record { binary = b; name = name })
