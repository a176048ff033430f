-- Compiled filters of a question, and what they say.
use Rattle.std.specs.Prelude.{◌↔◌, true, Bool, IsTrue, List, [], ◌∷◌, ◌++◌, Contains, codes, map}
use Rattle.regex.specs.Patterns.{Re}
use Rattle.workspace_record.specs.Records.{Text}
use Rattle.nextest_binaries.specs.Queries as asked
use Rattle.nextest_filter_evaluation.specs.Compiled.{Leaf, compiled_of}
use Rattle.nextest_filter_evaluation.specs.Formulas.{Formula, SomeAnswersGive}
use Rattle.nextest_filter_evaluation.specs.Meaning.{DefaultGives, DefaultHolds, MayBe, Passes}
use Rattle.nextest_filter_evaluation.specs.Questions.{AllSay, Lent, ReadyView}
use Rattle.test_select_checks.specs.CompiledViews.{filters_view}
use Rattle.test_select_checks.specs.Groups.{IsGroupMember}
use Rattle.test_select_checks.specs.RecordFilters.{CompiledFilters}
use Rattle.test_select_tests.specs.declared.question_filters.QuestionFilters.{QuestionFilters}

-- the filters of the texts, and those of the record
pub record CompiledQuestion : Type 0 where
  pub texts : List (Formula Leaf)
  pub filters : CompiledFilters

abbrev pub question_view : QuestionFilters → CompiledQuestion
question_view f = record { texts = map compiled_of f.texts.items; filters = filters_view f.filters }

-- a text's filter holds of the test
abbrev pub TextPasses : CompiledQuestion → asked.Test → Formula Leaf → Type 0
TextPasses q t c = Passes q.filters.default (IsGroupMember q.filters t) t c

-- some text's filter holds of the test
abbrev pub SomePasses : CompiledFilters → List (Formula Leaf) → asked.Test → Type 0
SomePasses filters texts t = (c : Formula Leaf) × Contains texts c × Passes filters.default (IsGroupMember filters t) t c

-- some answers about the binary give some text's filter the value true
abbrev pub SomeMayPass : Formula Leaf → List (Formula Leaf) → asked.Binary → Type 0
SomeMayPass default texts b = (c : Formula Leaf) × Contains texts c × SomeAnswersGive (MayBe default b) c true

-- some text's filter and the default filter hold of the test
abbrev pub Pass : CompiledQuestion → asked.Test → Type 0
Pass q t = SomePasses q.filters q.texts t × DefaultHolds q.filters.default t

-- and some answers about the binary let it through both
abbrev pub MayPass : CompiledQuestion → asked.Binary → Type 0
MayPass q b = SomeMayPass q.filters.default q.texts b × DefaultGives q.filters.default b true

-- the same filters, as they are lent: behind the groups' names that of the group for tests of no other
abbrev pub lent_question : CompiledQuestion → Lent
lent_question q = record {
  default = q.filters.default;
  names = map (λ g. g.0) q.filters.groups ++ codes "@global" ∷ [];
  groups = map (λ g. g.1) q.filters.groups;
  texts = q.texts;
}

-- for each test of the binary an answer to what is ready is one to the question
abbrev pub IsReadyFor : List Re → CompiledQuestion → asked.Binary → ReadyView → Type 0
IsReadyFor patterns q b r =
    (name : Text) (answer : Bool) → (IsTrue answer ↔ AllSay patterns r name) → IsTrue answer ↔ Pass q (record { binary = b; name = name })
