-- Tests of one binary of which the filters hold.
use Rattle.std.specs.Prelude.{◌↔◌, List, Contains}
use Rattle.workspace_record.specs.Records.{Text}
use Rattle.nextest_binaries.specs.Queries as asked
use Rattle.test_select_tests.specs.QuestionFilters.{CompiledQuestion, Pass}

-- the name is one of these, and the filters hold of the test of this name in the binary
pub record IsPassing (filters : CompiledQuestion) (b : asked.Binary) (names : List Text) (name : Text) : Type 0 where
  pub named : Contains names name
  pub passes : Pass filters (record { binary = b; name = name })

-- those are the names that pass
abbrev pub ArePassing : CompiledQuestion → asked.Binary → List Text → List Text → Type 0
ArePassing filters b names passing = (name : Text) → Contains passing name ↔ IsPassing filters b names name
