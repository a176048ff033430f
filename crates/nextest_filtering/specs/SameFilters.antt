-- Filters that say the same.
use Rattle.std.specs.Prelude.{◌↔◌, ℕ, ◌<◌, Bool, Contains, IsTrue, slice_index}
use Rattle.workspace_record.specs.Records.{Text}
use Rattle.nextest_filter_tokens.specs.declared.filterset_kind.FiltersetKind.{FiltersetKind}
use Rattle.nextest_filter_evaluation.specs.Groups.{known_groups}
use Rattle.nextest_filter_evaluation.specs.NameTests.{Suits}
use Rattle.nextest_binaries.specs.Queries as asked
use Rattle.nextest_filter_evaluation.specs.declared.groups.KnownGroups.{KnownGroups}
use Rattle.nextest_filter_evaluation.specs.Formulas.{Formula, Holds, SomeAnswersGive}
use Rattle.nextest_filtering.specs.Acceptance.{IsAccepted}
use Rattle.nextest_filtering.specs.Contexts.{ContextValue, Leads}
use Rattle.nextest_filtering.specs.Filters.{FilterLeaf}
use Rattle.nextest_filtering.specs.Meaning.{FilterLeafHolds, FilterLeafGives}

-- the text is made of bytes, as each text of a program is
abbrev pub AreBytes : Text → Type 0
AreBytes text = (k : ℕ) → slice_index text k < 256

-- the names of a context are
pub record HasByteNames (cx : ContextValue) : Type 0 where
  pub packages : (p : Text × Text) → Contains cx.packages p → AreBytes p.1
  pub binary_ids : (b : Text × Text) → Contains cx.binaries b → AreBytes b.0
  pub binary_names : (b : Text × Text) → Contains cx.binaries b → AreBytes b.1
  pub features : (name : Text) → Contains cx.features name → AreBytes name
  pub on : (f : Text × Text) → Contains cx.on f → AreBytes f.1

-- what is known of a binary is
pub record IsByteBinary (b : asked.Binary) : Type 0 where
  pub id : AreBytes b.id
  pub name : AreBytes b.name
  pub kind : AreBytes b.kind

-- two contexts have the same packages, paths lead from the same to the same, and the same features are on
pub record HasSamePackages (cx dx : ContextValue) : Type 0 where
  pub packages : (p : Text × Text) → Contains cx.packages p ↔ Contains dx.packages p
  pub leads : (a b : Text) → Leads cx.graph a b ↔ Leads dx.graph a b
  pub on : (f : Text × Text) → Contains cx.on f ↔ Contains dx.on f

-- two filters are accepted alike, hold of the same tests, and may take the same values; of each test it is said in which group it is, and whether the default filter holds
pub record SaysTheSame (f g : Formula FilterLeaf) : Type 0 where
  pub accepted : (cx : ContextValue) (groups : KnownGroups) (kind : FiltersetKind) → HasByteNames cx → ((name : Text) → Contains (known_groups groups) name → AreBytes name) → IsAccepted cx groups kind f ↔ IsAccepted cx groups kind g
  pub holds : (cx : ContextValue) (group : Text) (default : Bool) (t : asked.Test) → HasByteNames cx → AreBytes group → IsByteBinary t.binary → AreBytes t.name → Holds (FilterLeafHolds cx (λ m. Suits m group) (IsTrue default) t) f ↔ Holds (FilterLeafHolds cx (λ m. Suits m group) (IsTrue default) t) g
  pub gives : (cx : ContextValue) (default : Bool → Bool) (b : asked.Binary) (v : Bool) → HasByteNames cx → IsByteBinary b → SomeAnswersGive (FilterLeafGives cx (λ x. IsTrue (default x)) b) f v ↔ SomeAnswersGive (FilterLeafGives cx (λ x. IsTrue (default x)) b) g v
