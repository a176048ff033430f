-- What compiled filters say of tests and of binaries.
use Rattle.std.specs.Prelude.{◌≡◌, Bool, true, false, Contains}
use Rattle.nextest_filter_evaluation.specs.NameTests.{NameTest, Suits}
use Rattle.nextest_binaries.specs.Queries as asked
use Rattle.nextest_filter_evaluation.specs.Formulas.{Formula, Holds, SomeAnswersGive}
use Rattle.nextest_filter_evaluation.specs.Compiled.{Leaf, Packages, Kind, Platform, Binary, BinaryId, Test, Group, Default, All, None}

-- the leaf holds of the test, where it is said of which matchers' groups the test is a member, and whether the default filter holds
abbrev pub LeafHolds : (NameTest → Type 0) → Type 0 → asked.Test → Leaf → Type 0
LeafHolds member default t (Packages ids) = Contains ids t.binary.package_id
LeafHolds member default t (Kind test span) = Suits test t.binary.kind
LeafHolds member default t (Platform platform span) = t.binary.platform ≡ platform
LeafHolds member default t (Binary test span) = Suits test t.binary.name
LeafHolds member default t (BinaryId test span) = Suits test t.binary.id
LeafHolds member default t (Test test span) = Suits test t.name
LeafHolds member default t (Group test span) = member test
LeafHolds member default t Default = default
LeafHolds member default t All = Unit {0}
LeafHolds member default t None = ⊥

-- the default filter, in which neither groups nor itself are named, holds of the test
abbrev pub DefaultHolds : Formula Leaf → asked.Test → Type 0
DefaultHolds default t = Holds (LeafHolds (λ _. ⊥) ⊥ t) default

-- the compiled filter holds of the test (from nextest)
abbrev pub Passes : Formula Leaf → (NameTest → Type 0) → asked.Test → Formula Leaf → Type 0
Passes default member t f = Holds (LeafHolds member (DefaultHolds default t) t) f

-- what is known gives one value alone
abbrev pub Gives : Type 0 → Bool → Type 0
Gives holds true = holds
Gives holds false = holds → ⊥

-- the values that the leaf may take of tests of the binary, where it is said which values the default filter may take
abbrev pub LeafGives : (Bool → Type 0) → asked.Binary → Leaf → Bool → Type 0
LeafGives default b (Packages ids) v = Gives (Contains ids b.package_id) v
LeafGives default b (Kind test span) v = Gives (Suits test b.kind) v
LeafGives default b (Platform platform span) v = Gives (b.platform ≡ platform) v
LeafGives default b (Binary test span) v = Gives (Suits test b.name) v
LeafGives default b (BinaryId test span) v = Gives (Suits test b.id) v
LeafGives default b (Test test span) v = Unit {0}
LeafGives default b (Group test span) v = Unit {0}
LeafGives default b Default v = default v
LeafGives default b All v = Gives (Unit {0}) v
LeafGives default b None v = Gives ⊥ v

-- some answers give the default filter the value
abbrev pub DefaultGives : Formula Leaf → asked.Binary → Bool → Type 0
DefaultGives default b v = SomeAnswersGive (LeafGives (λ _. Unit {0}) b) default v

-- the values that a leaf may take, where this is the default filter (from nextest)
abbrev pub MayBe : Formula Leaf → asked.Binary → Leaf → Bool → Type 0
MayBe default b = LeafGives (DefaultGives default b) b
