-- What filters say of tests and of binaries, over the packages of a context and the paths of its graph.
use Rattle.std.specs.Prelude.{◌≡◌, Bool, Contains}
use Rattle.workspace_record.specs.Records.{Text}
use Rattle.guppy_package_parts.specs.declared.dependency_direction.DependencyDirection.{DependencyDirection}
use Rattle.guppy_package_parts.specs.declared.dependency_direction.DependencyDirection.TheVariants.{Forward, Reverse}
use Rattle.guppy_package_table.specs.Tables.{TableValue}
use Rattle.nextest_filter_tokens.specs.declared.heads.Predicate.TheVariants as names
use Rattle.nextest_filter_evaluation.specs.NameTests.{NameTest, Suits}
use Rattle.nextest_binaries.specs.Queries as asked
use Rattle.nextest_filter_evaluation.specs.Meaning.{Gives}
use Rattle.nextest_filtering.specs.Contexts.{ContextValue, Leads}
use Rattle.nextest_filtering.specs.Filters.{FilterLeaf, Named, Platform, Default, All, None}

-- a package of the context has the id, and a name that suits (from nextest's filtersets)
pub record IsMatched (cx : ContextValue) (test : NameTest) (id : Text) : Type 0 where
  pub found : Text × Text
  pub listed : Contains cx.packages found
  pub suits : Suits test found.1
  pub is_its : found.0 ≡ id

-- a package of the context has the id, and a feature of it that is said to be on suits (from nextest's filtersets)
pub record IsFeatured (cx : ContextValue) (test : NameTest) (id : Text) : Type 0 where
  pub found : Text × Text
  pub listed : Contains cx.packages found
  pub is_its : found.0 ≡ id
  pub feature : Text
  pub is_on : Contains cx.on (id, feature)
  pub suits : Suits test feature

-- a path, maybe empty, leads from the one package to the other, or in reverse to the one from the other
abbrev pub LeadsAlong : DependencyDirection → TableValue → Text → Text → Type 0
LeadsAlong Forward g a b = Leads g a b
LeadsAlong Reverse g a b = Leads g b a

-- a package of the context has the id, and a path leads to it from one of these, or in reverse from it
pub record IsReachedOf (cx : ContextValue) (starts : Text → Type 0) (direction : DependencyDirection) (id : Text) : Type 0 where
  pub found : Text × Text
  pub listed : Contains cx.packages found
  pub is_its : found.0 ≡ id
  pub start : Text
  pub starts_there : starts start
  pub leads : LeadsAlong direction cx.graph start id

-- a package of the context has the id, and a path leads to it from a matched one: it is one of its dependencies
-- (from nextest's filtersets)
abbrev pub IsDependency : ContextValue → NameTest → Text → Type 0
IsDependency cx test id = IsReachedOf cx (IsMatched cx test) Forward id

-- the same with a path to a matched one (from nextest's filtersets)
abbrev pub IsDependent : ContextValue → NameTest → Text → Type 0
IsDependent cx test id = IsReachedOf cx (IsMatched cx test) Reverse id

module _ (cx : ContextValue) where
  -- the leaf holds of the test, where it is said of which matchers' groups the test is a member, and whether the default filter holds
  -- (from nextest's filtersets)
  abbrev pub FilterLeafHolds : (NameTest → Type 0) → Type 0 → asked.Test → FilterLeaf → Type 0
  FilterLeafHolds member default t (Named names.Package test span) = IsMatched cx test t.binary.package_id
  FilterLeafHolds member default t (Named names.Deps test span) = IsDependency cx test t.binary.package_id
  FilterLeafHolds member default t (Named names.Rdeps test span) = IsDependent cx test t.binary.package_id
  FilterLeafHolds member default t (Named names.Kind test span) = Suits test t.binary.kind
  FilterLeafHolds member default t (Named names.Binary test span) = Suits test t.binary.name
  FilterLeafHolds member default t (Named names.BinaryId test span) = Suits test t.binary.id
  FilterLeafHolds member default t (Named names.Test test span) = Suits test t.name
  FilterLeafHolds member default t (Named names.Group test span) = member test
  FilterLeafHolds member default t (Named names.Feature test span) = IsFeatured cx test t.binary.package_id
  FilterLeafHolds member default t (Platform platform span) = t.binary.platform ≡ platform
  FilterLeafHolds member default t (Default span) = default
  FilterLeafHolds member default t All = Unit {0}
  FilterLeafHolds member default t None = ⊥

  -- the values that the leaf may take of tests of the binary, where it is said which values the default filter may take
  -- (from nextest's filtersets)
  abbrev pub FilterLeafGives : (Bool → Type 0) → asked.Binary → FilterLeaf → Bool → Type 0
  FilterLeafGives default b (Named names.Package test span) v = Gives (IsMatched cx test b.package_id) v
  FilterLeafGives default b (Named names.Deps test span) v = Gives (IsDependency cx test b.package_id) v
  FilterLeafGives default b (Named names.Rdeps test span) v = Gives (IsDependent cx test b.package_id) v
  FilterLeafGives default b (Named names.Kind test span) v = Gives (Suits test b.kind) v
  FilterLeafGives default b (Named names.Binary test span) v = Gives (Suits test b.name) v
  FilterLeafGives default b (Named names.BinaryId test span) v = Gives (Suits test b.id) v
  FilterLeafGives default b (Named names.Test test span) v = Unit {0}
  FilterLeafGives default b (Named names.Group test span) v = Unit {0}
  FilterLeafGives default b (Named names.Feature test span) v = Gives (IsFeatured cx test b.package_id) v
  FilterLeafGives default b (Platform platform span) v = Gives (b.platform ≡ platform) v
  FilterLeafGives default b (Default span) v = default v
  FilterLeafGives default b All v = Gives (Unit {0}) v
  FilterLeafGives default b None v = Gives ⊥ v
