-- How compiled filters stand to the filters that they are made of.
use Rattle.std.specs.Prelude.{◌≡◌, ◌↔◌, List, ◌++◌, Option, Some, None, Contains, reverse}
use Rattle.workspace_record.specs.Records.{Text}
use Rattle.guppy_package_parts.specs.declared.dependency_direction.DependencyDirection.{DependencyDirection}
use Rattle.nextest_filter_tokens.specs.declared.parse_error.ParseSingleError.{ParseSingleError}
use Rattle.nextest_filter_tokens.specs.declared.heads.Predicate.TheVariants as names
use Rattle.nextest_filter_evaluation.specs.NameTests.{NameTest}
use Rattle.nextest_filter_evaluation.specs.declared.groups.KnownGroups.{KnownGroups}
use Rattle.nextest_filter_evaluation.specs.Formulas.{Formula, negation, either, both, leaf}
use Rattle.nextest_filter_evaluation.specs.Compiled as compiled
use Rattle.nextest_filter_evaluation.specs.Compiled.{Leaf}
use Rattle.nextest_filtering.specs.Contexts.{ContextValue}
use Rattle.nextest_filtering.specs.Filters.{FilterLeaf, Named, Platform, Default, All}
use Rattle.nextest_filtering.specs.Filters as filter
use Rattle.nextest_filtering.specs.Meaning.{IsMatched, IsFeatured, IsReachedOf, IsDependency, IsDependent}
use Rattle.nextest_filtering.specs.Acceptance.{AreUnmatched}

-- the leaf has the packages that pass and no other
pub record ArePackages (passes : Text → Type 0) (l : Leaf) : Type 0 where
  pub ids : List Text
  pub is_leaf : l ≡ compiled.Packages ids
  pub members : (id : Text) → Contains ids id ↔ passes id

-- the packages that match, or those that a path joins with one of them
abbrev pub IsPicked : ContextValue → NameTest → Option DependencyDirection → Text → Type 0
IsPicked cx test None id = IsMatched cx test id
IsPicked cx test (Some direction) id = IsReachedOf cx (IsMatched cx test) direction id

-- packages are looked up, and all else stays as it was written
abbrev pub IsCompiledLeaf : ContextValue → FilterLeaf → Leaf → Type 0
IsCompiledLeaf cx (Named names.Package test span) l = ArePackages (IsMatched cx test) l
IsCompiledLeaf cx (Named names.Deps test span) l = ArePackages (IsDependency cx test) l
IsCompiledLeaf cx (Named names.Rdeps test span) l = ArePackages (IsDependent cx test) l
IsCompiledLeaf cx (Named names.Kind test span) l = l ≡ compiled.Kind test span
IsCompiledLeaf cx (Named names.Binary test span) l = l ≡ compiled.Binary test span
IsCompiledLeaf cx (Named names.BinaryId test span) l = l ≡ compiled.BinaryId test span
IsCompiledLeaf cx (Named names.Test test span) l = l ≡ compiled.Test test span
IsCompiledLeaf cx (Named names.Group test span) l = l ≡ compiled.Group test span
IsCompiledLeaf cx (Named names.Feature test span) l = ArePackages (IsFeatured cx test) l
IsCompiledLeaf cx (Platform platform span) l = l ≡ compiled.Platform platform span
IsCompiledLeaf cx (Default span) l = l ≡ compiled.Default
IsCompiledLeaf cx All l = l ≡ compiled.All
IsCompiledLeaf cx filter.None l = l ≡ compiled.None

-- the same operators over leaves that are compiled (from nextest)
abbrev pub IsCompiled : ContextValue → Formula FilterLeaf → Formula Leaf → Type 0
IsCompiled cx (negation a) (negation c) = IsCompiled cx a c
IsCompiled cx (either a b) (either c d) = IsCompiled cx a c × IsCompiled cx b d
IsCompiled cx (both a b) (both c d) = IsCompiled cx a c × IsCompiled cx b d
IsCompiled cx (leaf l) (leaf m) = IsCompiledLeaf cx l m
IsCompiled cx _ _ = ⊥

-- to the faults those of the leaves that match nothing were added
abbrev pub AddsUnmatched : ContextValue → KnownGroups → Formula FilterLeaf → List ParseSingleError → List ParseSingleError → Type 0
AddsUnmatched cx groups f old new = (faults : List ParseSingleError) × AreUnmatched cx groups f faults × (new ≡ old ++ faults)

-- the same from right to left
abbrev pub AddsReversed : ContextValue → KnownGroups → Formula FilterLeaf → List ParseSingleError → List ParseSingleError → Type 0
AddsReversed cx groups f old new =
    (faults : List ParseSingleError) × AreUnmatched cx groups f faults × (new ≡ old ++ reverse faults)
