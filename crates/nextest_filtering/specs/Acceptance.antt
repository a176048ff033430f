-- Which filters are accepted: what is banned where a filter stands, and which names have to be there.
use Rattle.std.specs.Prelude.{◌≡◌, ◌⊎◌, Bool, true, false, List, [], ◌∷◌, ◌++◌, map}
use Rattle.nextest_filter_tokens.specs.declared.filterset_kind.FiltersetKind.{FiltersetKind}
use Rattle.nextest_filter_tokens.specs.declared.filterset_kind.FiltersetKind.TheVariants as kind
use Rattle.nextest_filter_tokens.specs.declared.filterset_kind.BannedPredicateReason.TheVariants.{DefaultInfiniteRecursion, GroupCircularDependency, GroupNotAvailableInDefaultFilter, GroupNotAvailableInArchive, TestNotAvailableInArchive}
use Rattle.nextest_filter_tokens.specs.declared.parse_error.ParseSingleError.{ParseSingleError}
use Rattle.nextest_filter_tokens.specs.declared.parse_error.ParseSingleError.TheVariants.{BannedPredicate, NoPackageMatch, NoGroupMatch, NoBinaryIdMatch, NoBinaryNameMatch, NoFeatureMatch}
use Rattle.nextest_filter_tokens.specs.declared.heads.Predicate.TheVariants as names
use Rattle.nextest_filter_evaluation.specs.NameTests.{SuitsOneOf}
use Rattle.nextest_filter_evaluation.specs.Groups.{known_groups}
use Rattle.nextest_filter_evaluation.specs.declared.groups.KnownGroups.{KnownGroups}
use Rattle.nextest_filter_evaluation.specs.Formulas.{Formula, negation, either, both, leaf, EachLeaf}
use Rattle.nextest_filtering.specs.Contexts.{ContextValue}
use Rattle.nextest_filtering.specs.Filters.{FilterLeaf, Named, Default}

abbrev pub names_group : FilterLeaf → Bool
names_group (Named names.Group test span) = true
names_group _ = false

-- the fault of a leaf that is banned where the filter stands (from nextest)
abbrev pub ban_of : FiltersetKind → FilterLeaf → List ParseSingleError
ban_of kind.TestArchive (Named names.Test test span) = BannedPredicate kind.TestArchive span TestNotAvailableInArchive ∷ []
ban_of kind.TestArchive (Named names.Group test span) = BannedPredicate kind.TestArchive span GroupNotAvailableInArchive ∷ []
ban_of kind.OverrideFilter (Named names.Group test span) = BannedPredicate kind.OverrideFilter span GroupCircularDependency ∷ []
ban_of kind.DefaultFilter (Named names.Group test span) = BannedPredicate kind.DefaultFilter span GroupNotAvailableInDefaultFilter ∷ []
ban_of kind.DefaultFilter (Default span) = BannedPredicate kind.DefaultFilter span DefaultInfiniteRecursion ∷ []
ban_of _ _ = []

-- the bans from left to right (from nextest)
abbrev pub bans : FiltersetKind → Formula FilterLeaf → List ParseSingleError
bans kind (negation a) = bans kind a
bans kind (either a b) = bans kind a ++ bans kind b
bans kind (both a b) = bans kind a ++ bans kind b
bans kind (leaf l) = ban_of kind l

module _ (cx : ContextValue) (groups : KnownGroups) where
  -- the matcher of a leaf that names packages, binaries, groups or features matches one of their names; a feature may be off
  -- (from nextest)
  abbrev pub MatchesSome : FilterLeaf → Type 0
  MatchesSome (Named names.Package test span) = SuitsOneOf test (map (λ p. p.1) cx.packages)
  MatchesSome (Named names.Deps test span) = SuitsOneOf test (map (λ p. p.1) cx.packages)
  MatchesSome (Named names.Rdeps test span) = SuitsOneOf test (map (λ p. p.1) cx.packages)
  MatchesSome (Named names.Binary test span) = SuitsOneOf test (map (λ b. b.1) cx.binaries)
  MatchesSome (Named names.BinaryId test span) = SuitsOneOf test (map (λ b. b.0) cx.binaries)
  MatchesSome (Named names.Group test span) = SuitsOneOf test (known_groups groups)
  MatchesSome (Named names.Feature test span) = SuitsOneOf test cx.features
  MatchesSome _ = Unit {0}

  -- no leaf is banned, and each matches some name that it has to (from nextest)
  abbrev pub IsAccepted : FiltersetKind → Formula FilterLeaf → Type 0
  IsAccepted kind f = EachLeaf (λ l. (ban_of kind l ≡ []) × MatchesSome l) f

-- the fault of a leaf that matches nothing
abbrev pub no_match : FilterLeaf → List ParseSingleError
no_match (Named names.Package test span) = NoPackageMatch span ∷ []
no_match (Named names.Deps test span) = NoPackageMatch span ∷ []
no_match (Named names.Rdeps test span) = NoPackageMatch span ∷ []
no_match (Named names.Binary test span) = NoBinaryNameMatch span ∷ []
no_match (Named names.BinaryId test span) = NoBinaryIdMatch span ∷ []
no_match (Named names.Group test span) = NoGroupMatch span ∷ []
no_match (Named names.Feature test span) = NoFeatureMatch span ∷ []
no_match _ = []

-- the faults are those of the leaves that match nothing, from left to right (from nextest)
abbrev pub AreUnmatched : ContextValue → KnownGroups → Formula FilterLeaf → List ParseSingleError → Type 0
AreUnmatched cx groups (negation a) faults = AreUnmatched cx groups a faults
AreUnmatched cx groups (either a b) faults = (xs : List ParseSingleError) × (ys : List ParseSingleError) × AreUnmatched cx groups a xs × AreUnmatched cx groups b ys × (faults ≡ xs ++ ys)
AreUnmatched cx groups (both a b) faults = (xs : List ParseSingleError) × (ys : List ParseSingleError) × AreUnmatched cx groups a xs × AreUnmatched cx groups b ys × (faults ≡ xs ++ ys)
AreUnmatched cx groups (leaf l) faults = (MatchesSome cx groups l × (faults ≡ [])) ⊎ ((MatchesSome cx groups l → ⊥) × (faults ≡ no_match l))
