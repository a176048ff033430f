-- The faults of a filter that is read and not accepted lie within its text.
use Rattle.std.proofs.Common.{◌≡◌, ℕ, All, List, [], ◌∷◌, ◌++◌, length, inl, inr, sym, subst}
use Rattle.std.proofs.lemmas.List.Elements.{All-append, All-cons, All-nil}
use Rattle.std.specs.Str.{IsUtf8}
use Rattle.workspace_record.specs.Records.{Text}
use Rattle.nextest_filter_matchers.specs.declared.source_span.SourceSpan.{SourceSpan}
use Rattle.nextest_filter_tokens.specs.declared.filterset_kind.FiltersetKind.{FiltersetKind}
use Rattle.nextest_filter_tokens.specs.declared.filterset_kind.FiltersetKind.TheVariants as kind
use Rattle.nextest_filter_tokens.specs.declared.parse_error.ParseSingleError.{ParseSingleError}
use Rattle.nextest_filter_tokens.specs.declared.heads.Predicate.{Predicate}
use Rattle.nextest_filter_tokens.specs.declared.heads.Predicate.TheVariants as names
use Rattle.nextest_filter_tokens.specs.FaultLists.{AreWithin, LiesWithin}
use Rattle.nextest_filter_syntax.specs.declared.parsed_leaf.ParsedLeaf.{ParsedLeaf}
use Rattle.nextest_filter_syntax.specs.declared.parsed_leaf.ParsedLeaf.TheVariants as code
use Rattle.nextest_filter_syntax.specs.Leaves.{leaf_of}
use Rattle.nextest_filter_syntax.specs.Trees.{tree_of}
use Rattle.nextest_filter_syntax.specs.Grammar.{ReadsWhole}
use Rattle.nextest_filter_syntax.specs.declared.parsed_expr.ParsedExpr.{ParsedExpr, Not', Union', Intersection', Difference', Parens', Set}
use Rattle.nextest_filter_syntax.proofs.SpanFacts.{AreLeavesIn, IsLeafIn, LiesIn, whole_in}
use Rattle.nextest_filter_evaluation.specs.declared.groups.KnownGroups.{KnownGroups}
use Rattle.nextest_filter_evaluation.specs.NameTests.{NameTest}
use Rattle.nextest_filter_evaluation.specs.Formulas.{EachLeaf, Formula, negation, either, both, leaf}
use Rattle.nextest_filtering.specs.Contexts.{ContextValue}
use Rattle.nextest_filtering.specs.Filters.{FilterLeaf, Named, Platform, Default, All as Everything, None, filter_leaf, filter_of}
use Rattle.nextest_filtering.specs.Acceptance.{AreUnmatched, ban_of, bans, no_match}

-- the leaf's span, if it has one, lies within a text of this length
abbrev IsIn : ℕ → FilterLeaf → Type 0
IsIn n (Named predicate test span) = LiesIn n span
IsIn n (Platform platform span) = LiesIn n span
IsIn n (Default span) = LiesIn n span
IsIn n Everything = Unit {0}
IsIn n None = Unit {0}

module _ (n : ℕ) where
  leaf_within : (l : ParsedLeaf SourceSpan) → IsLeafIn n (leaf_of l) → IsIn n (filter_leaf l)
  leaf_within (code.Package matcher span) p = p
  leaf_within (code.Deps matcher span) p = p
  leaf_within (code.Rdeps matcher span) p = p
  leaf_within (code.Kind matcher span) p = p
  leaf_within (code.Binary matcher span) p = p
  leaf_within (code.BinaryId matcher span) p = p
  leaf_within (code.Platform platform span) p = p
  leaf_within (code.Test matcher span) p = p
  leaf_within (code.Group matcher span) p = p
  leaf_within (code.Feature matcher span) p = p
  leaf_within (code.Default span) p = p
  leaf_within code.All p = tt
  leaf_within code.None p = tt

  filter_within : (x : ParsedExpr SourceSpan) → AreLeavesIn n (tree_of x) → EachLeaf (IsIn n) (filter_of x)
  filter_within (Not' op p x) h = filter_within x h
  filter_within (Union' op p x q y) h = (filter_within x h.0, filter_within y h.1)
  filter_within (Intersection' op p x q y) h = (filter_within x h.0, filter_within y h.1)
  filter_within (Difference' op p x q y) h = (filter_within x h.0, filter_within y h.1)
  filter_within (Parens' p x) h = filter_within x h
  filter_within (Set l) h = leaf_within l h

  none : AreWithin n []
  none = All-nil (LiesWithin n)

  one : (fault : ParseSingleError) → LiesWithin n fault → AreWithin n (fault ∷ [])
  one fault p = All-cons (LiesWithin n) fault [] p none

  ban_within : (k : FiltersetKind) (l : FilterLeaf) → IsIn n l → AreWithin n (ban_of k l)
  ban_within kind.Test l p = none
  ban_within kind.TestArchive (Named names.Package test span) p = none
  ban_within kind.TestArchive (Named names.Deps test span) p = none
  ban_within kind.TestArchive (Named names.Rdeps test span) p = none
  ban_within kind.TestArchive (Named names.Kind test span) p = none
  ban_within kind.TestArchive (Named names.Binary test span) p = none
  ban_within kind.TestArchive (Named names.BinaryId test span) p = none
  ban_within kind.TestArchive (Named names.Test test span) p = one _ p
  ban_within kind.TestArchive (Named names.Group test span) p = one _ p
  ban_within kind.TestArchive (Named names.Feature test span) p = none
  ban_within kind.TestArchive (Platform platform span) p = none
  ban_within kind.TestArchive (Default span) p = none
  ban_within kind.TestArchive Everything p = none
  ban_within kind.TestArchive None p = none
  ban_within kind.OverrideFilter (Named names.Package test span) p = none
  ban_within kind.OverrideFilter (Named names.Deps test span) p = none
  ban_within kind.OverrideFilter (Named names.Rdeps test span) p = none
  ban_within kind.OverrideFilter (Named names.Kind test span) p = none
  ban_within kind.OverrideFilter (Named names.Binary test span) p = none
  ban_within kind.OverrideFilter (Named names.BinaryId test span) p = none
  ban_within kind.OverrideFilter (Named names.Test test span) p = none
  ban_within kind.OverrideFilter (Named names.Group test span) p = one _ p
  ban_within kind.OverrideFilter (Named names.Feature test span) p = none
  ban_within kind.OverrideFilter (Platform platform span) p = none
  ban_within kind.OverrideFilter (Default span) p = none
  ban_within kind.OverrideFilter Everything p = none
  ban_within kind.OverrideFilter None p = none
  ban_within kind.DefaultFilter (Named names.Package test span) p = none
  ban_within kind.DefaultFilter (Named names.Deps test span) p = none
  ban_within kind.DefaultFilter (Named names.Rdeps test span) p = none
  ban_within kind.DefaultFilter (Named names.Kind test span) p = none
  ban_within kind.DefaultFilter (Named names.Binary test span) p = none
  ban_within kind.DefaultFilter (Named names.BinaryId test span) p = none
  ban_within kind.DefaultFilter (Named names.Test test span) p = none
  ban_within kind.DefaultFilter (Named names.Group test span) p = one _ p
  ban_within kind.DefaultFilter (Named names.Feature test span) p = none
  ban_within kind.DefaultFilter (Platform platform span) p = none
  ban_within kind.DefaultFilter (Default span) p = one _ p
  ban_within kind.DefaultFilter Everything p = none
  ban_within kind.DefaultFilter None p = none

  bans_in : (k : FiltersetKind) (f : Formula FilterLeaf) → EachLeaf (IsIn n) f → AreWithin n (bans k f)
  bans_in k (negation a) h = bans_in k a h
  bans_in k (either a b) h = All-append (LiesWithin n) _ _ (bans_in k a h.0) (bans_in k b h.1)
  bans_in k (both a b) h = All-append (LiesWithin n) _ _ (bans_in k a h.0) (bans_in k b h.1)
  bans_in k (leaf l) h = ban_within k l h

  no_match_within : (l : FilterLeaf) → IsIn n l → AreWithin n (no_match l)
  no_match_within (Named names.Package test span) p = one _ p
  no_match_within (Named names.Deps test span) p = one _ p
  no_match_within (Named names.Rdeps test span) p = one _ p
  no_match_within (Named names.Kind test span) p = none
  no_match_within (Named names.Binary test span) p = one _ p
  no_match_within (Named names.BinaryId test span) p = one _ p
  no_match_within (Named names.Test test span) p = none
  no_match_within (Named names.Group test span) p = one _ p
  no_match_within (Named names.Feature test span) p = one _ p
  no_match_within (Platform platform span) p = none
  no_match_within (Default span) p = none
  no_match_within Everything p = none
  no_match_within None p = none

  unmatched_in : (cx : ContextValue) (groups : KnownGroups) (f : Formula FilterLeaf) (faults : List ParseSingleError) → EachLeaf (IsIn n) f → AreUnmatched cx groups f faults → AreWithin n faults
  unmatched_in cx groups (negation a) faults h u = unmatched_in cx groups a faults h u
  unmatched_in cx groups (either a b) faults h (xs, ys, u, v, e) =
      subst (AreWithin n) (sym e) (All-append (LiesWithin n) xs ys (unmatched_in cx groups a xs h.0 u) (unmatched_in cx groups b ys h.1 v))
  unmatched_in cx groups (both a b) faults h (xs, ys, u, v, e) =
      subst (AreWithin n) (sym e) (All-append (LiesWithin n) xs ys (unmatched_in cx groups a xs h.0 u) (unmatched_in cx groups b ys h.1 v))
  unmatched_in cx groups (leaf l) faults h (inl m) = subst (AreWithin n) (sym m.1) none
  unmatched_in cx groups (leaf l) faults h (inr m) = subst (AreWithin n) (sym m.1) (no_match_within l h)

module _ (text : Text) (utf8 : IsUtf8 text) (parsed : ParsedExpr SourceSpan) (reads : ReadsWhole text (tree_of parsed)) where
  each_in : EachLeaf (IsIn (length text)) (filter_of parsed)
  each_in = filter_within (length text) parsed (whole_in text utf8 (tree_of parsed) reads)

  -- banned predicates lie within the text
  pub bans_within : (k : FiltersetKind) → AreWithin (length text) (bans k (filter_of parsed))
  bans_within k = bans_in (length text) k (filter_of parsed) each_in

  -- leaves that match nothing lie within the text
  pub unmatched_within : (cx : ContextValue) (groups : KnownGroups) (faults : List ParseSingleError) → AreUnmatched cx groups (filter_of parsed) faults → AreWithin (length text) faults
  unmatched_within cx groups faults u = unmatched_in (length text) cx groups (filter_of parsed) faults each_in u
