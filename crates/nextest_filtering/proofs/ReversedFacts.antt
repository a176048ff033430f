-- Faults that are found from right to left.
use Rattle.std.proofs.Common.{◌≡◌, ◌∙◌, List, [], ◌∷◌, ◌++◌, Option, Some, None, refl, sym, ap, inl, inr, reverse}
use Rattle.std.proofs.lemmas.List.{append_assoc, reverse-append}
use Rattle.nextest_filter_tokens.specs.declared.parse_error.ParseSingleError.{ParseSingleError}
use Rattle.nextest_filter_tokens.specs.declared.heads.Predicate.TheVariants as names
use Rattle.nextest_filter_evaluation.specs.declared.groups.KnownGroups.{KnownGroups}
use Rattle.nextest_filter_evaluation.specs.Formulas.{Formula, both, either, leaf}
use Rattle.nextest_filtering.specs.Acceptance.{AreUnmatched, no_match}
use Rattle.nextest_filtering.specs.Compiling.{AddsReversed, AddsUnmatched}
use Rattle.nextest_filtering.specs.Contexts.{ContextValue}
use Rattle.nextest_filtering.specs.ContextViews.{list_of}
use Rattle.nextest_filtering.specs.Filters.{FilterLeaf, Named, Platform, Default, All}
use Rattle.nextest_filtering.specs.Filters as filter

-- the right part's first, and then the left part's
pub both_reversed : {A : Type 0} (old between new xs ys : List A) → between ≡ old ++ reverse ys → new ≡ between ++ reverse xs → new ≡ old ++ reverse (xs ++ ys)
both_reversed old between new xs ys right left =
    left ∙ ap (λ m. m ++ reverse xs) right ∙ append_assoc old (reverse ys) (reverse xs) ∙ ap (λ r. old ++ r) (sym (reverse-append xs ys))

-- at most one fault is the same from right to left
pub one_reversed : {A : Type 0} (o : Option A) → reverse (list_of o) ≡ list_of o
one_reversed None = refl
one_reversed (Some x) = refl

no_match_reversed : (l : FilterLeaf) → reverse (no_match l) ≡ no_match l
no_match_reversed (Named names.Package test span) = refl
no_match_reversed (Named names.Deps test span) = refl
no_match_reversed (Named names.Rdeps test span) = refl
no_match_reversed (Named names.Kind test span) = refl
no_match_reversed (Named names.Binary test span) = refl
no_match_reversed (Named names.BinaryId test span) = refl
no_match_reversed (Named names.Test test span) = refl
no_match_reversed (Named names.Group test span) = refl
no_match_reversed (Named names.Feature test span) = refl
no_match_reversed (Platform platform span) = refl
no_match_reversed (Default span) = refl
no_match_reversed All = refl
no_match_reversed filter.None = refl

-- those of a leaf are added the same way from either side
pub leaf_reversed : (cx : ContextValue) (groups : KnownGroups) (l : FilterLeaf) (old new : List ParseSingleError) → AddsUnmatched cx groups (leaf l) old new → AddsReversed cx groups (leaf l) old new
leaf_reversed cx groups l old new (faults, inl (some, none), added) =
    (faults, inl (some, none), added ∙ ap (λ xs. old ++ xs) (none ∙ sym (ap reverse none)))
leaf_reversed cx groups l old new (faults, inr (out, is), added) =
    (faults, inr (out, is), added ∙ ap (λ xs. old ++ xs) (is ∙ sym (no_match_reversed l) ∙ sym (ap reverse is)))

-- the right operand's, and then the left one's
pub either_reversed : (cx : ContextValue) (groups : KnownGroups) (f g : Formula FilterLeaf) (old between new : List ParseSingleError) → AddsReversed cx groups g old between → AddsReversed cx groups f between new → AddsReversed cx groups (either f g) old new
either_reversed cx groups f g old between new (ys, right, added) (xs, left, more) =
    (xs ++ ys, (xs, ys, left, right, refl), both_reversed old between new xs ys added more)

pub and_reversed : (cx : ContextValue) (groups : KnownGroups) (f g : Formula FilterLeaf) (old between new : List ParseSingleError) → AddsReversed cx groups g old between → AddsReversed cx groups f between new → AddsReversed cx groups (both f g) old new
and_reversed cx groups f g old between new (ys, right, added) (xs, left, more) =
    (xs ++ ys, (xs, ys, left, right, refl), both_reversed old between new xs ys added more)
