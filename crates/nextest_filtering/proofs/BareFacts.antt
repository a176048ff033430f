-- Trees that are one but for their spans are filters that say the same.
use Rattle.std.proofs.Common.{◌≡◌, refl, ap, sym, ◌∙◌, subst}
use Rattle.workspace_record.specs.Records.{Text}
use Rattle.nextest_filter_matchers.specs.Matchers.{matcher_of}
use Rattle.nextest_filter_matchers.specs.declared.name_matcher.NameMatcher.{NameMatcher}
use Rattle.nextest_filter_matchers.specs.declared.source_span.SourceSpan.{SourceSpan}
use Rattle.nextest_binaries.specs.declared.build_platform.BuildPlatform.{BuildPlatform}
use Rattle.nextest_filter_tokens.specs.declared.heads.Predicate.{Predicate}
use Rattle.nextest_filter_tokens.specs.declared.heads.Predicate.TheVariants as names
use Rattle.nextest_filter_syntax.specs.PatternsAsWritten.{IsLeafAsWritten, IsMatcherAsWritten}
use Rattle.nextest_filter_syntax.specs.Leaves as leaves
use Rattle.nextest_filter_syntax.specs.Leaves.{leaf_of}
use Rattle.nextest_filter_syntax.specs.declared.parsed_leaf.ParsedLeaf.{ParsedLeaf}
use Rattle.nextest_filter_syntax.specs.declared.parsed_leaf.ParsedLeaf.TheVariants as code
use Rattle.nextest_filter_syntax.specs.FiltersAsWritten.{IsExprAsWritten}
use Rattle.nextest_filter_syntax.specs.Grammar.{ReadsWhole}
use Rattle.nextest_filter_syntax.specs.Trees.{tree_of}
use Rattle.nextest_filter_syntax.specs.declared.parsed_expr.ParsedExpr.{ParsedExpr, Not', Union', Intersection', Difference', Parens', Set}
use Rattle.nextest_filter_syntax.proofs.GrammarFacts.{texts_read_as_one}
use Rattle.nextest_filter_laws.specs.Laws.{bare, bare_leaf}
use Rattle.nextest_filter_evaluation.specs.NameTests.{name_test}
use Rattle.nextest_filtering.specs.Filters.{FilterLeaf, Named, Platform, Default, All, filter_leaf, filter_of}
use Rattle.nextest_filtering.specs.Filters as filter
use Rattle.nextest_filtering.proofs.AlikeFacts.{AlikeFormula, AlikeLeaf, all, boths, eithers, leaves as leaves_alike, matchers_alike, named, negations, none, of_default, platform}

-- a leaf by its sort
data Parts : Type 0 where
  of_names : Predicate → NameMatcher → SourceSpan → Parts
  of_platform : BuildPlatform → SourceSpan → Parts
  of_the_default : SourceSpan → Parts
  of_all : Parts
  of_none : Parts

abbrev leaf_by : Parts → leaves.Leaf SourceSpan
leaf_by (of_names p m s) = leaves.Named p (matcher_of m) s
leaf_by (of_platform x s) = leaves.Platform x s
leaf_by (of_the_default s) = leaves.Default s
leaf_by of_all = leaves.All
leaf_by of_none = leaves.None

abbrev filter_by : Parts → FilterLeaf
filter_by (of_names p m s) = Named p (name_test m) s
filter_by (of_platform x s) = Platform x s
filter_by (of_the_default s) = Default s
filter_by of_all = All
filter_by of_none = filter.None

abbrev IsPartAsWritten : Parts → Type 0
IsPartAsWritten (of_names p m s) = IsMatcherAsWritten m
IsPartAsWritten (of_platform x s) = Unit {0}
IsPartAsWritten (of_the_default s) = Unit {0}
IsPartAsWritten of_all = Unit {0}
IsPartAsWritten of_none = Unit {0}

-- how a leaf is told by its sort
record IsBy (l : ParsedLeaf SourceSpan) : Type 0 where
  parts : Parts
  is_leaf : leaf_of l ≡ leaf_by parts
  is_filter : filter_leaf l ≡ filter_by parts
  as_written : IsLeafAsWritten l → IsPartAsWritten parts

by_sort : (l : ParsedLeaf SourceSpan) → IsBy l
by_sort (code.Package m s) = record { parts = of_names names.Package m s; is_leaf = refl; is_filter = refl; as_written = λ h. h }
by_sort (code.Deps m s) = record { parts = of_names names.Deps m s; is_leaf = refl; is_filter = refl; as_written = λ h. h }
by_sort (code.Rdeps m s) = record { parts = of_names names.Rdeps m s; is_leaf = refl; is_filter = refl; as_written = λ h. h }
by_sort (code.Kind m s) = record { parts = of_names names.Kind m s; is_leaf = refl; is_filter = refl; as_written = λ h. h }
by_sort (code.Binary m s) = record { parts = of_names names.Binary m s; is_leaf = refl; is_filter = refl; as_written = λ h. h }
by_sort (code.BinaryId m s) = record { parts = of_names names.BinaryId m s; is_leaf = refl; is_filter = refl; as_written = λ h. h }
by_sort (code.Platform x s) = record { parts = of_platform x s; is_leaf = refl; is_filter = refl; as_written = λ h. h }
by_sort (code.Test m s) = record { parts = of_names names.Test m s; is_leaf = refl; is_filter = refl; as_written = λ h. h }
by_sort (code.Group m s) = record { parts = of_names names.Group m s; is_leaf = refl; is_filter = refl; as_written = λ h. h }
by_sort (code.Feature m s) = record { parts = of_names names.Feature m s; is_leaf = refl; is_filter = refl; as_written = λ h. h }
by_sort (code.Default s) = record { parts = of_the_default s; is_leaf = refl; is_filter = refl; as_written = λ h. h }
by_sort code.All = record { parts = of_all; is_leaf = refl; is_filter = refl; as_written = λ h. h }
by_sort code.None = record { parts = of_none; is_leaf = refl; is_filter = refl; as_written = λ h. h }

named_alike : (p q : Predicate) (m n : NameMatcher) (s t : SourceSpan) → p ≡ q → matcher_of m ≡ matcher_of n → IsMatcherAsWritten m → IsMatcherAsWritten n → AlikeLeaf (Named p (name_test m) s) (Named q (name_test n) t)
named_alike p q m n s t e f g h = subst (λ r. AlikeLeaf (Named p (name_test m) s) (Named r (name_test n) t)) e (named p (name_test m) (name_test n) s t (matchers_alike m n f g h))

platform_alike : (x y : BuildPlatform) (s t : SourceSpan) → x ≡ y → AlikeLeaf (Platform x s) (Platform y t)
platform_alike x y s t e = subst (λ z. AlikeLeaf (Platform x s) (Platform z t)) e (platform x s t)

parts_alike : (a b : Parts) → bare_leaf (leaf_by a) ≡ bare_leaf (leaf_by b) → IsPartAsWritten a → IsPartAsWritten b → AlikeLeaf (filter_by a) (filter_by b)
parts_alike (of_names p m s) (of_names q n t) e g h = named_alike p q m n s t (cc) (cc) g h
parts_alike (of_names p m s) (of_platform y t) e g h = absurd cc
parts_alike (of_names p m s) (of_the_default t) e g h = absurd cc
parts_alike (of_names p m s) of_all e g h = absurd cc
parts_alike (of_names p m s) of_none e g h = absurd cc
parts_alike (of_platform x s) (of_names q n t) e g h = absurd cc
parts_alike (of_platform x s) (of_platform y t) e g h = platform_alike x y s t (cc)
parts_alike (of_platform x s) (of_the_default t) e g h = absurd cc
parts_alike (of_platform x s) of_all e g h = absurd cc
parts_alike (of_platform x s) of_none e g h = absurd cc
parts_alike (of_the_default s) (of_names q n t) e g h = absurd cc
parts_alike (of_the_default s) (of_platform y t) e g h = absurd cc
parts_alike (of_the_default s) (of_the_default t) e g h = of_default s t
parts_alike (of_the_default s) of_all e g h = absurd cc
parts_alike (of_the_default s) of_none e g h = absurd cc
parts_alike of_all (of_names q n t) e g h = absurd cc
parts_alike of_all (of_platform y t) e g h = absurd cc
parts_alike of_all (of_the_default t) e g h = absurd cc
parts_alike of_all of_all e g h = all
parts_alike of_all of_none e g h = absurd cc
parts_alike of_none (of_names q n t) e g h = absurd cc
parts_alike of_none (of_platform y t) e g h = absurd cc
parts_alike of_none (of_the_default t) e g h = absurd cc
parts_alike of_none of_all e g h = absurd cc
parts_alike of_none of_none e g h = none

parsed_leaves_alike : (l m : ParsedLeaf SourceSpan) → bare_leaf (leaf_of l) ≡ bare_leaf (leaf_of m) → IsLeafAsWritten l → IsLeafAsWritten m → AlikeLeaf (filter_leaf l) (filter_leaf m)
parsed_leaves_alike l m e g h =
    let x = by_sort l in
    let y = by_sort m in
    subst (λ f. AlikeLeaf f (filter_leaf m)) (sym x.is_filter) (subst (AlikeLeaf (filter_by x.parts)) (sym y.is_filter)
    (parts_alike x.parts y.parts (sym (ap bare_leaf x.is_leaf) ∙ e ∙ ap bare_leaf y.is_leaf) (x.as_written g) (y.as_written h)))

-- filters whose trees are one but for their spans are alike
pub bare_alike : (f g : ParsedExpr SourceSpan) → bare (tree_of f) ≡ bare (tree_of g) → IsExprAsWritten f → IsExprAsWritten g → AlikeFormula (filter_of f) (filter_of g)
bare_alike (Not' a p x) (Not' b r z) e g h = negations _ _ (bare_alike x z (cc) g h)
bare_alike (Not' a p x) (Union' b r z s w) e g h = absurd cc
bare_alike (Not' a p x) (Intersection' b r z s w) e g h = absurd cc
bare_alike (Not' a p x) (Difference' b r z s w) e g h = absurd cc
bare_alike (Not' a p x) (Parens' r z) e g h = absurd cc
bare_alike (Not' a p x) (Set m) e g h = absurd cc
bare_alike (Union' a p x q y) (Not' b r z) e g h = absurd cc
bare_alike (Union' a p x q y) (Union' b r z s w) e g h = eithers _ _ _ _ (bare_alike x z (cc) g.0 h.0) (bare_alike y w (cc) g.1 h.1)
bare_alike (Union' a p x q y) (Intersection' b r z s w) e g h = absurd cc
bare_alike (Union' a p x q y) (Difference' b r z s w) e g h = absurd cc
bare_alike (Union' a p x q y) (Parens' r z) e g h = absurd cc
bare_alike (Union' a p x q y) (Set m) e g h = absurd cc
bare_alike (Intersection' a p x q y) (Not' b r z) e g h = absurd cc
bare_alike (Intersection' a p x q y) (Union' b r z s w) e g h = absurd cc
bare_alike (Intersection' a p x q y) (Intersection' b r z s w) e g h = boths _ _ _ _ (bare_alike x z (cc) g.0 h.0) (bare_alike y w (cc) g.1 h.1)
bare_alike (Intersection' a p x q y) (Difference' b r z s w) e g h = absurd cc
bare_alike (Intersection' a p x q y) (Parens' r z) e g h = absurd cc
bare_alike (Intersection' a p x q y) (Set m) e g h = absurd cc
bare_alike (Difference' a p x q y) (Not' b r z) e g h = absurd cc
bare_alike (Difference' a p x q y) (Union' b r z s w) e g h = absurd cc
bare_alike (Difference' a p x q y) (Intersection' b r z s w) e g h = absurd cc
bare_alike (Difference' a p x q y) (Difference' b r z s w) e g h = boths _ _ _ _ (bare_alike x z (cc) g.0 h.0) (negations _ _ (bare_alike y w (cc) g.1 h.1))
bare_alike (Difference' a p x q y) (Parens' r z) e g h = absurd cc
bare_alike (Difference' a p x q y) (Set m) e g h = absurd cc
bare_alike (Parens' p x) (Not' b r z) e g h = absurd cc
bare_alike (Parens' p x) (Union' b r z s w) e g h = absurd cc
bare_alike (Parens' p x) (Intersection' b r z s w) e g h = absurd cc
bare_alike (Parens' p x) (Difference' b r z s w) e g h = absurd cc
bare_alike (Parens' p x) (Parens' r z) e g h = bare_alike x z (cc) g h
bare_alike (Parens' p x) (Set m) e g h = absurd cc
bare_alike (Set l) (Not' b r z) e g h = absurd cc
bare_alike (Set l) (Union' b r z s w) e g h = absurd cc
bare_alike (Set l) (Intersection' b r z s w) e g h = absurd cc
bare_alike (Set l) (Difference' b r z s w) e g h = absurd cc
bare_alike (Set l) (Parens' r z) e g h = absurd cc
bare_alike (Set l) (Set m) e g h = leaves_alike _ _ (parsed_leaves_alike l m (cc) g h)

-- filters that are read in one text are alike
pub read_alike : (text : Text) (f g : ParsedExpr SourceSpan) → ReadsWhole text (tree_of f) → ReadsWhole text (tree_of g) → IsExprAsWritten f → IsExprAsWritten g → AlikeFormula (filter_of f) (filter_of g)
read_alike text f g r s = bare_alike f g (ap bare (texts_read_as_one text (tree_of f) (tree_of g) r s))
