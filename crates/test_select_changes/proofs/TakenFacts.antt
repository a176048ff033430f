-- What a filter for what depends on packages takes.
use Rattle.std.proofs.Common.{◌≡◌, ◌∙◌, ◌↔◌, ◌⊎◌, inl, inr, ⊎_elim, refl, sym, ap, subst, Bool, false, List, [], ◌∷◌, Contains, IsTrue, string_bytes}
use Rattle.list_facts.proofs.Membership.{Contains-cons_cases, Contains-first, Contains-none, Contains-rest}
use Rattle.workspace_record.specs.Records.{Text}
use Rattle.nextest_binaries.specs.Queries as asked
use Rattle.nextest_filter_matchers.specs.Matchers.{Equal, matcher_of}
use Rattle.nextest_filter_matchers.specs.declared.name_matcher.NameMatcher.{NameMatcher}
use Rattle.nextest_filter_matchers.specs.declared.name_matcher.NameMatcher.TheVariants as name
use Rattle.nextest_filter_matchers.specs.declared.source_span.SourceSpan.{SourceSpan}
use Rattle.nextest_filter_tokens.specs.declared.heads.Predicate.TheVariants.{Rdeps}
use Rattle.nextest_filter_tokens.specs.declared.operator_signs.OrOperator.TheVariants.{Pipe}
use Rattle.nextest_filter_syntax.specs.Leaves.{Named, None, leaf_of}
use Rattle.nextest_filter_syntax.specs.declared.parsed_leaf.ParsedLeaf.{ParsedLeaf}
use Rattle.nextest_filter_syntax.specs.declared.parsed_leaf.ParsedLeaf.TheVariants as code
use Rattle.nextest_filter_syntax.specs.declared.parsed_expr.ParsedExpr.{ParsedExpr, Not', Union', Intersection', Difference', Parens', Set}
use Rattle.nextest_filter_syntax.specs.Trees.{Tree, union_of, set_of, tree_of}
use Rattle.nextest_filter_syntax.specs.TreeTexts.{tree_text}
use Rattle.nextest_filter_syntax.proofs.GrammarFacts.{texts_read_as_one}
use Rattle.nextest_filter_laws.specs.Laws.{bare, bare_leaf}
use Rattle.nextest_filter_evaluation.specs.NameTests.{EqualTo, NameTest, name_test}
use Rattle.nextest_filter_evaluation.specs.Formulas.{Holds}
use Rattle.nextest_filtering.specs.Contexts.{ContextValue}
use Rattle.nextest_filtering.specs.Filters.{filter_leaf, filter_of}
use Rattle.nextest_filtering.specs.Meaning.{FilterLeafHolds, IsDependent}
use Rattle.test_select_changes.specs.ChangedFilters.{dependents_of, dependents_of_all, or_dependents}
use Rattle.test_select_changes.specs.Laws.{DependentsAreTaken, IsDependentOn}
use Rattle.test_select_changes.proofs.PrintableFacts.{changed_filters_read_back}

only_one : (name other : Text) → Contains (name ∷ []) other → name ≡ other
only_one name other h = ⊎_elim (λ e. e) (λ r. absurd (Contains-none other r)) (Contains-cons_cases name [] other h)

-- dependents of packages of some names
module _ (cx : ContextValue) (id : Text) where
  on_none : IsDependentOn cx [] id → ⊥
  on_none d = Contains-none d.name d.named

  -- of these names, where they hold the name
  renamed : (names others : List Text) (d : IsDependentOn cx names id) → Contains others d.name → IsDependentOn cx others id
  renamed names others d named =
      record { own = d.own; listed = d.listed; name = d.name; named = named; changed = d.changed; is_changed = d.is_changed; leads = d.leads }

  joined : (name : Text) (names : List Text) → IsDependentOn cx (name ∷ []) id ⊎ IsDependentOn cx names id → IsDependentOn cx (name ∷ names) id
  joined name names (inl d) = renamed (name ∷ []) (name ∷ names) d (subst (Contains (name ∷ names)) (only_one name d.name d.named) (Contains-first name names))
  joined name names (inr d) = renamed names (name ∷ names) d (Contains-rest name names d.name d.named)

  parted : (name : Text) (names : List Text) → IsDependentOn cx (name ∷ names) id → IsDependentOn cx (name ∷ []) id ⊎ IsDependentOn cx names id
  parted name names d =
      ⊎_elim (λ e. inl (renamed (name ∷ names) (name ∷ []) d (subst (Contains (name ∷ [])) e (Contains-first name [])))) (λ r. inr (renamed (name ∷ names) names d r)) (Contains-cons_cases name names d.name d.named)

  -- what `rdeps(=NAME)` takes
  dependent_on : (name : Text) (implicit : Bool) → IsDependent cx (EqualTo name implicit) id → IsDependentOn cx (name ∷ []) id
  dependent_on name implicit d =
      let m = d.starts_there in
      record {
        own = d.found.1;
        listed = subst (λ i. Contains cx.packages (i, d.found.1)) d.is_its d.listed;
        name = name;
        named = Contains-first name [];
        changed = d.start;
        is_changed = subst (λ n. Contains cx.packages (d.start, n)) (sym m.suits) (subst (λ i. Contains cx.packages (i, m.found.1)) m.is_its m.listed);
        leads = d.leads;
      }

  dependent_from : (name : Text) (implicit : Bool) → IsDependentOn cx (name ∷ []) id → IsDependent cx (EqualTo name implicit) id
  dependent_from name implicit d =
      record {
        found = (id, d.own);
        listed = d.listed;
        is_its = refl;
        start = d.changed;
        starts_there = record { found = (d.changed, d.name); listed = d.is_changed; suits = only_one name d.name d.named; is_its = refl };
        leads = d.leads;
      }

  matcher_says : (own : Text) (m : NameMatcher) → matcher_of m ≡ Equal own false → IsDependent cx (name_test m) id ↔ IsDependentOn cx (own ∷ []) id
  matcher_says own (name.Equal value implicit) e =
      let same : string_bytes value ≡ own = cc in
      subst (λ n. IsDependent cx (name_test (name.Equal value implicit)) id ↔ IsDependentOn cx (n ∷ []) id) same (dependent_on (string_bytes value) implicit, dependent_from (string_bytes value) implicit)
  matcher_says own (name.Contains value implicit) e = absurd cc
  matcher_says own (name.Glob glob implicit) e = absurd cc
  matcher_says own (name.Regex regex) e = absurd cc

module _ (cx : ContextValue) (member : NameTest → Type 0) (default : Type 0) (t : asked.Test) where
  -- filters with this bare tree hold of the test exactly where the statement does
  abbrev Says : Tree (Unit {0}) → Type 0 → Type 0
  Says tree P = (e : ParsedExpr SourceSpan) → bare (tree_of e) ≡ tree → Holds (FilterLeafHolds cx member default t) (filter_of e) ↔ P

  -- the test's package is a dependent of one of these names
  abbrev On : List Text → Type 0
  On names = IsDependentOn cx names t.binary.package_id

  leaf_says : (own : Text) (l : ParsedLeaf SourceSpan) → bare_leaf (leaf_of l) ≡ Named Rdeps (Equal own false) tt → FilterLeafHolds cx member default t (filter_leaf l) ↔ On (own ∷ [])
  leaf_says own (code.Package m s) e = absurd cc
  leaf_says own (code.Deps m s) e = absurd cc
  leaf_says own (code.Rdeps m s) e = matcher_says cx t.binary.package_id own m (cc)
  leaf_says own (code.Kind m s) e = absurd cc
  leaf_says own (code.Binary m s) e = absurd cc
  leaf_says own (code.BinaryId m s) e = absurd cc
  leaf_says own (code.Platform x s) e = absurd cc
  leaf_says own (code.Test m s) e = absurd cc
  leaf_says own (code.Group m s) e = absurd cc
  leaf_says own (code.Feature m s) e = absurd cc
  leaf_says own (code.Default s) e = absurd cc
  leaf_says own code.All e = absurd cc
  leaf_says own code.None e = absurd cc

  one_says : (own : Text) → Says (dependents_of own) (On (own ∷ []))
  one_says own (Not' op p x) e = absurd cc
  one_says own (Union' op p x q y) e = absurd cc
  one_says own (Intersection' op p x q y) e = absurd cc
  one_says own (Difference' op p x q y) e = absurd cc
  one_says own (Parens' p x) e = absurd cc
  one_says own (Set l) e = leaf_says own l (cc)

  none_leaf_says : (l : ParsedLeaf SourceSpan) → bare_leaf (leaf_of l) ≡ None → FilterLeafHolds cx member default t (filter_leaf l) ↔ On []
  none_leaf_says (code.Package m s) e = absurd cc
  none_leaf_says (code.Deps m s) e = absurd cc
  none_leaf_says (code.Rdeps m s) e = absurd cc
  none_leaf_says (code.Kind m s) e = absurd cc
  none_leaf_says (code.Binary m s) e = absurd cc
  none_leaf_says (code.BinaryId m s) e = absurd cc
  none_leaf_says (code.Platform x s) e = absurd cc
  none_leaf_says (code.Test m s) e = absurd cc
  none_leaf_says (code.Group m s) e = absurd cc
  none_leaf_says (code.Feature m s) e = absurd cc
  none_leaf_says (code.Default s) e = absurd cc
  none_leaf_says code.All e = absurd cc
  none_leaf_says code.None e = (λ h. absurd h, λ d. absurd (on_none cx t.binary.package_id d))

  none_says : Says (set_of None) (On [])
  none_says (Not' op p x) e = absurd cc
  none_says (Union' op p x q y) e = absurd cc
  none_says (Intersection' op p x q y) e = absurd cc
  none_says (Difference' op p x q y) e = absurd cc
  none_says (Parens' p x) e = absurd cc
  none_says (Set l) e = none_leaf_says l (cc)

  either_says : (a b : Tree (Unit {0})) (P Q : Type 0) → Says a P → Says b Q → Says (union_of Pipe a b) (P ⊎ Q)
  either_says a b P Q of_a of_b (Not' op p x) e = absurd cc
  either_says a b P Q of_a of_b (Union' op p x q y) e =
      let j = of_a x (cc) in
      let k = of_b y (cc) in
      (λ s. ⊎_elim (λ h. inl (j.0 h)) (λ h. inr (k.0 h)) s, λ s. ⊎_elim (λ h. inl (j.1 h)) (λ h. inr (k.1 h)) s)
  either_says a b P Q of_a of_b (Intersection' op p x q y) e = absurd cc
  either_says a b P Q of_a of_b (Difference' op p x q y) e = absurd cc
  either_says a b P Q of_a of_b (Parens' p x) e = absurd cc
  either_says a b P Q of_a of_b (Set l) e = absurd cc

  more_says : (names : List Text) (tree : Tree (Unit {0})) (P : Type 0) → Says tree P → Says (or_dependents tree names) (P ⊎ On names)
  more_says [] tree P says e is =
      let k = says e is in
      (λ h. inl (k.0 h), λ s. ⊎_elim k.1 (λ d. absurd (on_none cx t.binary.package_id d)) s)
  more_says (own ∷ names) tree P says e is =
      let first = either_says tree (dependents_of own) P (On (own ∷ [])) says (one_says own) in
      let k = more_says names (union_of Pipe tree (dependents_of own)) (P ⊎ On (own ∷ [])) first e is in
      let id = t.binary.package_id in (
        λ h. ⊎_elim (λ s. ⊎_elim (λ p. inl p) (λ d. inr (joined cx id own names (inl d))) s) (λ d. inr (joined cx id own names (inr d))) (k.0 h),
        λ s. k.1 (⊎_elim (λ p. inl (inl p)) (λ d. ⊎_elim (λ f. inl (inr f)) (λ r. inr r) (parted cx id own names d)) s),
      )

  pub all_says : (names : List Text) → Says (dependents_of_all names) (On names)
  all_says [] = none_says
  all_says (own ∷ names) = λ e is.
      let k = more_says names (dependents_of own) (On (own ∷ [])) (one_says own) e is in
      let id = t.binary.package_id in
      (λ h. joined cx id own names (k.0 h), λ d. k.1 (parted cx id own names d))

pub dependents_are_taken : DependentsAreTaken
dependents_are_taken names filter parsed made reads cx member default t =
    let (u, read, same) = changed_filters_read_back names filter made in
    let one = texts_read_as_one (tree_text (tree_of filter)) (tree_of parsed) u reads read in
    all_says cx (λ m. IsTrue (member m)) (IsTrue default) t names parsed (ap bare one ∙ same)
