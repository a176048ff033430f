-- When filters are accepted.
use Rattle.std.proofs.Common.{◌≡◌, ◌∙◌, ◌↔◌, ◌<◌, ◌==◌, inl, inr, ⊎_elim, refl, sym, ap, subst, arith, true≢false, ℕ, Bool, true, false, not, ◌||◌, IsTrue, if◌then◌else◌, List, [], ◌∷◌, ◌++◌, length, map, Contains}
use Rattle.std.proofs.lemmas.Bool.Decides.{nat_tests}
use Rattle.list_facts.proofs.Membership.{Contains-none, Contains-first, Contains-map, Contains-map_cases}
use Rattle.workspace_record.specs.Records.{Text}
use Rattle.guppy_package_parts.specs.declared.dependency_direction.DependencyDirection.{DependencyDirection}
use Rattle.nextest_filter_tokens.specs.declared.filterset_kind.FiltersetKind.{FiltersetKind}
use Rattle.nextest_filter_tokens.specs.declared.filterset_kind.FiltersetKind.TheVariants as kind
use Rattle.nextest_filter_tokens.specs.declared.parse_error.ParseSingleError.{ParseSingleError}
use Rattle.nextest_filter_tokens.specs.declared.heads.Predicate.TheVariants as names
use Rattle.nextest_filter_evaluation.specs.NameTests.{NameTest, Suits, SuitsOneOf}
use Rattle.nextest_filter_evaluation.specs.declared.groups.KnownGroups.{KnownGroups}
use Rattle.nextest_filter_evaluation.specs.Formulas.{Formula, negation, either, both, leaf, has_leaf}
use Rattle.nextest_filter_evaluation.specs.Compiled as compiled
use Rattle.nextest_filtering.specs.Contexts.{ContextValue}
use Rattle.nextest_filtering.specs.Filters.{FilterLeaf, Named, Platform, Default, All}
use Rattle.nextest_filtering.specs.Filters as filter
use Rattle.nextest_filtering.specs.Meaning.{IsMatched, IsReachedOf}
use Rattle.nextest_filtering.specs.Acceptance.{AreUnmatched, IsAccepted, MatchesSome, ban_of, bans, names_group, no_match}
use Rattle.nextest_filtering.specs.Compiling.{ArePackages}
use Rattle.nextest_filtering.specs.ContextViews.{AddsUnless}

not_none : {X : Type 0} {A : Type 0} (x : X) (xs : List X) → x ∷ xs ≡ [] → A
not_none x xs e = let n : length (x ∷ xs) ≡ 0 = ap length e in absurd (omega (arith, n))

left_none : {X : Type 0} (xs ys : List X) → xs ++ ys ≡ [] → xs ≡ []
left_none [] ys e = refl
left_none (x ∷ xs) ys e = not_none x (xs ++ ys) e

right_none : {X : Type 0} (xs ys : List X) → xs ++ ys ≡ [] → ys ≡ []
right_none [] ys e = e
right_none (x ∷ xs) ys e = not_none x (xs ++ ys) e

both_none : {X : Type 0} (xs ys : List X) → xs ≡ [] → ys ≡ [] → xs ++ ys ≡ []
both_none xs ys e f = ap (λ zs. zs ++ ys) e ∙ f

leaf_group : (k : FiltersetKind) (l : FilterLeaf) → names_group l ≡ true → ban_of k l ≡ [] → k ≡ kind.Test
leaf_group k (Named names.Package test span) g e = absurd (true≢false (sym g))
leaf_group k (Named names.Deps test span) g e = absurd (true≢false (sym g))
leaf_group k (Named names.Rdeps test span) g e = absurd (true≢false (sym g))
leaf_group k (Named names.Kind test span) g e = absurd (true≢false (sym g))
leaf_group k (Named names.Binary test span) g e = absurd (true≢false (sym g))
leaf_group k (Named names.BinaryId test span) g e = absurd (true≢false (sym g))
leaf_group k (Named names.Test test span) g e = absurd (true≢false (sym g))
leaf_group k (Named names.Feature test span) g e = absurd (true≢false (sym g))
leaf_group kind.Test (Named names.Group test span) g e = refl
leaf_group kind.TestArchive (Named names.Group test span) g e = not_none _ [] e
leaf_group kind.OverrideFilter (Named names.Group test span) g e = not_none _ [] e
leaf_group kind.DefaultFilter (Named names.Group test span) g e = not_none _ [] e
leaf_group k (Platform platform span) g e = absurd (true≢false (sym g))
leaf_group k (Default span) g e = absurd (true≢false (sym g))
leaf_group k All g e = absurd (true≢false (sym g))
leaf_group k filter.None g e = absurd (true≢false (sym g))

or_cases : {A : Type 0} (a b : Bool) → (a ≡ true → A) → (b ≡ true → A) → (a || b) ≡ true → A
or_cases true b f g e = f refl
or_cases false b f g e = g e

-- where a group is named and nothing is banned, the filter is one of tests
pub group_in_tests : (k : FiltersetKind) (f : Formula FilterLeaf) → bans k f ≡ [] → has_leaf names_group f ≡ true → k ≡ kind.Test
group_in_tests k (negation a) e g = group_in_tests k a e g
group_in_tests k (either a b) e g = or_cases _ _ (group_in_tests k a (left_none _ _ e)) (group_in_tests k b (right_none _ _ e)) g
group_in_tests k (both a b) e g = or_cases _ _ (group_in_tests k a (left_none _ _ e)) (group_in_tests k b (right_none _ _ e)) g
group_in_tests k (leaf l) e g = leaf_group k l g e

module _ (cx : ContextValue) (groups : KnownGroups) where
  leaf_matches : (l : FilterLeaf) → [] ≡ no_match l → MatchesSome cx groups l
  leaf_matches (Named names.Package test span) e = not_none _ [] (sym e)
  leaf_matches (Named names.Deps test span) e = not_none _ [] (sym e)
  leaf_matches (Named names.Rdeps test span) e = not_none _ [] (sym e)
  leaf_matches (Named names.Kind test span) e = tt
  leaf_matches (Named names.Binary test span) e = not_none _ [] (sym e)
  leaf_matches (Named names.BinaryId test span) e = not_none _ [] (sym e)
  leaf_matches (Named names.Test test span) e = tt
  leaf_matches (Named names.Group test span) e = not_none _ [] (sym e)
  leaf_matches (Named names.Feature test span) e = not_none _ [] (sym e)
  leaf_matches (Platform platform span) e = tt
  leaf_matches (Default span) e = tt
  leaf_matches All e = tt
  leaf_matches filter.None e = tt

  -- with no ban, and no leaf that matches nothing, the filter is accepted
  pub accepted : (k : FiltersetKind) (f : Formula FilterLeaf) (faults : List ParseSingleError) → bans k f ≡ [] → AreUnmatched cx groups f faults → faults ≡ [] → IsAccepted cx groups k f
  accepted k (negation a) faults e u n = accepted k a faults e u n
  accepted k (either a b) faults e (xs, ys, u, v, w) n = (accepted k a xs (left_none _ _ e) u (left_none xs ys (sym w ∙ n)), accepted k b ys (right_none _ _ e) v (right_none xs ys (sym w ∙ n)))
  accepted k (both a b) faults e (xs, ys, u, v, w) n = (accepted k a xs (left_none _ _ e) u (left_none xs ys (sym w ∙ n)), accepted k b ys (right_none _ _ e) v (right_none xs ys (sym w ∙ n)))
  accepted k (leaf l) faults e u n = (e, ⊎_elim (λ m. m.0) (λ m. leaf_matches l (sym n ∙ m.1)) u)

  no_bans : (k : FiltersetKind) (f : Formula FilterLeaf) → IsAccepted cx groups k f → bans k f ≡ []
  no_bans k (negation a) h = no_bans k a h
  no_bans k (either a b) h = both_none _ _ (no_bans k a h.0) (no_bans k b h.1)
  no_bans k (both a b) h = both_none _ _ (no_bans k a h.0) (no_bans k b h.1)
  no_bans k (leaf l) h = h.0

  all_match : (k : FiltersetKind) (f : Formula FilterLeaf) (faults : List ParseSingleError) → IsAccepted cx groups k f → AreUnmatched cx groups f faults → faults ≡ []
  all_match k (negation a) faults h u = all_match k a faults h u
  all_match k (either a b) faults h (xs, ys, u, v, w) = w ∙ both_none xs ys (all_match k a xs h.0 u) (all_match k b ys h.1 v)
  all_match k (both a b) faults h (xs, ys, u, v, w) = w ∙ both_none xs ys (all_match k a xs h.0 u) (all_match k b ys h.1 v)
  all_match k (leaf l) faults h u = ⊎_elim (λ m. m.1) (λ m. absurd (m.0 h.1)) u

  -- faults of either sort refuse the filter
  pub banned : (k : FiltersetKind) (f : Formula FilterLeaf) (faults : List ParseSingleError) → faults ≡ bans k f → 0 < length faults → IsAccepted cx groups k f → ⊥
  banned k f faults e some h = let n : length faults ≡ 0 = ap length (e ∙ no_bans k f h) in absurd (omega (arith, n, some))

  pub unmatched : (k : FiltersetKind) (f : Formula FilterLeaf) (faults : List ParseSingleError) → AreUnmatched cx groups f faults → 0 < length faults → IsAccepted cx groups k f → ⊥
  unmatched k f faults u some h = let n : length faults ≡ 0 = ap length (all_match k f faults h u) in absurd (omega (arith, n, some))

-- a fault is added unless something was found
pub expected : (P : Type 0) (b : Bool) (fault : ParseSingleError) (old new : List ParseSingleError) → (IsTrue b ↔ P) → new ≡ old ++ (if b then [] else fault ∷ []) → AddsUnless P (fault ∷ []) old new
expected P true fault old new says e = ([], inl (says.0 refl, refl), e)
expected P false fault old new says e = (fault ∷ [], inr (λ p. true≢false (sym (says.1 p)), refl), e)

is_zero : (n : ℕ) (b : Bool) → b ≡ (n == 0) → n ≡ 0 → b ≡ true
is_zero n b e z = grind (arith, nat_tests)

is_positive : (n : ℕ) (b : Bool) → b ≡ (n == 0) → 0 < n → b ≡ false
is_positive n b e lt = grind (arith, nat_tests)

-- a name suits exactly if some package is matched
pub some_matched : {X : Type 0} (cx : ContextValue) (t : NameTest) (f : X → Text) (xs : List X) (n : ℕ) (empty : Bool) → n ≡ length xs → ((id : Text) → Contains (map f xs) id ↔ IsMatched cx t id) → empty ≡ (n == 0) → IsTrue (not empty) ↔ SuitsOneOf t (map (λ (p : Text × Text). p.1) cx.packages)
some_matched cx t f [] n empty size each e = (
  λ h. absurd (true≢false (sym h ∙ ap not (is_zero n empty e size))),
  λ s. let p = Contains-map_cases (λ (q : Text × Text). q.1) cx.packages s.name s.listed in
      absurd (Contains-none p.0.0 ((each p.0.0).1 (record { found = p.0; listed = p.1; suits = subst (λ m. Suits t m) (sym p.2) s.suits; is_its = refl }))),
)
some_matched cx t f (x ∷ xs) n empty size each e = (
  λ h. let m = (each (f x)).0 (Contains-first (f x) (map f xs)) in record { name = m.found.1; listed = Contains-map (λ (q : Text × Text). q.1) cx.packages m.found m.listed; suits = m.suits },
  λ s. ap not (is_positive n empty e (omega (arith, size))),
)

pub packages_as : {X : Type 0} (f : X → Text) (passes : Text → Type 0) (keys : List Text) (lent items : List X) → lent ≡ items → ((id : Text) → Contains keys id ↔ Contains (map f lent) id) → ((id : Text) → Contains (map f items) id ↔ passes id) → ArePackages passes (compiled.Packages keys)
packages_as f passes keys lent items e set each = record {
  ids = keys;
  is_leaf = refl;
  members = λ id. (λ h. (each id).0 (subst (λ xs. Contains (map f xs) id) e ((set id).0 h)), λ p. (set id).1 (subst (λ xs. Contains (map f xs) id) (sym e) ((each id).1 p)));
}

-- what is reached depends on the starts alone
pub reached_alike : {X : Type 0} (f : X → Text) (cx : ContextValue) (direction : DependencyDirection) (passes : Text → Type 0) (lent items : List X) → lent ≡ items → ((id : Text) → Contains (map f items) id ↔ passes id) → (ids : List Text) → ((id : Text) → Contains ids id ↔ IsReachedOf cx (Contains (map f lent)) direction id) → (id : Text) → Contains ids id ↔ IsReachedOf cx passes direction id
reached_alike f cx direction passes lent items e each ids reached id = (
  λ h. let r = (reached id).0 h in record { found = r.found; listed = r.listed; is_its = r.is_its; start = r.start; starts_there = (each r.start).0 (subst (λ xs. Contains (map f xs) r.start) e r.starts_there); leads = r.leads },
  λ r. (reached id).1 (record { found = r.found; listed = r.listed; is_its = r.is_its; start = r.start; starts_there = subst (λ xs. Contains (map f xs) r.start) (sym e) ((each r.start).1 r.starts_there); leads = r.leads }),
)
