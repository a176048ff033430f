-- The names of the folders around paths.
use Rattle.std.proofs.Common.{◌≡◌, ℕ, ◌+◌, ◌<◌, ◌≤◌, Bool, true, false, List, [], ◌∷◌, ◌++◌, length, map, take, get_or, Some, refl, sym, subst, ap, ◌∙◌, ◌↔◌, ◌⊎◌, inl, inr, ⊎_elim, IsTrue, Contains, arith, true≢false, ◌==◌}
use Rattle.std.specs.List.{list_any}
use Rattle.std.specs.List.Sorted.{IsStrictlySortedBy}
use Rattle.std.proofs.lemmas.Bool.Decides.{nat_tests}
use Rattle.std.proofs.lemmas.List.{take_more, take_all}
use Rattle.list_facts.specs.Ascending.{IsAscendingOf, text_cmp}
use Rattle.list_facts.proofs.Membership.{Contains-first, Contains-none, Contains-cons_cases, Contains-append_left, Contains-append_right, Contains-append_cases, Contains-map, Contains-map_cases}
use Rattle.list_facts.proofs.Quantifiers.{list_any-from_Contains, list_any_cases}
use Rattle.workspace_record.specs.Records.{Text}
use Rattle.guppy_package_rules.specs.Paths.{parts}
use Rattle.nextest_filter_matchers.specs.Globs.{Glob}
use Rattle.test_select_changes.specs.Changes.{IsLookedAt}
use Rattle.test_select_changes.specs.Folders.{IsInnermost, NamedFolder}
use Rattle.test_select_changes.specs.Listings.{AreNamesAround, IsForAll, IsFoundAround, IsNameAround}

abbrev pub name_of : NamedFolder → Text
name_of folder = folder.name

empty_is : (xs : List ℕ) → (length xs == 0) ≡ true → xs ≡ []
empty_is [] e = refl
empty_is (x ∷ xs) e = absurd (grind (arith, nat_tests, e))

-- a list is empty or has an empty name, of which one is known not to hold
pub stands_by : (folders : List NamedFolder) (r : Bool) → (length folders == 0) ≡ false → r ≡ list_any (λ folder. length folder.name == 0) folders → IsTrue r ↔ ((folders ≡ []) ⊎ Contains (map (λ folder. folder.name) folders) [])
stands_by folders r full is = (there, back)
  where
    there : IsTrue r → (folders ≡ []) ⊎ Contains (map (λ folder. folder.name) folders) []
    there h =
        let one = list_any_cases (λ (f : NamedFolder). length f.name == 0) folders (sym is ∙ h) in
        inr (subst (Contains (map name_of folders)) (empty_is one.0.name one.2) (Contains-map name_of folders one.0 one.1))

    back : ((folders ≡ []) ⊎ Contains (map (λ folder. folder.name) folders) []) → IsTrue r
    back h =
        ⊎_elim (λ none. absurd (true≢false (ap (λ (fs : List NamedFolder). length fs == 0) (sym none) ∙ full)))
        (λ inside. let one = Contains-map_cases name_of folders [] inside in is ∙ list_any-from_Contains (λ (f : NamedFolder). length f.name == 0) folders one.0 one.1 (ap (λ (t : Text). length t == 0) one.2)) h

none_in : {X : Type 0} (xs : List X) → ((x : X) → Contains xs x → ⊥) → xs ≡ []
none_in [] h = refl
none_in (x ∷ xs) h = absurd (h x (Contains-first x xs))

module _ (folders : List NamedFolder) (path : Text) (around : List NamedFolder) (found : (folder : NamedFolder) → Contains around folder ↔ IsInnermost folders (parts path) folder) where
  pub names_around : (name : Text) → Contains (map (λ folder. folder.name) around) name ↔ IsNameAround folders path name
  names_around name = (
    λ h. let one = Contains-map_cases name_of around name h in (one.0, (found one.0).0 one.1, one.2),
    λ h. subst (Contains (map name_of around)) h.2 (Contains-map name_of around h.0 ((found h.0).1 h.1)),
  )

  pub stands_around : ((around ≡ []) ⊎ Contains (map (λ folder. folder.name) around) []) ↔ IsForAll folders path
  stands_around = (
    λ h. ⊎_elim (λ none. inl (λ folder inner. Contains-none folder (subst (λ fs. Contains fs folder) none ((found folder).1 inner)))) (λ inside. inr ((names_around []).0 inside)) h,
    λ h. ⊎_elim (λ none. inl (none_in around (λ folder inside. none folder ((found folder).0 inside)))) (λ inside. inr ((names_around []).1 inside)) h,
  )

module _ (folders : List NamedFolder) (globs : List Glob) where
  -- one path more
  pub names_more : (paths : List Text) (i : ℕ) (d path : Text) (names added new : List Text) → i < length paths → get_or paths i d ≡ path → AreNamesAround folders globs (take i paths) names → IsFoundAround folders globs path (Some added) → new ≡ names ++ added → AreNamesAround folders globs (take (i + 1) paths) new
  names_more paths i d path names added new lt at was found is = record { none = none; members = λ name. (there name, back name) }
    where
      more : take (i + 1) paths ≡ take i paths ++ path ∷ []
      more = take_more paths i d lt ∙ ap (λ p. take i paths ++ p ∷ []) at

      one_of : (p : Text) → Contains (take (i + 1) paths) p → Contains (take i paths) p ⊎ (path ≡ p)
      one_of p h =
          ⊎_elim (λ before. inl before) (λ last. ⊎_elim (λ e. inr e) (λ none. absurd (Contains-none p none)) (Contains-cons_cases path [] p last)) (Contains-append_cases (take i paths) (path ∷ []) p (subst (λ ps. Contains ps p) more h))

      before : (p : Text) → Contains (take i paths) p → Contains (take (i + 1) paths) p
      before p h = subst (λ ps. Contains ps p) (sym more) (Contains-append_left (take i paths) (path ∷ []) p h)

      last : Contains (take (i + 1) paths) path
      last = subst (λ ps. Contains ps path) (sym more) (Contains-append_right (take i paths) (path ∷ []) path (Contains-first path []))

      none : (p : Text) → Contains (take (i + 1) paths) p → IsLookedAt globs p → IsForAll folders p → ⊥
      none p h looked stands =
          ⊎_elim (λ old. was.none p old looked stands) (λ e. found.0 (subst (IsLookedAt globs) (sym e) looked) (subst (IsForAll folders) (sym e) stands)) (one_of p h)

      there : (name : Text) → Contains new name → (p : Text) × Contains (take (i + 1) paths) p × IsLookedAt globs p × IsNameAround folders p name
      there name h =
          ⊎_elim (λ old. let w = (was.members name).0 old in (w.0, before w.0 w.1, w.2, w.3)) (λ late. let w = (found.1 name).0 late in (path, last, w.0, w.1)) (Contains-append_cases names added name (subst (λ ns. Contains ns name) is h))

      back : (name : Text) → ((p : Text) × Contains (take (i + 1) paths) p × IsLookedAt globs p × IsNameAround folders p name) → Contains new name
      back name (p, h, looked, around) =
          subst (λ ns. Contains ns name) (sym is)
          (⊎_elim (λ old. Contains-append_left names added name ((was.members name).1 (p, old, looked, around))) (λ e. Contains-append_right names added name ((found.1 name).1 (subst (IsLookedAt globs) (sym e) looked, subst (λ (q : Text). IsNameAround folders q name) (sym e) around))) (one_of p h))

  -- the same names in order
  pub names_sorted : (paths : List Text) (i : ℕ) (names sorted : List Text) → length paths ≤ i → AreNamesAround folders globs (take i paths) names → IsAscendingOf text_cmp names sorted → AreNamesAround folders globs paths sorted × IsStrictlySortedBy text_cmp sorted
  names_sorted paths i names sorted all was up =
      let whole = subst (λ ps. AreNamesAround folders globs ps names) (take_all i paths all) was in (
        record {
          none = whole.none;
          members = λ name. (λ h. (whole.members name).0 ((up.members name).0 h), λ h. (up.members name).1 ((whole.members name).1 h));
        },
        up.ascending,
      )
