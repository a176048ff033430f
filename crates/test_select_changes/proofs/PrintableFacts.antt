-- A filter for what depends on packages reads back from what is printed of it.
use Rattle.std.proofs.Common.{◌≡◌, ◌≢◌, ◌∙◌, refl, sym, subst, ℕ, zero, suc, ◌<◌, List, [], ◌∷◌, length, All, arith}
use Rattle.std.proofs.lemmas.Bool.{false≢true}
use Rattle.std.proofs.lemmas.List.Elements.{All-head, All-tail}
use Rattle.workspace_record.specs.Records.{Text}
use Rattle.nextest_filter_tokens.specs.declared.operator_signs.OrOperator.TheVariants.{Pipe}
use Rattle.nextest_filter_syntax.specs.Leaves.{Leaf, Named, Platform, Default}
use Rattle.nextest_filter_syntax.specs.Leaves as leaves
use Rattle.nextest_filter_syntax.specs.Trees.{Tree, not_of, union_of, intersection_of, difference_of, parens_of, set_of, tree_of}
use Rattle.nextest_filter_laws.specs.Laws.{bare, bare_leaf}
use Rattle.nextest_filter_laws.specs.Printable.{IsPrintable, IsPrintableIn, IsPrintableLeaf, is_joined, is_union}
use Rattle.nextest_filter_laws.proofs.TreeBack.{printed_filters_read_back}
use Rattle.test_select_changes.specs.ChangedFilters.{dependents_of, dependents_of_all, or_dependents}
use Rattle.test_select_changes.specs.Laws.{ChangedFiltersReadBack}

-- whether a tree is printable does not depend on its spans
module _ {S : Type 0} where
  union_bare : (t : Tree S) → is_union (bare t) ≡ is_union t
  union_bare (not_of op x) = refl
  union_bare (union_of op x y) = refl
  union_bare (intersection_of op x y) = refl
  union_bare (difference_of x y) = refl
  union_bare (parens_of x) = refl
  union_bare (set_of l) = refl

  joined_bare : (t : Tree S) → is_joined (bare t) ≡ is_joined t
  joined_bare (not_of op x) = refl
  joined_bare (union_of op x y) = refl
  joined_bare (intersection_of op x y) = refl
  joined_bare (difference_of x y) = refl
  joined_bare (parens_of x) = refl
  joined_bare (set_of l) = refl

  leaf_from_bare : (l : Leaf S) → IsPrintableLeaf (bare_leaf l) → IsPrintableLeaf l
  leaf_from_bare (Named predicate matcher span) h = h
  leaf_from_bare (Platform platform span) h = h
  leaf_from_bare (Default span) h = h
  leaf_from_bare leaves.All h = h
  leaf_from_bare leaves.None h = h

  pub printable_from_bare : (room : ℕ) (t : Tree S) → IsPrintableIn room (bare t) → IsPrintableIn room t
  printable_from_bare zero (not_of op x) h = absurd h
  printable_from_bare (suc room) (not_of op x) h = (sym (joined_bare x) ∙ h.0, printable_from_bare room x h.1)
  printable_from_bare room (union_of op x y) h =
      (sym (union_bare y) ∙ h.0, printable_from_bare room x h.1, printable_from_bare room y h.2)
  printable_from_bare room (intersection_of op x y) h =
      (sym (union_bare x) ∙ h.0, sym (joined_bare y) ∙ h.1, printable_from_bare room x h.2, printable_from_bare room y h.3)
  printable_from_bare room (difference_of x y) h =
      (sym (union_bare x) ∙ h.0, sym (joined_bare y) ∙ h.1, printable_from_bare room x h.2, printable_from_bare room y h.3)
  printable_from_bare zero (parens_of x) h = absurd h
  printable_from_bare (suc room) (parens_of x) h = printable_from_bare room x h
  printable_from_bare room (set_of l) h = leaf_from_bare l h

some_bytes : (name : Text) → name ≢ [] → 0 < length name
some_bytes [] some = absurd (some refl)
some_bytes (c ∷ name) some = omega arith

module _ (room : ℕ) where
  dependents_printable : (name : Text) → name ≢ [] → IsPrintableIn room (dependents_of name)
  dependents_printable name some = record { some = some_bytes name some; default = λ e. absurd (false≢true e); plain = λ e. absurd (false≢true e) }

  or_dependents_printable : (names : List Text) (t : Tree (Unit {0})) → All (λ name. name ≢ []) names → IsPrintableIn room t → IsPrintableIn room (or_dependents t names)
  or_dependents_printable [] t named h = h
  or_dependents_printable (name ∷ names) t named h =
      let head = All-head (λ n. n ≢ []) name names named in
      let tail = All-tail (λ n. n ≢ []) name names named in
      or_dependents_printable names (union_of Pipe t (dependents_of name)) tail (refl, h, dependents_printable name head)

  all_printable : (names : List Text) → All (λ name. name ≢ []) names → IsPrintableIn room (dependents_of_all names)
  all_printable [] named = tt
  all_printable (name ∷ names) named =
      let head = All-head (λ n. n ≢ []) name names named in
      or_dependents_printable names (dependents_of name) (All-tail (λ n. n ≢ []) name names named) (dependents_printable name head)

pub changed_filters_read_back : ChangedFiltersReadBack
changed_filters_read_back names filter made =
    let printable : IsPrintable (bare (tree_of filter)) = subst IsPrintable (sym made.tree) (all_printable 256 names made.named) in
    let (t, reads, same) = printed_filters_read_back filter (printable_from_bare 256 (tree_of filter) printable) in
    (t, reads, same ∙ made.tree)
