-- The part of a list in order that has one key.
use Rattle.std.proofs.Common.{◌≡◌, ℕ, ◌+◌, ◌-◌, ◌<◌, ◌≤◌, true, false, List, [], ◌∷◌, length, get_or, take, drop, refl, sym, ap, ◌∙◌, ◌↔◌, ⊎_elim, Contains, Ordering, Less, Equal, Greater, arith, true≢false}
use Rattle.std.specs.Cmp.{IsTotalOrder}
use Rattle.std.specs.FinMap.{slice_cmp-IsAntisymmetric}
use Rattle.std.specs.Ordering.{is_le, is_lt, ordering_index}
use Rattle.std.specs.List.Sorted.{IsNonDecreasingBy, IsPartitionedBy, IsPartitionPoint}
use Rattle.std.proofs.lemmas.Bool.{cases_lt}
use Rattle.std.proofs.lemmas.Cmp.{lists_total, tied_itself}
use Rattle.std.proofs.lemmas.List.{get_or-take, get_or-drop, length-take, length-drop}
use Rattle.std.proofs.lemmas.List.Sorted.{searchable_from_sorted}
use Rattle.list_facts.proofs.Ascending.{text_exact, text_total}
use Rattle.workspace_record.specs.Records.{Text}
use Rattle.test_select_changes.specs.Folders.{AreInOrder, NamedFolder}
use Rattle.test_select_changes.specs.PartViews.{parts_cmp}

pub parts_total : IsTotalOrder parts_cmp
parts_total = lists_total text_total

parts_exact : (a b : List Text) → parts_cmp a b ≡ Equal → a ≡ b
parts_exact = slice_cmp-IsAntisymmetric text_exact

lower_lt : (o p : Ordering) → ordering_index o ≤ ordering_index p → is_lt p ≡ true → is_lt o ≡ true
lower_lt Less p le e = refl
lower_lt Equal Less le e = absurd (omega (arith, le))
lower_lt Equal Equal le e = absurd (true≢false (sym e))
lower_lt Equal Greater le e = absurd (true≢false (sym e))
lower_lt Greater Less le e = absurd (omega (arith, le))
lower_lt Greater Equal le e = absurd (true≢false (sym e))
lower_lt Greater Greater le e = absurd (true≢false (sym e))

lower_le : (o p : Ordering) → ordering_index o ≤ ordering_index p → is_le p ≡ true → is_le o ≡ true
lower_le Less p le e = refl
lower_le Equal p le e = refl
lower_le Greater Less le e = absurd (omega (arith, le))
lower_le Greater Equal le e = absurd (omega (arith, le))
lower_le Greater Greater le e = absurd (true≢false (sym e))

-- what is not below, and not above, is equal
equal_between : (o : Ordering) → is_lt o ≡ false → is_le o ≡ true → o ≡ Equal
equal_between Less lt le = absurd (true≢false lt)
equal_between Equal lt le = refl
equal_between Greater lt le = absurd (true≢false (sym le))

below_or_upto : (o : Ordering) → is_lt o ≡ true → is_le o ≡ false → ⊥
below_or_upto Less lt le = true≢false le
below_or_upto Equal lt le = true≢false (sym lt)
below_or_upto Greater lt le = true≢false (sym lt)

first_of : {X : Type 0} (xs : List X) (i : ℕ) → i < length xs → X
first_of [] i lt = absurd (omega (arith, lt))
first_of (x ∷ xs) i lt = x

module _ (folders : List NamedFolder) (order : AreInOrder folders) (key : List Text) where
  abbrev to_key : NamedFolder → Ordering
  to_key folder = parts_cmp folder.parts key

  risen : IsNonDecreasingBy (λ folder. ordering_index (to_key folder)) folders
  risen = searchable_from_sorted parts_total (λ (f : NamedFolder). f.parts) folders key order

  pub below_first : IsPartitionedBy (λ folder. is_lt (parts_cmp folder.parts key)) folders
  below_first i j d le lt e = lower_lt (to_key (get_or folders i d)) (to_key (get_or folders j d)) (risen i j d le lt) e

  pub upto_first : IsPartitionedBy (λ folder. is_le (parts_cmp folder.parts key)) folders
  upto_first i j d le lt e = lower_le (to_key (get_or folders i d)) (to_key (get_or folders j d)) (risen i j d le lt) e

  module _ (first end : ℕ) (first_within : first ≤ length folders) (end_within : end ≤ length folders) (below : IsPartitionPoint (λ folder. is_lt (parts_cmp folder.parts key) ≡ true) (λ folder. is_lt (parts_cmp folder.parts key) ≡ false) folders first) (upto : IsPartitionPoint (λ folder. is_le (parts_cmp folder.parts key) ≡ true) (λ folder. is_le (parts_cmp folder.parts key) ≡ false) folders end) where
    pub in_order : first ≤ end
    in_order = ⊎_elim (λ lt. absurd (crossed lt)) (λ le. le) (cases_lt end first)
      where
        crossed : end < first → ⊥
        crossed lt =
            let d = first_of folders end (omega arith) in
            below_or_upto (to_key (get_or folders end d)) (below.0 end d (omega arith) lt) (upto.1 end d (omega arith) (omega arith))

    abbrev range : List NamedFolder
    range = take (end - first) (drop first folders)

    at_range : (k : ℕ) (d : NamedFolder) → k < end - first → get_or range k d ≡ get_or folders (first + k) d
    at_range k d lt = get_or-take (end - first) (drop first folders) k d lt ∙ get_or-drop first folders k d

    sized : length range ≡ end - first
    sized = let cut = length-take (end - first) (drop first folders) in let left = length-drop first folders in omega (arith, cut, left)

    there : (folder : NamedFolder) → Contains range folder → Contains folders folder × (folder.parts ≡ key)
    there folder (k, lt, is) =
        let small : k < end - first = omega (arith, lt, sized) in
        let at : get_or folders (first + k) folder ≡ folder = sym (at_range k folder small) ∙ is in
        let above = ap (λ (f : NamedFolder). is_lt (to_key f)) (sym at) ∙ below.1 (first + k) folder (omega arith) (omega arith) in
        let under = ap (λ (f : NamedFolder). is_le (to_key f)) (sym at) ∙ upto.0 (first + k) folder (omega arith) (omega arith) in
        ((first + k, omega arith, at), parts_exact folder.parts key (equal_between (to_key folder) above under))

    back : (folder : NamedFolder) → Contains folders folder × (folder.parts ≡ key) → Contains range folder
    back folder ((k, lt, is), same) =
        let tied : parts_cmp folder.parts key ≡ Equal = ap (λ ps. parts_cmp ps key) same ∙ tied_itself parts_total key in
        let here : to_key (get_or folders k folder) ≡ Equal = ap to_key is ∙ tied in
        let from : first ≤ k = ⊎_elim (λ small. absurd (true≢false (sym (below.0 k folder (omega arith) small) ∙ ap is_lt here))) (λ le. le) (cases_lt k first) in
        let to : k < end = ⊎_elim (λ small. small) (λ le. absurd (true≢false (sym (ap is_le here) ∙ upto.1 k folder le lt))) (cases_lt k end) in
        let inside : k - first < end - first = omega (arith, from, to) in
        let place : first + (k - first) ≡ k = omega (arith, from) in
        (k - first, omega (arith, inside, sized), at_range (k - first) folder inside ∙ ap (λ j. get_or folders j folder) place ∙ is)

    -- the range has the folders with these parts
    pub range_members : (folder : NamedFolder) → Contains (take (end - first) (drop first folders)) folder ↔ (Contains folders folder × (folder.parts ≡ key))
    range_members folder = (there folder, back folder)
