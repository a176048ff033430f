-- Lists of parts that are lent from paths.
use Rattle.std.proofs.Common.{◌≡◌, ◌≢◌, ℕ, Bool, true, false, not, List, [], ◌∷◌, ◌++◌, length, take, drop, map, codes, Option, Some, None, refl, sym, subst, ap, ◌∙◌, ◌↔◌, IsTrue, All, Bor, true≢false, ◌==◌, ◌+◌, ◌<◌, ◌≤◌, get_or}
use Rattle.std.specs.List.{join_by, list_any, slice_split}
use Rattle.std.specs.Str.{bytes_eq}
use Rattle.std.specs.Cmp.Lexicographic.{pointwise, pointwise_decides, bytes_decides}
use Rattle.std.specs.Cmp.Derive.Mapped.{pointwise-map}
use Rattle.std.proofs.lemmas.List.{append_cancel_left, get_or-map, length-map, map-append, take-append-drop, take-map, take_all, take_at}
use Rattle.std.proofs.lemmas.List.Elements.{All-contains, All-more}
use Rattle.std.proofs.lemmas.List.Folds.{flat_map-map}
use Rattle.list_facts.proofs.Membership.{Contains-filter, Contains-filter_cases}
use Rattle.list_facts.proofs.Quantifiers.{All-from_Contains, list_any-from_Contains, list_any_cases}
use Rattle.workspace_record.specs.Records.{Text}
use Rattle.guppy_package_rules.specs.Paths.{is_part, is_relative, is_slash, parts}
use Rattle.test_select_changes.specs.Changes.{IsBelow, IsWithin}
use Rattle.test_select_changes.specs.PartViews.{lent_parts}

-- lent texts that are the same
abbrev pub same_text : Bor Text → Bor Text → Bool
same_text a b = bytes_eq a.now b.now

same_parts : (xs ys : List (Bor Text)) → pointwise same_text xs ys ≡ true → lent_parts xs ≡ lent_parts ys
same_parts xs ys e = (pointwise_decides bytes_decides (lent_parts xs) (lent_parts ys)).0 (pointwise-map (λ (x : Bor Text). x.now) bytes_eq xs ys ∙ e)

other_parts : (xs ys : List (Bor Text)) → pointwise same_text xs ys ≡ false → lent_parts xs ≢ lent_parts ys
other_parts xs ys e same =
    true≢false (sym ((pointwise_decides bytes_decides (lent_parts xs) (lent_parts ys)).1 same) ∙ pointwise-map (λ (x : Bor Text). x.now) bytes_eq xs ys ∙ e)

-- a list that begins with another is that one and the rest
whole : (xs ps : List (Bor Text)) → pointwise same_text (take (length ps) xs) ps ≡ true → lent_parts xs ≡ lent_parts ps ++ lent_parts (drop (length ps) xs)
whole xs ps e =
    ap lent_parts (sym (take-append-drop (length ps) xs)) ∙ map-append (λ (x : Bor Text). x.now) (take (length ps) xs) (drop (length ps) xs) ∙ ap (λ front. front ++ lent_parts (drop (length ps) xs)) (same_parts (take (length ps) xs) ps e)

begins : (xs ps : List (Bor Text)) (more : List Text) → lent_parts xs ≡ lent_parts ps ++ more → lent_parts (take (length ps) xs) ≡ lent_parts ps
begins xs ps more e =
    sym (take-map (λ (x : Bor Text). x.now) (length ps) xs) ∙ ap (take (length ps)) e ∙ take_at (lent_parts ps) more (length ps) (length-map ps (λ (x : Bor Text). x.now))

value_or : {A : Type 0} → A → Option A → A
value_or d (Some x) = x
value_or d None = d

pub some_same : {A : Type 0} (a b : A) → Some a ≡ Some b → a ≡ b
unfolding value_or
some_same a b e = ap (value_or a) e

module _ (root path : Text) (ps xs : List (Bor Text)) (outer : lent_parts ps ≡ parts root) (inner : lent_parts xs ≡ parts path) where
  -- what is left is what the path has below the root
  pub is_below : (rest : List (Bor Text)) → is_relative root ≡ false → is_relative path ≡ false → pointwise same_text (take (length ps) xs) ps ≡ true → rest ≡ drop (length ps) xs → (more : List Text) → IsBelow root path more ↔ (Some (lent_parts rest) ≡ Some more)
  is_below rest out in' same is more =
      let cut : parts path ≡ parts root ++ lent_parts rest = sym inner ∙ whole xs ps same ∙ ap (λ front. front ++ lent_parts (drop (length ps) xs)) outer ∙ ap (λ tail. parts root ++ lent_parts tail) (sym is) in (
        λ h. ap Some (append_cancel_left (parts root) (lent_parts rest) more (sym cut ∙ h.2)),
        λ e. (out, in', cut ∙ ap (λ tail. parts root ++ tail) (some_same (lent_parts rest) more e)),
      )

  pub none_below : pointwise same_text (take (length ps) xs) ps ≡ false → (more : List Text) → IsBelow root path more → ⊥
  none_below differ more h =
      other_parts (take (length ps) xs) ps differ (begins xs ps more (inner ∙ h.2 ∙ ap (λ front. front ++ more) (sym outer)))

-- whether a part steps up
abbrev pub steps_up : Text → Bool
steps_up part = bytes_eq part (codes "..")

pub untrue : (b : Bool) → (b ≡ true → ⊥) → IsTrue (not b)
untrue true h = absurd (h refl)
untrue false h = refl

pub not_both : (b : Bool) → IsTrue (not b) → b ≡ true → ⊥
not_both true h e = true≢false (sym h)
not_both false h e = true≢false (sym e)

-- no piece of the path steps up exactly where no part does
pub within_by : (path : Text) (r : Bool) → is_relative path ≡ true → r ≡ list_any steps_up (slice_split is_slash path) → IsTrue (not r) ↔ IsWithin path
within_by path r rel is = (λ h. (rel, none_steps h), λ h. untrue r (λ e. no_piece h (sym is ∙ e)))
  where
    none_steps : IsTrue (not r) → All (λ part. part ≢ codes "..") (parts path)
    none_steps h = All-from_Contains (λ part. part ≢ codes "..") (parts path) (λ part inside e. not_both r h (is ∙ list_any-from_Contains steps_up (slice_split is_slash path) part (Contains-filter_cases is_part (slice_split is_slash path) part inside).0 ((bytes_decides part (codes "..")).1 e)))

    no_piece : IsWithin path → list_any steps_up (slice_split is_slash path) ≡ true → ⊥
    no_piece h e =
        let found = list_any_cases steps_up (slice_split is_slash path) e in
        let up : found.0 ≡ codes ".." = (bytes_decides found.0 (codes "..")).0 found.2 in
        All-contains (λ part. part ≢ codes "..") (parts path) found.0 h.1 (Contains-filter is_part (slice_split is_slash path) found.0 found.1 (ap is_part up)) up

-- the parts with a text between them, of lent ones
pub joined_lent : (between : Text) (xs : List (Bor Text)) → join_by (λ (x : Bor Text). x.now) between xs ≡ join_by (λ (x : Text). x) between (lent_parts xs)
joined_lent between [] = refl
joined_lent between (x ∷ xs) = ap (λ rest. x.now ++ rest) (sym (flat_map-map (λ (t : Text). between ++ t) (λ (y : Bor Text). y.now) xs))

-- a list that is not empty lends a part
pub some_parts : (xs : List (Bor Text)) → (length xs == 0) ≡ false → lent_parts xs ≢ []
some_parts [] full e = true≢false full
some_parts (x ∷ xs) full e = absurd cc

-- one path more that is within
pub within_more : (paths : List (Bor Text)) (i : ℕ) (d : Bor Text) → i < length paths → All IsWithin (take i (map (λ (path : Bor Text). path.now) paths)) → IsWithin (get_or paths i d).now → All IsWithin (take (i + 1) (map (λ (path : Bor Text). path.now) paths))
within_more paths i d lt was here =
    let read : Bor Text → Text = λ (path : Bor Text). path.now in
    All-more IsWithin (map read paths) i d.now (subst (λ n. i < n) (sym (length-map paths read)) lt) was (subst IsWithin (sym (get_or-map read paths i d d.now lt)) here)

pub within_all : (paths : List (Bor Text)) (i : ℕ) → length paths ≤ i → All IsWithin (take i (map (λ (path : Bor Text). path.now) paths)) → All IsWithin (map (λ (path : Bor Text). path.now) paths)
within_all paths i all was =
    let read : Bor Text → Text = λ (path : Bor Text). path.now in
    subst (All IsWithin) (take_all i (map read paths) (subst (λ n. n ≤ i) (sym (length-map paths read)) all)) was
