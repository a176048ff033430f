-- Paths cut at their slashes.
use Rattle.std.proofs.Common.{◌≡◌, ℕ, ◌<◌, Bool, true, false, List, [], length, refl, ap, subst, filter, All}
use Rattle.std.specs.Cmp.Lexicographic.{slice_cmp}
use Rattle.std.specs.FinMap.{slice_cmp-IsAntisymmetric}
use Rattle.std.specs.List.{position_or_len, before_first, after_first}
use Rattle.std.proofs.lemmas.List.Sums.{fails_before_first}
use Rattle.std.proofs.lemmas.List.Splits.{slice_split_none, slice_split_first}
use Rattle.std.specs.Ordering.{bool_cmp, ordering_then}
use Rattle.std.specs.declared.cmp.Ordering.{Ordering}
use Rattle.std.specs.declared.cmp.Ordering.TheVariants.{Less, Equal, Greater}
use Rattle.std.proofs.lemmas.Cmp.{tied_itself}
use Rattle.list_facts.specs.Ascending.{text_cmp}
use Rattle.list_facts.proofs.Ascending.{text_exact}
use Rattle.workspace_record.specs.Records.{Text}
use Rattle.guppy_package_rules.specs.Paths.{is_slash, is_part, is_relative, parts, with_part, components, path_cmp, path_cmp_total}

none_passes : (p : ℕ → Bool) (xs : List ℕ) → position_or_len p xs ≡ length xs → All (λ x. p x ≡ false) xs
none_passes p xs e k d lt = fails_before_first p xs k d (rw e lt)

-- the path is its first part, a slash and the rest
pub parts-cut : (path : Text) → position_or_len is_slash path < length path → parts path ≡ with_part (before_first is_slash path) (parts (after_first is_slash path))
parts-cut path lt = ap (filter is_part) (slice_split_first is_slash path 0 lt)

-- a path with no slash is its one part
pub parts-whole : (path : Text) → position_or_len is_slash path ≡ length path → parts path ≡ with_part path []
parts-whole path e = ap (filter is_part) (slice_split_none is_slash path (none_passes is_slash path e))

same_flags : (a b : Bool) → bool_cmp a b ≡ Equal → a ≡ b
same_flags true true e = refl
same_flags true false e = absurd cc
same_flags false true e = absurd cc
same_flags false false e = refl

both_equal : (a b : Ordering) → ordering_then a b ≡ Equal → (a ≡ Equal) × (b ≡ Equal)
both_equal Less b e = absurd cc
both_equal Equal b e = (refl, e)
both_equal Greater b e = absurd cc

-- paths that the order does not tell apart have the same components
pub same_components : (a b : Text) → path_cmp a b ≡ Equal → components a ≡ components b
same_components a b e =
    let both = both_equal (bool_cmp (is_relative a) (is_relative b)) (slice_cmp text_cmp (parts a) (parts b)) e in
    let flags = same_flags (is_relative a) (is_relative b) both.0 in
    let texts = slice_cmp-IsAntisymmetric text_exact (parts a) (parts b) both.1 in
    cc

pub tied : (a b : Text) → components a ≡ components b → path_cmp a b ≡ Equal
tied a b e =
    subst (λ c. ordering_then (bool_cmp (is_relative a) c.0) (slice_cmp text_cmp (parts a) c.1) ≡ Equal) e (tied_itself path_cmp_total a)
