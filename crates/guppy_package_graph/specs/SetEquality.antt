-- Sets of packages, of one graph or of two, are told apart by the ids that they have.
use Rattle.std.specs.Prelude.{◌≡◌, ℕ, ◌<◌, Bool, true, false, ◌&&◌, List, [], ◌∷◌, Option, Some, None, length, position}
use Rattle.std.specs.Bool.{Decides}
use Rattle.std.specs.Cmp.{IsEquivalence, booleans_Decides, both_ways, first_so, second_so}
use Rattle.std.specs.List.{list_all}
use Rattle.std.specs.Str.{bytes_eq}
use Rattle.std.proofs.Common.{refl, sym, ◌∙◌, ap, get_or}
use Rattle.std.proofs.Math.Bool.{beq}
use Rattle.std.proofs.lemmas.Bool.{false≢true}
use Rattle.std.proofs.lemmas.List.Folds.{list_all_at}
use Rattle.std.proofs.lemmas.List.Quantifiers.{position-Some}
use Rattle.std.proofs.lemmas.Slice.Eq.{bytes_eq-Decides}
use Rattle.numbered_graph.specs.Sets.{has}
use Rattle.workspace_record.specs.Records.{Text}
use Rattle.guppy_package_table.specs.Tables.{ids_of}
use Rattle.guppy_package_graph.specs.SetValues.{SetValue}

-- whether there is a place, and its package is in the set
abbrev pub is_in : List Bool → Option ℕ → Bool
is_in included None = false
is_in included (Some place) = has included place

-- whether the package with an id is in the set (from guppy's `PackageSet`, told by ids in place of places)
abbrev pub has_id : SetValue → Text → Bool
has_id s id = is_in s.included (position (bytes_eq id) (ids_of s.graph.packages))

-- whether an id is in both sets or in neither
abbrev pub agree_on : SetValue → SetValue → Text → Bool
agree_on s t id = beq (has_id s id) (has_id t id)

-- whether each id of the one graph and of the other is (from guppy's `PackageSet`, told by ids in place of places)
abbrev pub have_same_ids : SetValue → SetValue → Bool
have_same_ids s t = list_all (agree_on s t) (ids_of s.graph.packages) && list_all (agree_on s t) (ids_of t.graph.packages)

-- each id whatever is in both sets or in neither (from guppy's `PackageSet`, told by ids in place of places)
abbrev pub HaveSameIds : SetValue → SetValue → Type 0
HaveSameIds s t = (id : Text) → has_id s id ≡ has_id t id

-- sets are equal exactly where they have the same ids
abbrev pub SetsAreToldByIds : Type 0
SetsAreToldByIds = (s t : SetValue) → Decides (have_same_ids s t) (HaveSameIds s t)

passes : (p : Text → Bool) (xs : List Text) (i : ℕ) (b : Bool) → i < length xs → list_all p xs ≡ true → p (get_or xs i []) ≡ b → b ≡ true
passes p xs i true within all at = refl
passes p xs i false within all at = absurd (false≢true (sym (list_all_at p xs i [] within at) ∙ all))

-- what passes at each element passes at the one that is found
passes_at : (p : Text → Bool) (xs : List Text) (id : Text) (i : ℕ) → list_all p xs ≡ true → position (bytes_eq id) xs ≡ Some i → p id ≡ true
passes_at p xs id i all found =
    let at = position-Some (bytes_eq id) xs i [] found in
    ap p ((bytes_eq-Decides id (get_or xs i [])).0 at.1) ∙ passes p xs i (p (get_or xs i [])) at.0 all refl

both : (s t : Bool) → s ≡ true → t ≡ true → (s && t) ≡ true
both true t p q = q
both false t p q = p

passes_each : (p : Text → Bool) (xs : List Text) → ((x : Text) → p x ≡ true) → list_all p xs ≡ true
passes_each p [] each = refl
passes_each p (x ∷ xs) each = both (p x) (list_all p xs) (each x) (passes_each p xs each)

module _ (s t : SetValue) (here : list_all (agree_on s t) (ids_of s.graph.packages) ≡ true) (there : list_all (agree_on s t) (ids_of t.graph.packages) ≡ true) (id : Text) where
  alike : (o p : Option ℕ) → position (bytes_eq id) (ids_of s.graph.packages) ≡ o → position (bytes_eq id) (ids_of t.graph.packages) ≡ p → has_id s id ≡ has_id t id
  alike (Some i) p e f = (booleans_Decides _ _).0 (passes_at (agree_on s t) (ids_of s.graph.packages) id i here e)
  alike None (Some j) e f = (booleans_Decides _ _).0 (passes_at (agree_on s t) (ids_of t.graph.packages) id j there f)
  alike None None e f = ap (is_in s.included) e ∙ sym (ap (is_in t.included) f)

pub same_ids_decide : (s t : SetValue) → Decides (have_same_ids s t) (HaveSameIds s t)
same_ids_decide s t =
    let here : Bool = list_all (agree_on s t) (ids_of s.graph.packages) in
    let there : Bool = list_all (agree_on s t) (ids_of t.graph.packages) in (
      λ h id. alike s t (first_so here there h) (second_so here there h) id _ _ refl refl,
      λ same. both here there (passes_each _ _ (λ id. (booleans_Decides _ _).1 (same id))) (passes_each _ _ (λ id. (booleans_Decides _ _).1 (same id))),
    )

pub sets_equivalence : IsEquivalence have_same_ids
sets_equivalence = record {
  refl = λ s. (same_ids_decide s s).1 (λ id. refl);
  symm = λ s t. both_ways _ _ (λ h. (same_ids_decide t s).1 (λ id. sym ((same_ids_decide s t).0 h id))) (λ h. (same_ids_decide s t).1 (λ id. sym ((same_ids_decide t s).0 h id)));
  congr = λ s t u e. both_ways _ _
      (λ h. (same_ids_decide t u).1 (λ id. sym ((same_ids_decide s t).0 e id) ∙ (same_ids_decide s u).0 h id))
      (λ h. (same_ids_decide s u).1 (λ id. (same_ids_decide s t).0 e id ∙ (same_ids_decide t u).0 h id));
}
