-- Places of packages that are still to come.
use Rattle.std.proofs.Common.{◌≡◌, ◌↔◌, ◌⊎◌, ⊎_elim, inl, ℕ, zero, suc, ◌-◌, ◌<◌, true≢false, ◌&&◌, Bool, true, List, [], ◌∷◌, ◌++◌, Option, Some, None, Result, Ok, Err, IfOk, MatchOption, All, Any, Contains, subst, sym, ap, refl, ◌∙◌, inr, map, filter, length, get_or, drop, nat_lt, arith, is_some, option_map, slice_get}
use Rattle.std.proofs.lemmas.Bool.{and_from, and_parts, lt-ltb, ltb-true}
use Rattle.std.proofs.lemmas.List.{get_or-map, get_or-reverse, length-map, length-reverse}
use Rattle.list_facts.proofs.Membership.{Contains-append_cases, Contains-append_left, Contains-append_right, Contains-cons_cases, Contains-filter_cases, Contains-first, Contains-none}
use Rattle.list_facts.proofs.Quantifiers.{All-from_Contains, Any-from_Contains, Any_cases}
use Rattle.numbered_graph.specs.declared.direction.Direction.{Direction}
use Rattle.numbered_graph.specs.declared.direction.Direction.TheVariants.{Forward, Reverse}
use Rattle.numbered_graph.specs.declared.link.Link.{Link}
use Rattle.numbered_graph.specs.ListedViews.{in_direction}
use Rattle.numbered_graph.specs.Listings.{IsListing}
use Rattle.numbered_graph.specs.Sets.{has}
use Rattle.guppy_package_parts.specs.declared.error.Error.{Error}
use Rattle.guppy_package_parts.specs.declared.error.Error.TheVariants.{UnknownPackageId}
use Rattle.std.specs.Cmp.Lexicographic.{bytes_decides}
use Rattle.std.specs.Str.{bytes_eq}
use Rattle.std.proofs.lemmas.List.Quantifiers.{position-Some}
use Rattle.std.proofs.lemmas.Option.{get_or_from_slice_get, slice_get_within}
use Rattle.workspace_record.specs.Records.{Member, Package, Text}
use Rattle.guppy_package_table.specs.Tables.{TableValue, id_at, ids_of, member_of, member_path_at}
use Rattle.guppy_package_graph.specs.Finding.{IsAt, IsMissing, IsNamed, IsUnknown}
use Rattle.std.proofs.lemmas.List.Elements.{All-cons, All-nil, All-tail}

pub rest_within : (P : ℕ → Type 0) (before after : List ℕ) (r : Option ℕ) → MatchOption r ((before ≡ []) × (after ≡ [])) (λ x. before ≡ x ∷ after) → All P before → All P after
rest_within P before after (Some x) is within = All-tail P x after (subst (All P) is within)
rest_within P before after None is within = subst (All P) (sym is.1) (λ k d lt. absurd (omega (arith, lt)))

pub turned : (d : Direction) (P : ℕ → Type 0) (xs : List ℕ) → All P xs → All P (in_direction d xs)
turned Forward P xs h = h
turned Reverse P xs h = λ k d lt. let within : k < length xs = subst (λ n. k < n) (length-reverse xs) lt in subst P (sym (get_or-reverse xs k d within)) (h (length xs - 1 - k) d (omega (arith, within)))

-- the members of a set that a listing gives
pub listed_within : (links : List Link) (firm set : ℕ → Bool) (n : ℕ) (xs : List ℕ) → IsListing links firm (λ v. nat_lt v n) xs → All (λ v. v < n) (filter set xs)
listed_within links firm set n xs h = All-from_Contains (λ v. v < n) (filter set xs) (λ v inside. ltb-true v n ((h.each v).0 (Contains-filter_cases set xs v inside).0))

has-within : (flags : List Bool) (v : ℕ) → has flags v ≡ true → v < length flags
has-within [] v h = absurd (true≢false (sym h))
has-within (b ∷ flags) zero h = omega arith
has-within (b ∷ flags) (suc v) h = let lt = has-within flags v h in omega arith

-- the set has no place past the last package
pub members_alone : (links : List Link) (firm : ℕ → Bool) (flags : List Bool) (n : ℕ) (xs : List ℕ) → length flags ≡ n → IsListing links firm (λ v. nat_lt v n && has flags v) xs → IsListing links firm (has flags) xs
members_alone links firm flags n xs sized h = record {
  once = h.once;
  each = λ v. (λ inside. (and_parts (nat_lt v n) (has flags v) ((h.each v).0 inside)).1, λ member. (h.each v).1 (and_from (nat_lt v n) (has flags v) (lt-ltb v n (subst (λ m. v < m) sized (has-within flags v member))) member));
  together = h.together;
  forward = h.forward;
  firm_forward = h.firm_forward;
}

abbrev from_some : Option ℕ → ℕ
from_some (Some n) = n
from_some None = 0

some_is : (a b : ℕ) → Some a ≡ Some b → a ≡ b
some_is a b e = ap from_some e

at_head : {X : Type 0} (x y : X) (xs ys : List X) → x ∷ xs ≡ y ∷ ys → x ≡ y
at_head x y xs ys same = ap (λ zs. get_or zs 0 x) same

at_tail : {X : Type 0} (x y : X) (xs ys : List X) → x ∷ xs ≡ y ∷ ys → xs ≡ ys
at_tail x y xs ys same = ap (λ zs. drop 1 zs) same

none_longer : {X : Type 0} (y : X) (ys : List X) → [] ≡ y ∷ ys → ⊥
none_longer y ys same = let sizes = ap (λ zs. length zs) same in omega (arith, sizes)

module _ {A : Type 0} (f : A → Option ℕ) (v : ℕ) where
  pub named : (xs : List A) (ys : List ℕ) → map f xs ≡ map Some ys → Contains ys v → Any (λ x. f x ≡ Some v) xs
  named [] [] same inside = absurd (omega (arith, inside.1))
  named [] (y ∷ ys) same inside = absurd (none_longer (Some y) (map Some ys) same)
  named (x ∷ xs) [] same inside = absurd (none_longer (f x) (map f xs) (sym same))
  named (x ∷ xs) (y ∷ ys) same (zero, lt, is) = (0, x, omega arith, refl, at_head (f x) (Some y) (map f xs) (map Some ys) same ∙ ap Some is)
  named (x ∷ xs) (y ∷ ys) same (suc k, lt, is) =
      let rest = named xs ys (at_tail (f x) (Some y) (map f xs) (map Some ys) same) (k, omega (arith, lt), is) in
      let lt = rest.2 in (suc rest.0, rest.1, omega (arith, lt), rest.3, rest.4)

  pub placed : (xs : List A) (ys : List ℕ) → map f xs ≡ map Some ys → Any (λ x. f x ≡ Some v) xs → Contains ys v
  placed [] ys same found = absurd (omega (arith, found.2))
  placed (x ∷ xs) [] same found = absurd (none_longer (f x) (map f xs) (sym same))
  placed (x ∷ xs) (y ∷ ys) same (zero, z, lt, is, e) = (0, omega arith, some_is y v (sym (at_head (f x) (Some y) (map f xs) (map Some ys) same) ∙ ap f is ∙ e))
  placed (x ∷ xs) (y ∷ ys) same (suc k, z, lt, is, e) =
      let rest = placed xs ys (at_tail (f x) (Some y) (map f xs) (map Some ys) same) (k, z, omega (arith, lt), is, e) in
      let lt = rest.1 in (suc rest.0, omega (arith, lt), rest.2)

-- where all are found, each has a place
pub each_found : {A : Type 0} (f : A → Option ℕ) (xs : List A) (ys : List ℕ) → map f xs ≡ map Some ys → All (λ x. (v : ℕ) × (f x ≡ Some v)) xs
each_found f [] ys same = All-nil (λ x. (v : ℕ) × (f x ≡ Some v))
each_found f (x ∷ xs) [] same = absurd (none_longer (f x) (map f xs) (sym same))
each_found f (x ∷ xs) (y ∷ ys) same =
    All-cons (λ x. (v : ℕ) × (f x ≡ Some v)) x xs (y, at_head (f x) (Some y) (map f xs) (map Some ys) same) (each_found f xs ys (at_tail (f x) (Some y) (map f xs) (map Some ys) same))

-- the packages of an error
pub missing_at : (g : TableValue) (ids : List Text) (k : ℕ) (id : Text) (error : Error) → k < length ids → get_or ids k id ≡ id → IsUnknown g id × (error ≡ UnknownPackageId) → IsMissing g ids error
missing_at g ids k id error lt is unknown = inr (unknown.1, (k, id, lt, is, unknown.0))

-- what holds of a good answer, by what holds of it
pub ok_more : {T E : Type 0} {P Q : T → Type 0} (r : Result T E) → ((x : T) → P x → Q x) → IfOk r P → IfOk r Q
ok_more (Ok x) more h = more x h
ok_more (Err e) more h = h

-- what is in a list of one
pub one_alone : (x v : ℕ) → Contains (x ∷ []) v ↔ (v ≡ x)
one_alone x v = (λ h. ⊎_elim (λ is. sym is) (λ later. absurd (Contains-none v later)) (Contains-cons_cases x [] v h), λ is. subst (Contains (x ∷ [])) (sym is) (Contains-first x []))

-- what holds of all that is read in a list
pub unmapped : {X Y : Type 0} (P : Y → Type 0) (f : X → Y) (xs : List X) → All P (map f xs) → All (λ x. P (f x)) xs
unmapped P f xs h k d lt = subst P (get_or-map f xs k d (f d) lt) (h k (f d) (subst (λ n. k < n) (sym (length-map xs f)) lt))

-- the path of the member whose row stands at the place
pub path_at_row : (g : TableValue) (place : ℕ) (row : Package) → slice_get g.packages place ≡ Some row → member_path_at g place ≡ option_map (λ m. m.path) (member_of g row.id)
path_at_row g place row is =
    ap (λ id. option_map (λ m. m.path) (member_of g id)) (get_or-map (λ p. p.id) g.packages place row [] (slice_get_within g.packages place row is) ∙ ap (λ p. p.id) (get_or_from_slice_get g.packages place row row is))

-- each member has a path
pub member_has_path : (g : TableValue) (id : Text) → is_some (option_map (λ m. m.path) (member_of g id)) ≡ is_some (member_of g id)
member_has_path g id = by (member_of g id)
  where
    by : (o : Option Member) → is_some (option_map (λ m. m.path) o) ≡ is_some o
    by (Some m) = refl
    by None = refl

-- the package at the place of an id is a member exactly where the id is a member's
pub member_at : (g : TableValue) (id : Text) (v : ℕ) → IsAt g id v → is_some (member_path_at g v) ≡ is_some (member_of g id)
member_at g id v at =
    let found = position-Some (bytes_eq id) (ids_of g.packages) v [] at in
    ap (λ x. is_some (option_map (λ m. m.path) (member_of g x))) (sym ((bytes_decides id (id_at g v)).0 found.1)) ∙ member_has_path g id

-- one id more names one package more, if it is that of a package
pub named_more : (g : TableValue) (ids : List Text) (id : Text) (v : ℕ) → IsNamed g (ids ++ id ∷ []) v ↔ (IsNamed g ids v ⊎ IsAt g id v)
named_more g ids id v = (there, back)
  where
    there : IsNamed g (ids ++ id ∷ []) v → IsNamed g ids v ⊎ IsAt g id v
    there h =
        let found = Any_cases (λ x. IsAt g x v) (ids ++ id ∷ []) h in
        ⊎_elim
        (λ before. inl (Any-from_Contains (λ x. IsAt g x v) ids found.0 before found.2))
        (λ last. inr (⊎_elim (λ is. subst (λ x. IsAt g x v) (sym is) found.2) (λ later. absurd (Contains-none found.0 later)) (Contains-cons_cases id [] found.0 last)))
        (Contains-append_cases ids (id ∷ []) found.0 found.1)

    back : IsNamed g ids v ⊎ IsAt g id v → IsNamed g (ids ++ id ∷ []) v
    back h =
        ⊎_elim
        (λ before. let found = Any_cases (λ x. IsAt g x v) ids before in Any-from_Contains (λ x. IsAt g x v) (ids ++ id ∷ []) found.0 (Contains-append_left ids (id ∷ []) found.0 found.1) found.2)
        (λ at. Any-from_Contains (λ x. IsAt g x v) (ids ++ id ∷ []) id (Contains-append_right ids (id ∷ []) id (Contains-first id [])) at)
        h
