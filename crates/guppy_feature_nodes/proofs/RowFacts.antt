-- The rows of packages that are listed one after the other.
use Rattle.std.proofs.Common.{◌≡◌, ℕ, suc, ◌+◌, ◌-◌, ◌<◌, length, get_or, List, [], ◌∷◌, ◌++◌, append-nil, map, Option, Some, slice_get, refl, sym, ◌∙◌, ap, arith}
use Rattle.std.specs.List.{filter_map, range_with_len}
use Rattle.std.proofs.lemmas.Option.{slice_get-get_or}
use Rattle.workspace_record.specs.Records.{Package}
use Rattle.guppy_package_table.specs.Tables.{TableValue}

-- the row at a place of a graph
abbrev pub at_place : TableValue × ℕ → Option Package
at_place p = slice_get p.0.packages p.1

module _ {X : Type 0} where
  given : (xs : List X) → filter_map (λ (o : Option X). o) (map Some xs) ≡ xs
  given [] = refl
  given (x ∷ xs) = ap (λ (ys : List X). x ∷ ys) (given xs)

  pub all_given : (xs ys : List X) → map Some xs ≡ map Some ys → xs ≡ ys
  all_given xs ys h = sym (given xs) ∙ ap (filter_map (λ (o : Option X). o)) h ∙ given ys

  each_given : (xs : List X) (f : ℕ → Option X) (a : ℕ) → ((i : ℕ) (d : X) → i < length xs → f (a + i) ≡ Some (get_or xs i d)) → map f (range_with_len a (length xs)) ≡ map Some xs
  each_given [] f a h = refl
  each_given (x ∷ xs) f a h =
      let here : a ≡ a + 0 = omega arith in
      let head : f a ≡ Some x = ap f here ∙ h 0 x (omega arith) in
      let moved : (i : ℕ) → (a + 1) + i ≡ a + suc i = λ i. omega arith in
      let tail = each_given xs f (a + 1) (λ i d lt. ap f (moved i) ∙ h (suc i) d (omega (arith, lt))) in
      λ k. head k ∷ tail k

seen_at : (g : TableValue) (places : List ℕ) → map at_place (map (λ (v : ℕ). (g, v)) places) ≡ map (slice_get g.packages) places
seen_at g [] = refl
seen_at g (v ∷ vs) = ap (λ (os : List (Option Package)). slice_get g.packages v ∷ os) (seen_at g vs)

-- all places of a graph, from the first on
abbrev left_of : TableValue → ℕ → List (TableValue × ℕ)
left_of g first = map (λ (v : ℕ). (g, v)) (range_with_len first (length g.packages - first))

all_at : (g : TableValue) → map at_place (left_of g 0) ≡ map Some g.packages
all_at g =
    let at : (i : ℕ) → 0 + i ≡ i = λ i. omega arith in
    let size : length g.packages - 0 ≡ length g.packages = omega arith in
    seen_at g (range_with_len 0 (length g.packages - 0)) ∙ ap (λ (n : ℕ). map (slice_get g.packages) (range_with_len 0 n)) size ∙ each_given g.packages (slice_get g.packages) 0 (λ i d lt. ap (slice_get g.packages) (at i) ∙ slice_get-get_or g.packages i d lt)

pub all_started : (g seen : TableValue) (first : ℕ) → seen ≡ g → first ≡ 0 → map at_place (left_of seen first) ≡ map Some g.packages
all_started g seen first is at = (λ i. map at_place (left_of (is i) (at i))) ∙ all_at g

-- nothing is left
pub all_listed : (g : TableValue) (rows : List Package) (left : List (TableValue × ℕ)) → map Some rows ++ map at_place left ≡ map Some g.packages → left ≡ [] → rows ≡ g.packages
all_listed g rows left h none =
    all_given rows g.packages (sym (append-nil (map Some rows)) ∙ ap (λ (ps : List (TableValue × ℕ)). map Some rows ++ map at_place ps) (sym none) ∙ h)
