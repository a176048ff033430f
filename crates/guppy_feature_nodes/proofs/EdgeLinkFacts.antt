-- The links of all lines, where the lines of one half have none.
use Rattle.std.proofs.Common.{◌≡◌, ◌==◌, ℕ, Bool, true, false, cond, List, [], ◌∷◌, Option, Some, None, length, map, filter, nat_eq, if◌then◌else◌, refl, sym, ap, ◌∙◌, true≢false}
use Rattle.std.proofs.Math.Dec.{eqb-suc-zero}
use Rattle.std.specs.Option.{option_map_or}
use Rattle.workspace_record.specs.Records.{Line, Link}
use Rattle.guppy_package_parts.specs.Lines.{line_at}
use Rattle.guppy_feature_demands.specs.declared.link_declarations.LinkDeclarations.TheVariants.{Unsplit, Required, Optional}
use Rattle.guppy_feature_demands.specs.Nodes.{first_of_each}
use Rattle.guppy_feature_nodes.specs.EdgeLinkViews.{joined}
use Rattle.guppy_feature_nodes.specs.Lines.{declares, declares_at, links_shown}

-- where one test passes nowhere, two others that agree elsewhere keep the same
filter_alike : {X : Type 0} (p q r : X → Bool) → ((x : X) → p x ≡ false → q x ≡ r x) → (xs : List X) → filter p xs ≡ [] → filter q xs ≡ filter r xs
filter_alike p q r each [] none = refl
filter_alike p q r each (x ∷ xs) none = by (p x) refl none (λ rest. filter_alike p q r each xs rest)
  where
    by : (b : Bool) → p x ≡ b → cond b (x ∷ filter p xs) (filter p xs) ≡ [] → (filter p xs ≡ [] → filter q xs ≡ filter r xs) → filter q (x ∷ xs) ≡ filter r (x ∷ xs)
    by true e some rest = absurd cc
    by false e left rest = λ i. cond (each x e i) (x ∷ rest left i) (rest left i)

firsts_none : (xs : List ℕ) → first_of_each nat_eq xs ≡ [] → xs ≡ []
firsts_none [] e = refl
firsts_none (x ∷ xs) e = absurd cc

ends_none : (xs : List (ℕ × ℕ)) → map (λ p. p.0) xs ≡ [] → xs ≡ []
ends_none [] e = refl
ends_none (x ∷ xs) e = absurd cc

required_alone : (b : Bool) → (if b then true else false) ≡ false → (if b then false else true) ≡ (if b then true else true)
required_alone true e = absurd (true≢false e)
required_alone false e = refl

optional_alone : (b : Bool) → (if b then false else true) ≡ false → (if b then true else false) ≡ (if b then true else true)
optional_alone true e = refl
optional_alone false e = absurd (true≢false e)

required_at : (o : Option Line) → option_map_or (declares Optional) o false ≡ false → option_map_or (declares Required) o false ≡ option_map_or (declares Unsplit) o false
required_at None e = refl
required_at (Some line) e = required_alone line.optional e

optional_at : (o : Option Line) → option_map_or (declares Required) o false ≡ false → option_map_or (declares Optional) o false ≡ option_map_or (declares Unsplit) o false
optional_at None e = refl
optional_at (Some line) e = optional_alone line.optional e

module _ (links : List Link) (places : List (ℕ × ℕ)) where
  all_required : links_shown links Optional places ≡ [] → links_shown links Required places ≡ links_shown links Unsplit places
  all_required none =
      ap (λ ps. first_of_each nat_eq (map (λ place. place.0) ps)) (filter_alike (declares_at links Optional) (declares_at links Required) (declares_at links Unsplit) (λ p. required_at (line_at links p)) places (ends_none _ (firsts_none _ none)))

  all_optional : links_shown links Required places ≡ [] → links_shown links Optional places ≡ links_shown links Unsplit places
  all_optional none =
      ap (λ ps. first_of_each nat_eq (map (λ place. place.0) ps)) (filter_alike (declares_at links Required) (declares_at links Optional) (declares_at links Unsplit) (λ p. optional_at (line_at links p)) places (ends_none _ (firsts_none _ none)))

  -- where the links of both halves are joined, they are those of all lines
  pub joined_is : (required optional both : List ℕ) → required ≡ links_shown links Required places → optional ≡ links_shown links Optional places → ((length required == 0) ≡ false → (length optional == 0) ≡ false → both ≡ links_shown links Unsplit places) → joined required optional both ≡ links_shown links Unsplit places
  joined_is required [] both r o rest = r ∙ all_required (sym o)
  joined_is [] (x ∷ xs) both r o rest = ap (λ b. if b then [] else (x ∷ xs)) (eqb-suc-zero (length xs)) ∙ o ∙ all_optional (sym r)
  joined_is (y ∷ ys) (x ∷ xs) both r o rest =
      ap (λ b. if b then (y ∷ ys) else (if length (y ∷ ys) == 0 then (x ∷ xs) else both)) (eqb-suc-zero (length xs)) ∙ ap (λ b. if b then (x ∷ xs) else both) (eqb-suc-zero (length ys)) ∙ rest (eqb-suc-zero (length ys)) (eqb-suc-zero (length xs))
