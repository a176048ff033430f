-- Elements that are found, and pass a test.
use Rattle.std.proofs.Common.{◌≡◌, ◌∙◌, ℕ, Bool, true, false, cond, not, ◌||◌, List, [], ◌∷◌, filter, Option, Some, None, refl, sym, ap, IsTrue, ◌↔◌}
use Rattle.std.proofs.lemmas.Bool.{false≢true}
use Rattle.std.specs.List.{cons_option, filter_map, list_any}
use Rattle.std.specs.Option.{option_map_or}
use Rattle.workspace_record.specs.Records.{Link}
use Rattle.workspace_record.specs.declared.kinds.LineKind.{LineKind}
use Rattle.guppy_package_parts.specs.LineChoices.{takes}
use Rattle.guppy_package_parts.specs.Lines.{line_at, lines_at}
use Rattle.guppy_feature_demands.specs.Kinds.{has_optional, has_required}
use Rattle.guppy_feature_demands.specs.declared.link_declarations.LinkDeclarations.{LinkDeclarations}
use Rattle.guppy_feature_nodes.specs.Lines.{lines_shown}

module _ {X Y : Type 0} (f : X → Option Y) (test : Y → Bool) where
  abbrev passing : List X → List X
  passing ps = filter (λ p. option_map_or test (f p) false) ps

  kept : (b : Bool) (y : Y) (p : X) (ps : List X) (ys : List Y) → f p ≡ Some y → filter_map f ps ≡ ys → filter_map f (cond b (p ∷ ps) ps) ≡ cond b (y ∷ ys) ys
  kept true y p ps ys is rest = ap (λ o. cons_option o (filter_map f ps)) is ∙ ap (λ zs. y ∷ zs) rest
  kept false y p ps ys is rest = rest

  picked : (o : Option Y) (p : X) (ps : List X) → f p ≡ o → filter_map f (passing ps) ≡ filter test (filter_map f ps) → filter_map f (cond (option_map_or test o false) (p ∷ passing ps) (passing ps)) ≡ filter test (cons_option o (filter_map f ps))
  picked None p ps is rest = rest
  picked (Some y) p ps is rest = kept (test y) y p (passing ps) (filter test (filter_map f ps)) is rest

  -- those that are found where the elements pass are those that pass of all that are found
  pub found_passing : (ps : List X) → filter_map f (passing ps) ≡ filter test (filter_map f ps)
  found_passing [] = refl
  found_passing (p ∷ ps) = picked (f p) p ps refl (found_passing ps)

module _ {X : Type 0} (p : X → Bool) where
  none_by : (b : Bool) (x : X) (xs : List X) → (IsTrue (not (list_any p xs)) ↔ (filter p xs ≡ [])) → IsTrue (not (b || list_any p xs)) ↔ (cond b (x ∷ filter p xs) (filter p xs) ≡ [])
  none_by true x xs rest = (λ h. absurd (false≢true h), λ h. absurd (false≢true (sym (ap filled h))))
    where
      filled : List X → Bool
      filled [] = false
      filled (y ∷ ys) = true
  none_by false x xs rest = rest

  -- none passes just where a filter keeps none
  pub none_passes : (xs : List X) → IsTrue (not (list_any p xs)) ↔ (filter p xs ≡ [])
  none_passes [] = (λ h. refl, λ h. refl)
  none_passes (x ∷ xs) = none_by (p x) x xs (none_passes xs)

-- the lines of a kind that are shown are the chosen ones of all that are behind the edge
pub lines_chosen : (links : List Link) (shown : LinkDeclarations) (kind : LineKind) (places : List (ℕ × ℕ)) → lines_at links (lines_shown links shown kind places) ≡ filter (takes (record { kind = kind; required = has_required shown; optional = has_optional shown })) (lines_at links places)
lines_chosen links shown kind places =
    found_passing (line_at links) (takes (record { kind = kind; required = has_required shown; optional = has_optional shown })) places
