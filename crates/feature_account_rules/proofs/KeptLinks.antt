-- The links of a package under a name, of which alone the entries with a slash speak.
use Rattle.std.proofs.Common.{◌≡◌, Bool, true, false, cond, ◌&&◌, List, [], ◌∷◌, ◌++◌, filter, map, if◌then◌else◌, refl, sym, ap, ◌∙◌}
use Rattle.std.specs.List.{flat_map}
use Rattle.std.specs.Str.{bytes_eq}
use Rattle.workspace_record.specs.Features.{FeatureValue}
use Rattle.workspace_record.specs.Records.{Text, Package, Link, Workspace}
use Rattle.workspace_record.specs.declared.choice.PlatformTable.{PlatformTable}
use Rattle.workspace_record.specs.LinkNames.{links_named}
use Rattle.feature_account_rules.specs.Lines.{counting_lines}
use Rattle.feature_account_rules.specs.RuleList.{slash_lines, strong_targets, target_has, named_of, weak_rule, weak_rules}

-- elements that give nothing may be left out
flat_map_kept : {X Y : Type 0} (p : X → Bool) (f : X → List Y) → ((x : X) → p x ≡ false → f x ≡ []) → (xs : List X) → flat_map f (filter p xs) ≡ flat_map f xs
flat_map_kept p f none [] = refl
flat_map_kept p f none (x ∷ xs) = by (p x) refl (flat_map_kept p f none xs)
  where
    by : (b : Bool) → p x ≡ b → flat_map f (filter p xs) ≡ flat_map f xs → flat_map f (cond b (x ∷ filter p xs) (filter p xs)) ≡ f x ++ flat_map f xs
    by true e rest = ap (λ ys. f x ++ ys) rest
    by false e rest = rest ∙ ap (λ ys. ys ++ flat_map f xs) (sym (none x e))

module _ (w : Workspace) (table : PlatformTable) (p : Package) (name x : Text) where
  -- a link of another package, or under another name, gives nothing
  no_lines : (link : Link) → (bytes_eq p.id link.from && bytes_eq name link.name) ≡ false → slash_lines w table p name x link ≡ []
  no_lines link e = ap (λ b. if b && target_has w link x then counting_lines w table link else []) e

  pub strong_kept : flat_map (strong_targets w table p name x) (links_named w.links p.id name) ≡ flat_map (strong_targets w table p name x) w.links
  strong_kept =
      flat_map_kept (λ link. bytes_eq p.id link.from && bytes_eq name link.name) (strong_targets w table p name x) (λ link e. ap (map (λ _. named_of link.to x)) (no_lines link e)) w.links

  pub weak_kept : (f : FeatureValue) → flat_map (weak_rules w table p f name x) (links_named w.links p.id name) ≡ flat_map (weak_rules w table p f name x) w.links
  weak_kept f =
      flat_map_kept (λ link. bytes_eq p.id link.from && bytes_eq name link.name) (weak_rules w table p f name x) (λ link e. ap (map (weak_rule f p name (named_of link.to x))) (no_lines link e)) w.links
