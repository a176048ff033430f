-- What is read in rows, and what is refused.
use Rattle.std.proofs.Common.{◌≡◌, ◌≢◌, ℕ, false, not, ◌||◌, List, [], ◌∷◌, Option, Some, None, is_ok, Result, Ok, map, position, ap, ◌∙◌, refl}
use Rattle.std.specs.List.{list_any}
use Rattle.std.specs.Option.{option_map}
use Rattle.semver.specs.Identifiers.{comparator_view, parts_of}
use Rattle.semver.specs.Parse.{req_of, version_parts}
use Rattle.semver.specs.declared.Version.{Version}
use Rattle.semver.specs.declared.VersionReq.{VersionReq}
use Rattle.workspace_record.specs.Records.{Package, Link}
use Rattle.guppy_package_rules.specs.Readings.{AreRequirementsOf, AreVersionsOf}
use Rattle.guppy_package_rules.specs.Refusals.{Names}
use Rattle.guppy_package_rules.specs.Rules.{is_requirement, is_version}
use Rattle.guppy_package_rules.specs.declared.package_graph_error.PackageGraphError.{PackageGraphError}
use Rattle.guppy_package_rules.specs.declared.package_graph_error.PackageGraphError.TheVariants.{Broken, Memory}
use Rattle.guppy_package_rules.specs.declared.record_rule.RecordRule.{RecordRule}
use Rattle.guppy_package_rules.proofs.Positions.{no_position}

-- where something was read in each element, nothing is refused
pub none_unread : {X Y A E : Type 0} (f : X → Result A E) (g : Y → A) (xs : List X) (ys : List Y) → map f xs ≡ map (λ y. Ok (g y)) ys → list_any (λ x. not (is_ok (f x))) xs ≡ false
none_unread f g [] ys e = refl
none_unread f g (x ∷ xs) [] e = absurd cc
none_unread f g (x ∷ xs) (y ∷ ys) e =
    let here : f x ≡ Ok (g y) = cc in
    let later : map f xs ≡ map (λ y. Ok (g y)) ys = cc in
    ap (λ r. not (is_ok r) || list_any (λ x. not (is_ok (f x))) xs) here ∙ none_unread f g xs ys later

-- the error names the first place
pub names_place : (e : PackageGraphError) (rule : RecordRule) (place : ℕ) (first : Option ℕ) → (e ≢ Memory → (e ≡ Broken rule place) × (first ≡ Some place)) → Names (option_map (λ p. (rule, p)) first) e
names_place Memory rule place first h = tt
names_place (Broken r p) rule place first h =
    let both = h (λ x. absurd cc) in
    let broken : Broken r p ≡ Broken rule place = both.0 in
    let pair : Some (rule, place) ≡ Some (r, p) = cc in
    ap (option_map (λ p. (rule, p))) both.1 ∙ pair

module _ (packages : List Package) where
  -- where versions were read, none is refused
  pub versions_read : (versions : List Version) → AreVersionsOf packages versions → position (λ p. not (is_version p.version)) packages ≡ None
  versions_read versions read = no_position (λ p. not (is_version p.version)) packages (none_unread (λ p. version_parts p.version) parts_of packages versions read)

module _ (links : List Link) where
  -- so with requirements
  pub requirements_read : (requirements : List VersionReq) → AreRequirementsOf links requirements → position (λ l. not (is_requirement l.requirement)) links ≡ None
  requirements_read requirements read =
      no_position (λ l. not (is_requirement l.requirement)) links (none_unread (λ l. req_of l.requirement) (λ r. map comparator_view r.comparators.items) links requirements read)
