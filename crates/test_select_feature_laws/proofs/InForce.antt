-- What the value of a status says of its lines on the platform of a table.
use Rattle.std.proofs.Common.{◌≡◌, ◌∙◌, Bool, true, false, ◌||◌, List, [], ◌∷◌, Option, Some, None, ap, ap₂, refl, unwrap_or}
use Rattle.std.specs.List.{list_any}
use Rattle.workspace_record.specs.Records.{Text}
use Rattle.workspace_record.specs.Tables.{answer}
use Rattle.workspace_record.specs.declared.choice.PlatformTable.{PlatformTable}
use Rattle.feature_account_rules.specs.Lines.{is_in_force}
use Rattle.guppy_package_parts.specs.Statuses.{Asked, AskedPlatforms, IsStatusOf, StatusValue, kept_specs, spec_answer, status_of}
use Rattle.guppy_package_parts.specs.Ternaries.{greater, ternary_of}
use Rattle.guppy_package_parts.specs.declared.enabled_ternary.EnabledTernary.{EnabledTernary}
use Rattle.guppy_package_parts.specs.declared.enabled_ternary.EnabledTernary.TheVariants.{Disabled, Unknown, Enabled}

-- whether a value counts, where unknown ones do or not
abbrev pub verdict_of : Bool → EnabledTernary → Bool
verdict_of unknown_counts Enabled = true
verdict_of unknown_counts Unknown = unknown_counts
verdict_of unknown_counts Disabled = false

either_verdict : (u : Bool) (x y : EnabledTernary) → verdict_of u (greater x y) ≡ (verdict_of u x || verdict_of u y)
either_verdict u Disabled Disabled = refl
either_verdict u Disabled Unknown = refl
either_verdict u Disabled Enabled = refl
either_verdict true Unknown Disabled = refl
either_verdict false Unknown Disabled = refl
either_verdict true Unknown Unknown = refl
either_verdict false Unknown Unknown = refl
either_verdict true Unknown Enabled = refl
either_verdict false Unknown Enabled = refl
either_verdict u Enabled Disabled = refl
either_verdict u Enabled Unknown = refl
either_verdict u Enabled Enabled = refl

answer_verdict : (u : Bool) (o : Option Bool) → verdict_of u (greater (ternary_of o) Disabled) ≡ unwrap_or o u
answer_verdict u (Some true) = refl
answer_verdict u (Some false) = refl
answer_verdict u None = refl

spec_verdict : (table : PlatformTable) (spec : Option Text) → verdict_of table.unknown_counts (spec_answer (AskedPlatforms (answer table ∷ [])) spec) ≡ is_in_force table spec
spec_verdict table None = refl
spec_verdict table (Some spec) = answer_verdict table.unknown_counts (answer table spec)

-- the value of lines with these specs counts exactly where one of them is in force
pub value_verdict : (table : PlatformTable) (specs : List (Option Text)) → verdict_of table.unknown_counts (status_of (AskedPlatforms (answer table ∷ [])) specs) ≡ list_any (is_in_force table) specs
value_verdict table [] = refl
value_verdict table (spec ∷ specs) = either_verdict table.unknown_counts (spec_answer (AskedPlatforms (answer table ∷ [])) spec) (status_of (AskedPlatforms (answer table ∷ [])) specs) ∙ ap₂ ◌||◌ (spec_verdict table spec) (value_verdict table specs)

-- what is asked of a status counts exactly where one of its lines is in force
pub status_verdict : (table : PlatformTable) (asked : Asked) (specs : List (Option Text)) (status : StatusValue) (value : EnabledTernary) → asked ≡ AskedPlatforms (answer table ∷ []) → IsStatusOf specs status → value ≡ status_of asked (kept_specs status) → verdict_of table.unknown_counts value ≡ list_any (is_in_force table) specs
status_verdict table asked specs status value is h e =
    ap (verdict_of table.unknown_counts) (e ∙ h.value asked ∙ ap (λ a. status_of a specs) is) ∙ value_verdict table specs
