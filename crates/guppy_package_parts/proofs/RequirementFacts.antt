-- The status of no line at all, and texts that are not found.
use Rattle.std.proofs.Common.{◌≡◌, ℕ, ◌+◌, ◌<◌, false, ◌||◌, List, [], ◌∷◌, length, get_or, take, String, Global, string_bytes, refl, sym, ◌∙◌, ap}
use Rattle.std.specs.List.{list_any}
use Rattle.std.specs.Str.{bytes_eq}
use Rattle.std.proofs.lemmas.List.{map-append, take_more}
use Rattle.std.proofs.lemmas.List.Folds.{list_any-append}
use Rattle.list_facts.specs.Texts.{texts}
use Rattle.workspace_record.specs.Records.{Text}
use Rattle.guppy_package_parts.specs.RequirementViews.{HasStatus}
use Rattle.guppy_package_parts.specs.Statuses.{IsNever}
use Rattle.guppy_package_parts.specs.declared.platform_status.PlatformStatus.TheVariants.{Never}
use Rattle.guppy_package_parts.proofs.StatusFacts.{made_from}

pub no_status : HasStatus [] (record { required = Never; optional = Never })
no_status = record { required = made_from [] IsNever refl; optional = made_from [] IsNever refl }

-- the next text is another one too
pub no_text_more : (text : Text) (names : List (String Global)) (i : ℕ) (name : String Global) → i < length names → name ≡ get_or names i name → list_any (bytes_eq text) (texts (take i names)) ≡ false → bytes_eq text (string_bytes name) ≡ false → list_any (bytes_eq text) (texts (take (i + 1) names)) ≡ false
no_text_more text names i name lt is none other =
    let last : list_any (bytes_eq text) (texts (get_or names i name ∷ [])) ≡ false = ap (λ n. bytes_eq text (string_bytes n) || false) (sym is) ∙ ap (λ b. b || false) other in
    ap (λ ns. list_any (bytes_eq text) (texts ns)) (take_more names i name lt) ∙ ap (list_any (bytes_eq text)) (map-append string_bytes (take i names) (get_or names i name ∷ [])) ∙ list_any-append (bytes_eq text) (texts (take i names)) (texts (get_or names i name ∷ [])) ∙ ap (λ b. b || list_any (bytes_eq text) (texts (get_or names i name ∷ []))) none ∙ last
