-- What a status keeps of the specs of its lines has their value on every platform.
use Rattle.std.proofs.Common.{◌≡◌, Bool, true, false, cond, List, [], ◌∷◌, map, Option, Some, None, MatchOption, refl, sym, ◌∙◌, ap, subst}
use Rattle.std.specs.List.{list_any}
use Rattle.std.specs.Option.{is_none, is_some}
use Rattle.workspace_record.specs.Records.{Text, Line}
use Rattle.guppy_package_parts.specs.Statuses.{Asked, spec_answer, status_of, StatusValue, IsAlways, Depends, given, given_specs, specs_of, status_of_given, status_from, kept_specs, IsStatusOf}
use Rattle.guppy_package_parts.specs.Ternaries.{greater}
use Rattle.guppy_package_parts.specs.declared.enabled_ternary.EnabledTernary.TheVariants.{Enabled}
use Rattle.guppy_package_parts.proofs.TernaryFacts.{greater-Enabled, greater-all}

-- a line without a spec counts everywhere
always_enabled : (asked : Asked) (specs : List (Option Text)) → list_any is_none specs ≡ true → status_of asked specs ≡ Enabled
always_enabled asked [] h = cc
always_enabled asked (None ∷ specs) h = greater-Enabled (status_of asked specs)
always_enabled asked (Some spec ∷ specs) h =
    ap (greater (spec_answer asked (Some spec))) (always_enabled asked specs h) ∙ greater-all (spec_answer asked (Some spec))

-- where each line has a spec, these are all the specs
all_given : (specs : List (Option Text)) → list_any is_none specs ≡ false → map Some (given specs) ≡ specs
all_given [] h = refl
all_given (None ∷ specs) h = cc
all_given (Some spec ∷ specs) h = ap (λ rest. Some spec ∷ rest) (all_given specs h)

keeps_given : (specs : List Text) → kept_specs (status_of_given specs) ≡ map Some specs
keeps_given [] = refl
keeps_given (spec ∷ specs) = refl

same_value : (asked : Asked) (specs : List (Option Text)) (b : Bool) → list_any is_none specs ≡ b → status_of asked (kept_specs (cond b IsAlways (status_of_given (given specs)))) ≡ status_of asked specs
same_value asked specs true h = sym (always_enabled asked specs h)
same_value asked specs false h = ap (status_of asked) (keeps_given (given specs) ∙ all_given specs h)

-- the status that is made of the specs is their status
pub made_from : (specs : List (Option Text)) (status : StatusValue) → status ≡ status_from specs → IsStatusOf specs status
made_from specs status e = record {
  variant = e;
  value = λ asked. ap (λ s. status_of asked (kept_specs s)) e ∙ same_value asked specs (list_any is_none specs) refl;
}

-- it depends on the specs of lines, where there is one and each has a spec
pub status_from-given : (spec : Option Text) (specs : List (Option Text)) → list_any is_none (spec ∷ specs) ≡ false → Depends (given (spec ∷ specs)) ≡ status_from (spec ∷ specs)
status_from-given None specs h = cc
status_from-given (Some spec) specs h =
    sym (ap (λ b. cond b IsAlways (status_of_given (given (Some spec ∷ specs)))) h)

pub always_from : (specs : List (Option Text)) → list_any is_none specs ≡ true → IsStatusOf specs IsAlways
always_from specs h = made_from specs IsAlways (sym (ap (λ b. cond b IsAlways (status_of_given (given specs))) h))

depends_on : (lines : List Line) (line : Line) (others : List Line) → lines ≡ line ∷ others → list_any is_none (specs_of lines) ≡ false → IsStatusOf (specs_of lines) (Depends (given_specs lines))
depends_on lines line others e none =
    subst (λ ls. list_any is_none (specs_of ls) ≡ false → IsStatusOf (specs_of ls) (Depends (given_specs ls))) (sym e) (λ h. made_from (specs_of (line ∷ others)) (Depends (given_specs (line ∷ others))) (status_from-given line.spec (specs_of others) h)) none

-- the same, where `split_first` found a line
pub depends_from : {X : Type 0} (found : Option X) (first : X → Line) (rest : X → List Line) (lines : List Line) → MatchOption found (lines ≡ []) (λ p. lines ≡ first p ∷ rest p) → is_some found ≡ true → list_any is_none (specs_of lines) ≡ false → IsStatusOf (specs_of lines) (Depends (given_specs lines))
depends_from None first rest lines h e none = cc
depends_from (Some p) first rest lines h e none = depends_on lines (first p) (rest p) h none
