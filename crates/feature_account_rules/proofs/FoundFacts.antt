-- Features that a set of lent features finds.
use Rattle.std.proofs.Common.{◌≡◌, Bool, true, false, cond, ◌||◌, Bor, Result, Ok, Err, OnOk, refl, sym, ap, ◌∙◌}
use Rattle.std.specs.Cmp.{IsEquivalence}
use Rattle.indexmap.specs.IndexSet.{IndexSet, Updates}
use Rattle.workspace_record.specs.Equality.{equivalence}
use Rattle.workspace_record.specs.Features.{FeatureValue, feature_eq, features_decide}
use Rattle.feature_account_rules.specs.Closed.{FeatureSet, is_premise}
use Rattle.feature_account_rules.specs.Found.{found_set}
use Rattle.feature_account_rules.specs.declared.rule.Premises.{Premises}
use Rattle.feature_account_rules.specs.declared.rule.Premises.TheVariants.{Two}

-- a feature behind a reference
abbrev pub lent : FeatureValue → Bor FeatureValue
lent f = record { ref_ptr = (0, 0); now = f }

abbrev pub lent_eq : Bor FeatureValue → Bor FeatureValue → Bool
lent_eq a b = feature_eq a.now b.now

-- two features are the same either way round
pub same_either_way : (f g : FeatureValue) → feature_eq g f ≡ feature_eq f g
same_either_way f g = IsEquivalence.symm (equivalence features_decide) g f

joined : (a b : Bool) → cond a true b ≡ (b || (a || false))
joined true true = refl
joined true false = refl
joined false true = refl
joined false false = refl

-- one feature more is found
pub found_more : {S : Type 0} (old new : IndexSet (Bor FeatureValue) S) (g : Bor FeatureValue) → Updates lent_eq old new g true → (f : FeatureValue) → found_set new f ≡ (found_set old f || (feature_eq f g.now || false))
found_more old new g put f =
    put.0 (lent f) ∙ ap (λ b. cond b true (found_set old f)) (same_either_way f g.now) ∙ joined (feature_eq f g.now) (found_set old f)

-- two features more are found
both_found : (old a b : Bool) → ((old || (a || false)) || (b || false)) ≡ ((a || b) || old)
both_found true true true = refl
both_found true true false = refl
both_found true false true = refl
both_found true false false = refl
both_found false true true = refl
both_found false true false = refl
both_found false false true = refl
both_found false false false = refl

pub found_two : {E : Type 0} (r : Result (Unit {0}) E) (p : Premises) (a b : FeatureValue) (old between new : FeatureSet) → p ≡ Two a b → ((f : FeatureValue) → between f ≡ (old f || (feature_eq f a || false))) → OnOk r ((f : FeatureValue) → new f ≡ (between f || (feature_eq f b || false))) → OnOk r ((f : FeatureValue) → new f ≡ (is_premise p f || old f))
found_two (Ok x) p a b old between new e first second =
    λ f. second f ∙ ap (λ s. s || (feature_eq f b || false)) (first f) ∙ both_found (old f) (feature_eq f a) (feature_eq f b) ∙ ap (λ q. is_premise q f || old f) (sym e)
found_two (Err x) p a b old between new e first second = second
