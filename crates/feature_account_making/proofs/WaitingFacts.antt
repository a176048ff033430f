-- The numbers that a map has for lent features.
use Rattle.std.proofs.Common.{◌≡◌, ℕ, ◌+◌, ◌≤◌, ◌<◌, Bool, true, false, cond, not, ◌||◌, List, [], ◌∷◌, ◌++◌, ⊎_elim, Option, Some, None, Vec, refl, sym, ap, ◌∙◌, subst, Bor, length, length-append, append-nil, slice_get, nat_eq, unwrap_or, true≢false, Result, Ok, Err, OnOk, arith}
use Rattle.std.specs.Global.{Global}
use Rattle.std.specs.Cmp.{unsigned_Decides}
use Rattle.std.specs.List.{list_any}
use Rattle.std.specs.Option.{option_map_or}
use Rattle.std.proofs.lemmas.Bool.{or_cases, or_left, or_right, cases_lt}
use Rattle.std.proofs.lemmas.List.Folds.{list_any-append}
use Rattle.std.proofs.lemmas.Option.{slice_get_within}
use Rattle.std.specs.Map.{lookup}
use Rattle.indexmap.specs.IndexMap.{IndexMap, Updates, get}
use Rattle.workspace_record.specs.Features.{FeatureValue, feature_eq, features_decide}
use Rattle.feature_account_rules.specs.LentPremises.{lent_premises_view}
use Rattle.feature_account_rules.specs.declared.lent_rule.LentPremises.{LentPremises}
use Rattle.feature_account_rules.specs.declared.rule.Rule.{Rule}
use Rattle.feature_account_rules.proofs.FoundFacts.{lent, lent_eq, same_either_way}
use Rattle.feature_account_making.specs.Waiting.{is_premise, waiting_at, IsWaiting}

-- the map with a number more for one feature
module _ {S : Type 0} (old new : IndexMap (Bor FeatureValue) (Vec ℕ Global) S) (k : Bor FeatureValue) (numbers : Vec ℕ Global) (n : ℕ) (put : Updates lent_eq old new k (Some numbers)) where
  at_new : (f : FeatureValue) → waiting_at new f ≡ option_map_or (λ (v : Vec ℕ Global). v.items) (cond (feature_eq f k.now) (Some numbers) (get lent_eq old (lent f))) []
  at_new f =
      ap (λ o. option_map_or (λ (v : Vec ℕ Global). v.items) o []) (put.0 (lent f) ∙ ap (λ b. cond b (Some numbers) (get lent_eq old (lent f))) (same_either_way f k.now))

  pub number_added : numbers.items ≡ waiting_at old k.now ++ n ∷ [] → (f : FeatureValue) → waiting_at new f ≡ waiting_at old f ++ cond (feature_eq f k.now) (n ∷ []) []
  number_added is f = at_new f ∙ by (feature_eq f k.now) refl
    where
      by : (b : Bool) → feature_eq f k.now ≡ b → option_map_or (λ (v : Vec ℕ Global). v.items) (cond b (Some numbers) (get lent_eq old (lent f))) [] ≡ waiting_at old f ++ cond b (n ∷ []) []
      by true e = is ∙ ap (λ g. waiting_at old g ++ n ∷ []) (sym ((features_decide f k.now).0 e))
      by false e = sym (append-nil (waiting_at old f))

-- the numbers under a key are those that its entry has, or none
pub numbers_at : (found : Option (Vec ℕ Global)) (empty : Vec ℕ Global) → empty.items ≡ [] → (unwrap_or found empty).items ≡ option_map_or (λ (v : Vec ℕ Global). v.items) found []
numbers_at None empty none = none
numbers_at (Some v) empty none = refl

-- two features that are not the same
apart : (a b : FeatureValue) → feature_eq a b ≡ false → (f : FeatureValue) → feature_eq f a ≡ true → feature_eq f b ≡ false
apart a b differ f e = subst (λ g. feature_eq g b ≡ false) (sym ((features_decide f a).0 e)) differ

pub both_added : (xs : List ℕ) (n : ℕ) (a b f : FeatureValue) → feature_eq a b ≡ false → (xs ++ cond (feature_eq f a) (n ∷ []) []) ++ cond (feature_eq f b) (n ∷ []) [] ≡ xs ++ cond (feature_eq f a || feature_eq f b) (n ∷ []) []
both_added xs n a b f differ = by (feature_eq f a) (feature_eq f b) (apart a b differ f)
  where
    by : (p q : Bool) → (p ≡ true → q ≡ false) → (xs ++ cond p (n ∷ []) []) ++ cond q (n ∷ []) [] ≡ xs ++ cond (p || q) (n ∷ []) []
    by true true h = absurd (true≢false (h refl))
    by true false h = append-nil (xs ++ n ∷ [])
    by false q h = ap (λ ys. ys ++ cond q (n ∷ []) []) (append-nil xs)

pub one_added : (xs : List ℕ) (n : ℕ) (a b f : FeatureValue) → feature_eq a b ≡ true → xs ++ cond (feature_eq f b) (n ∷ []) [] ≡ xs ++ cond (feature_eq f a || feature_eq f b) (n ∷ []) []
one_added xs n a b f same =
    ap (λ p. xs ++ cond p (n ∷ []) []) (once (feature_eq f b) ∙ ap (λ g. feature_eq f g || feature_eq f b) (sym ((features_decide a b).0 same)))
  where
    once : (p : Bool) → p ≡ (p || p)
    once true = refl
    once false = refl

-- the map has the numbers of the waiting rules among the first
pub record WaitsBelow {S : Type 0} (rules : List Rule) (count : ℕ) (waiting : IndexMap (Bor FeatureValue) (Vec ℕ Global) S) : Type 0 where
  pub finds : (n : ℕ) (r : Rule) (f : FeatureValue) → n < count → slice_get rules n ≡ Some r → is_premise r.premises f ≡ true → list_any (nat_eq n) (waiting_at waiting f) ≡ true
  pub known : (n : ℕ) (f : FeatureValue) → list_any (nat_eq n) (waiting_at waiting f) ≡ true → n < count
  pub few : (f : FeatureValue) → length (waiting_at waiting f) ≤ count

pub waits_begin : {S : Type 0} (rules : List Rule) (m : IndexMap (Bor FeatureValue) (Vec ℕ Global) S) → m.entries ≡ [] → WaitsBelow rules 0 m
waits_begin rules m empty =
    let none : (f : FeatureValue) → waiting_at m f ≡ [] = λ f. ap (λ es. option_map_or (λ (v : Vec ℕ Global). v.items) (lookup (λ (k : Bor FeatureValue). feature_eq f k.now) es) []) empty in
    record {
      finds = λ n r f lt at waits. absurd (omega (arith, lt));
      known = λ n f h. absurd (true≢false (sym h ∙ ap (list_any (nat_eq n)) (none f)));
      few = λ f. let e = ap length (none f) in omega (arith, e);
    }

pub waits_all : {S : Type 0} (rules : List Rule) (m : IndexMap (Bor FeatureValue) (Vec ℕ Global) S) (count : ℕ) → length rules ≤ count → count ≤ length rules → WaitsBelow rules count m → IsWaiting rules m
waits_all rules m count le ge all = record {
  finds = λ n r f at. all.finds n r f (let lt = slice_get_within rules n r at in omega (arith, lt, le)) at;
  known = λ n f h. let lt = all.known n f h in omega (arith, lt, ge);
  few = λ f. let most = all.few f in omega (arith, most, ge);
}

-- the premises that were looked at are the rule's
pub rule_waits : {S : Type 0} (rule : Rule) (p : LentPremises) → lent_premises_view p ≡ rule.premises → (m0 m1 : IndexMap (Bor FeatureValue) (Vec ℕ Global) S) (i : ℕ) → ((f : FeatureValue) → waiting_at m1 f ≡ waiting_at m0 f ++ cond (is_premise (lent_premises_view p) f) (i ∷ []) []) → (f : FeatureValue) → waiting_at m1 f ≡ waiting_at m0 f ++ cond (is_premise rule.premises f) (i ∷ []) []
rule_waits rule p same m0 m1 i added f = added f ∙ ap (λ q. waiting_at m0 f ++ cond (is_premise q f) (i ∷ []) []) same

-- one rule more
module _ {S : Type 0} (rules : List Rule) (m0 m1 : IndexMap (Bor FeatureValue) (Vec ℕ Global) S) (i : ℕ) (rule : Rule) (before : WaitsBelow rules i m0) (stands : slice_get rules i ≡ Some rule) (added : (f : FeatureValue) → waiting_at m1 f ≡ waiting_at m0 f ++ cond (is_premise rule.premises f) (i ∷ []) []) where
  any_added : (n : ℕ) (f : FeatureValue) → list_any (nat_eq n) (waiting_at m1 f) ≡ (list_any (nat_eq n) (waiting_at m0 f) || list_any (nat_eq n) (cond (is_premise rule.premises f) (i ∷ []) []))
  any_added n f = ap (list_any (nat_eq n)) (added f) ∙ list_any-append (nat_eq n) (waiting_at m0 f) _

  same_number : (b : Bool) (n : ℕ) → list_any (nat_eq n) (cond b (i ∷ []) []) ≡ true → n ≡ i
  same_number true n h = (unsigned_Decides n i).0 (⊎_elim (λ e. e) (λ e. absurd (true≢false (sym e))) (or_cases (nat_eq n i) false h))
  same_number false n h = absurd (true≢false (sym h))

  new_found : (n : ℕ) (r : Rule) (f : FeatureValue) → n ≡ i → slice_get rules n ≡ Some r → is_premise r.premises f ≡ true → list_any (nat_eq n) (cond (is_premise rule.premises f) (i ∷ []) []) ≡ true
  new_found n r f e at waits =
      let same : r ≡ rule = ap (λ o. unwrap_or o r) (sym at ∙ ap (slice_get rules) e ∙ stands) in
      let waits_now : is_premise rule.premises f ≡ true = subst (λ (q : Rule). is_premise q.premises f ≡ true) same waits in
      ap (λ b. list_any (nat_eq n) (cond b (i ∷ []) [])) waits_now ∙ or_left (nat_eq n i) false ((unsigned_Decides n i).1 e)

  length_added : (b : Bool) → length (cond b (i ∷ []) []) ≤ 1
  length_added true = omega arith
  length_added false = omega arith

  pub waits_more : WaitsBelow rules (i + 1) m1
  waits_more = record {
    finds = λ n r f lt at waits. any_added n f ∙ ⊎_elim (λ (old : n < i). or_left _ _ (before.finds n r f old at waits)) (λ (past : i ≤ n). or_right (list_any (nat_eq n) (waiting_at m0 f)) _ (new_found n r f (omega (arith, past, lt)) at waits)) (cases_lt n i);
    known = λ n f h. ⊎_elim (λ old. let lt = before.known n f old in omega (arith, lt)) (λ new. let e = same_number (is_premise rule.premises f) n new in omega (arith, e)) (or_cases _ _ (sym (any_added n f) ∙ h));
    few = λ f. let le = before.few f in let one = length_added (is_premise rule.premises f) in let e = ap length (added f) in let sum = length-append (waiting_at m0 f) (cond (is_premise rule.premises f) (i ∷ []) []) in omega (arith, le, one, e, sum);
  }

-- what holds after a call that may fail
pub on_ok_more : {T E P Q : Type 0} (r : Result T E) → (P → Q) → OnOk r P → OnOk r Q
on_ok_more (Ok x) more h = more h
on_ok_more (Err e) more h = h

pub flipped : (a b : Bool) → not a ≡ b → a ≡ not b
flipped true b e = ap not e
flipped false b e = ap not e
