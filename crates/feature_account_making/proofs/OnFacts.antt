-- What an account concludes, and what is on.
use Rattle.std.proofs.Common.{◌≡◌, ◌↔◌, ℕ, ◌+◌, ◌<◌, ◌≤◌, List, [], ◌∷◌, ◌++◌, Option, Some, option_map, Result, Ok, Err, Vec, IfOk, IsSome, IsTrue, Contains, get_or, length, take, sym, subst, ap, ◌∙◌}
use Rattle.std.specs.Global.{Global}
use Rattle.std.specs.List.{cons_option}
use Rattle.std.proofs.lemmas.List.{take_more}
use Rattle.std.proofs.lemmas.List.Elements.{filter_map-append}
use Rattle.std.proofs.lemmas.Option.{slice_get-get_or, slice_get_past}
use Rattle.workspace_record.specs.Features.{FeatureValue}
use Rattle.feature_account.specs.Accounts.{concludes, conclusions}
use Rattle.feature_account_rules.specs.Closed.{IsOn}
use Rattle.feature_account_rules.specs.declared.rule.Rule.{Rule}
use Rattle.feature_account.proofs.ConcludedFacts.{concluded_iff}

-- what one entry more concludes
pub conclusions_more : (rules : List Rule) (entries : List ℕ) (i d : ℕ) → i < length entries → conclusions rules (take (i + 1) entries) ≡ conclusions rules (take i entries) ++ conclusions rules (get_or entries i d ∷ [])
conclusions_more rules entries i d lt =
    ap (conclusions rules) (take_more entries i d lt) ∙ filter_map-append _ (take i entries) (get_or entries i d ∷ [])

-- an entry concludes what its rule concludes; one whose number no rule has concludes nothing
pub conclusion_of : (rules : List Rule) (n : ℕ) (r : Rule) → n < length rules → r ≡ get_or rules n r → conclusions rules (n ∷ []) ≡ r.conclusion ∷ []
conclusion_of rules n r lt is =
    ap (λ o. cons_option (option_map (λ (s : Rule). s.conclusion) o) []) (slice_get-get_or rules n r lt ∙ ap Some (sym is))

pub no_conclusion : (rules : List Rule) (n : ℕ) → length rules ≤ n → conclusions rules (n ∷ []) ≡ []
no_conclusion rules n past =
    ap (λ o. cons_option (option_map (λ (s : Rule). s.conclusion) o) []) (slice_get_past rules n past)

-- features that are those which an account concludes are those that are on
pub on_so : {E : Type 0} (rules : List Rule) (entries : List ℕ) (features : List FeatureValue) (r : Result (List FeatureValue) E) → features ≡ conclusions rules entries → ((f : FeatureValue) → IsTrue (concludes rules entries f) ↔ IsOn rules f) → IfOk r (λ on. (f : FeatureValue) → Contains on f ↔ Contains features f) → IfOk r (λ on. (f : FeatureValue) → Contains on f ↔ IsOn rules f)
on_so rules entries features (Ok on) same is members = λ f. (
  λ h. (is f).0 ((concluded_iff (conclusions rules entries) f).1 (subst (λ xs. Contains xs f) same ((members f).0 h))),
  λ h. (members f).1 (subst (λ xs. Contains xs f) (sym same) ((concluded_iff (conclusions rules entries) f).0 ((is f).1 h))),
)
on_so rules entries features (Err e) same is members = members

-- what is explained exactly where an account concludes it is explained exactly where it is on
pub explained_so : {E : Type 0} (rules : List Rule) (entries same : List ℕ) (f : FeatureValue) (r : Result (Option (Vec ℕ Global)) E) → same ≡ entries → (IsTrue (concludes rules entries f) ↔ IsOn rules f) → IfOk r (λ o. IsSome o ↔ IsTrue (concludes rules same f)) → IfOk r (λ o. IsSome o ↔ IsOn rules f)
explained_so rules entries same f (Ok o) e is found =
    let there : IsSome o ↔ IsTrue (concludes rules entries f) = subst (λ ns. IsSome o ↔ IsTrue (concludes rules ns f)) e found in
    (λ h. is.0 (there.0 h), λ h. there.1 (is.1 h))
explained_so rules entries same f (Err fault) e is found = found
