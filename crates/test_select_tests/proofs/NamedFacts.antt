-- The named features of a list are those that it contains.
use Rattle.std.proofs.Common.{◌≡◌, ⊎_elim, sym, subst, List, [], flat_map, Contains}
use Rattle.list_facts.proofs.Membership.{Contains-cons_cases, Contains-first, Contains-flat_map, Contains-flat_map_cases, Contains-none}
use Rattle.workspace_record.specs.Records.{Text}
use Rattle.workspace_record.specs.Features.{FeatureValue, LabelValue, Base, Named, Dep}
use Rattle.feature_account_rules.specs.RuleList.{named_of}
use Rattle.test_select_tests.specs.NamedFeatures.{AreNamedOn, named_by, named_pair}

-- a pair among those of a feature is that feature's
its_own : (on : List FeatureValue) (id : Text) (label : LabelValue) (f : Text × Text) → Contains on (record { package_id = id; label = label }) → Contains (named_by id label) f → Contains on (named_of f.0 f.1)
its_own on id Base f inside h = absurd (Contains-none f h)
its_own on id (Named name) f inside h =
    ⊎_elim
    (λ is. subst (λ (x : Text × Text). Contains on (named_of x.0 x.1)) is inside)
    (λ none. absurd (Contains-none f none))
    (Contains-cons_cases (id, name) [] f h)
its_own on id (Dep name) f inside h = absurd (Contains-none f h)

pub named_as : (on : List FeatureValue) (named : List (Text × Text)) → named ≡ flat_map named_pair on → AreNamedOn on named
named_as on named is f = (
  λ h. let p = Contains-flat_map_cases named_pair on f (subst (λ xs. Contains xs f) is h) in its_own on p.0.package_id p.0.label f p.1 p.2,
  λ h. subst (λ xs. Contains xs f) (sym is) (Contains-flat_map named_pair on (named_of f.0 f.1) f h (Contains-first f [])),
)
