-- A set that is closed under edges is closed under what is demanded always.
use Rattle.std.proofs.Common.{◌≡◌, ℕ, zero, suc, ◌<◌, length, Bool, true, false, List, [], Contains, refl, sym, subst, ap, ◌∙◌, ⊎_elim, map}
use Rattle.list_facts.proofs.Membership.{Contains-none}
use Rattle.numbered_graph.specs.declared.direction.Direction.TheVariants.{Forward}
use Rattle.numbered_offers.specs.declared.offer.Offer.{Offer}
use Rattle.numbered_offers.specs.declared.edge.Edge.{Edge}
use Rattle.numbered_offers.specs.Edges as offers
use Rattle.numbered_offers.specs.Least.{IsClosed}
use Rattle.workspace_record.specs.Records.{Text}
use Rattle.workspace_record.specs.Features.{FeatureValue}
use Rattle.guppy_feature_demands.specs.Demands.{FormValue, FeatureToBase, NamedFeature, NamedFeatureDepColon, StrongSlash, WeakSlash, DependenciesSection, NumberedValue}
use Rattle.guppy_feature_nodes.specs.Joining.{AreJoined, JoinedValue, Key, gives_way_to, join_sort}
use Rattle.guppy_feature_nodes.specs.GraphEdges.{EdgeValue, edge_form, edge_value}
use Rattle.guppy_feature_nodes.specs.Graphs.{FeatureGraphValue}
use Rattle.guppy_feature_nodes.specs.Offering.{sort_of}
use Rattle.test_select_feature_laws.specs.Demands.{is_firm}
use Rattle.test_select_feature_laws.proofs.JoinFacts.{GivesWay, JoinsIn, joins_or_gives_way}
use Rattle.test_select_feature_laws.proofs.NumberFacts.{as_many, forward, offered_as, offered_at, near_is, far_is, number_of_edge}

-- what leads always gives way to nothing
firm_stays : (form : FormValue) → is_firm form ≡ true → gives_way_to form ≡ []
firm_stays FeatureToBase h = refl
firm_stays NamedFeature h = refl
firm_stays NamedFeatureDepColon h = refl
firm_stays (StrongSlash name) h = absurd cc
firm_stays (WeakSlash name) h = absurd cc
firm_stays DependenciesSection h = absurd cc

-- a sort is that of what leads always
abbrev pub firm_sort : ℕ → Bool
firm_sort zero = true
firm_sort (suc n) = false

firm_by_sort : (form : FormValue) → firm_sort (join_sort form).0 ≡ is_firm form
firm_by_sort FeatureToBase = refl
firm_by_sort NamedFeature = refl
firm_by_sort NamedFeatureDepColon = refl
firm_by_sort (StrongSlash name) = refl
firm_by_sort (WeakSlash name) = refl
firm_by_sort DependenciesSection = refl

-- what joins with what leads always leads always
pub firm_joins : (a b : FormValue) → join_sort a ≡ join_sort b → is_firm b ≡ true → is_firm a ≡ true
firm_joins a b e h = sym (firm_by_sort a) ∙ ap (λ (q : ℕ × Text). firm_sort q.0) e ∙ firm_by_sort b ∙ h

module _ (g : FeatureGraphValue) (ds : List NumberedValue) (joined : List JoinedValue) (joins : AreJoined ds joined) (nodes : List FeatureValue) (values : g.edges ≡ map (edge_value nodes) joined) where
  -- an edge of such a form is crossed always
  firm_free : (from : ℕ) (x : EdgeValue) (form : FormValue) → is_firm form ≡ true → offers.is_free (sort_of Forward (length g.nodes) g.rows.links x (edge_form nodes from form)) ≡ true
  firm_free from x FeatureToBase h = refl
  firm_free from x NamedFeature h = refl
  firm_free from x NamedFeatureDepColon h = refl
  firm_free from x (StrongSlash name) h = absurd cc
  firm_free from x (WeakSlash name) h = absurd cc
  firm_free from x DependenciesSection h = absurd cc

  module _ (accepts : Offer → Bool) (holds : ℕ → Type 0) (closed : IsClosed Forward (forward g) [] accepts holds) where
    -- along an edge that is crossed always the set goes on
    along_free : (e : JoinedValue) → Contains joined e → is_firm e.head.form ≡ true → holds e.head.from → holds e.head.to
    along_free e listed firm here =
        let (k, lt, is) = number_of_edge g nodes joined values e listed in
        let free : offers.is_free_at (forward g) k ≡ true = ap (λ (x : Edge). offers.is_free x.sort) (offered_at g k lt ∙ ap (offered_as g) is) ∙ firm_free e.head.from (edge_value nodes e) e.head.form firm in
        let near = near_is g k lt ∙ ap (λ (x : EdgeValue). x.from) is in
        let far = far_is g k lt ∙ ap (λ (x : EdgeValue). x.to) is in
        subst holds far (closed.free k (subst (λ n. k < n) (sym (as_many g)) lt) free (subst holds (sym near) here))

    -- along a demand that leads always the set goes on
    pub along_firm : (d : NumberedValue) → Contains ds d → is_firm d.form ≡ true → holds d.from → holds d.to
    along_firm d demanded firm here =
        ⊎_elim
        (λ (j : JoinsIn ds joined joins d).
        let head = firm_joins j.edge.head.form d.form (ap (λ (q : Key). q.1) j.same) firm in
        subst holds (ap (λ (q : Key). q.0.1) j.same) (along_free j.edge j.listed head (subst holds (sym (ap (λ (q : Key). q.0.0) j.same)) here)))
        (λ (w : GivesWay ds joined joins d). absurd (Contains-none w.weight (subst (λ ws. Contains ws w.weight) (firm_stays d.form firm) w.gives)))
        (joins_or_gives_way ds joined joins d demanded)
