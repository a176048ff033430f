-- A set that is closed under what is demanded is closed under edges.
use Rattle.std.proofs.Common.{◌≡◌, ◌↔◌, ℕ, ◌<◌, length, get_or, Bool, true, cond, nat_lt, IsTrue, List, [], Contains, None, is_some, refl, sym, subst, ap, ◌∙◌, ◌⊎◌, inl, inr, ⊎_elim, map}
use Rattle.std.proofs.lemmas.Bool.{and_parts, cond-true, false≢true}
use Rattle.std.proofs.lemmas.List.{get_or-map, length-map}
use Rattle.std.proofs.lemmas.List.Elements.{Contains-get_or}
use Rattle.list_facts.proofs.Membership.{Contains-none}
use Rattle.numbered_graph.specs.declared.direction.Direction.TheVariants.{Forward}
use Rattle.numbered_offers.specs.declared.edge.Edge.{Edge}
use Rattle.numbered_offers.specs.declared.edge.EdgeSort.{EdgeSort}
use Rattle.numbered_offers.specs.declared.offer.Offer.{Offer}
use Rattle.numbered_offers.specs.declared.offer.OfferKind.{OfferKind}
use Rattle.numbered_offers.specs.declared.offer.OfferKind.TheVariants as kind
use Rattle.numbered_offers.specs.Edges as offers
use Rattle.numbered_offers.specs.Least.{IsClosed}
use Rattle.numbered_graph.specs.Links.{near_at, far_at}
use Rattle.workspace_record.specs.Records.{Line, Text}
use Rattle.workspace_record.specs.Features.{FeatureValue}
use Rattle.workspace_record.specs.declared.choice.PlatformTable.{PlatformTable}
use Rattle.feature_account_rules.specs.Lines.{counts_for}
use Rattle.guppy_package_table.specs.Tables.{member_of}
use Rattle.guppy_feature_demands.specs.Demands.{FormValue, FeatureToBase, NamedFeature, NamedFeatureDepColon, StrongSlash, WeakSlash, DependenciesSection, NumberedValue}
use Rattle.guppy_feature_nodes.specs.Joining.{AreJoined, JoinedValue, Key, join_sort}
use Rattle.guppy_feature_nodes.specs.GraphEdges.{EdgeValue, ToBase, edge_at, edge_form, edge_lines, edge_value, waits_for}
use Rattle.guppy_feature_nodes.specs.Graphs.{FeatureGraphValue, feature_at}
use Rattle.guppy_feature_nodes.specs.Lines.{declares, is_declared}
use Rattle.guppy_feature_demands.specs.declared.link_declarations.LinkDeclarations.TheVariants as shown
use Rattle.guppy_feature_demands.specs.Kinds.{has_optional, has_required}
use Rattle.guppy_feature_nodes.specs.Offering.{sort_of, weak_sort}
use Rattle.guppy_feature_nodes.proofs.EdgeFacts.{below}
use Rattle.guppy_feature_graph.specs.Links.{declarations_of, link_of}
use Rattle.test_select_feature_laws.specs.Demands.{AreDemandsClosed, CountsAt, Waits, is_firm, is_lined}
use Rattle.test_select_feature_laws.specs.Verdicts.{HasCountingLine}
use Rattle.test_select_feature_laws.proofs.AlongFacts.{crossed, lined_lines}
use Rattle.test_select_feature_laws.proofs.JoinFacts.{head_demanded, line_from}
use Rattle.test_select_feature_laws.proofs.LinedFacts.{lined_joins}
use Rattle.test_select_feature_laws.proofs.NumberFacts.{as_many, forward, offered_as, offered_at, near_is, far_is}
use Rattle.test_select_feature_laws.proofs.PlaceFacts.{counting_place}
use Rattle.test_select_feature_laws.proofs.WeakFacts.{weak_joins}

-- a form leads always, by lines, or by lines that may wait
sort_cases : (form : FormValue) → (is_firm form ≡ true) ⊎ ((is_lined form ≡ true) ⊎ ((n : Text) × (form ≡ WeakSlash n)))
sort_cases FeatureToBase = inl refl
sort_cases NamedFeature = inl refl
sort_cases NamedFeatureDepColon = inl refl
sort_cases (StrongSlash name) = inr (inl refl)
sort_cases (WeakSlash name) = inr (inr (name, refl))
sort_cases DependenciesSection = inr (inl refl)

-- no lines stand behind what leads always
firm_lines : (form : FormValue) → is_firm form ≡ true → (lines : List (ℕ × ℕ)) → edge_lines form lines ≡ []
firm_lines FeatureToBase h lines = refl
firm_lines NamedFeature h lines = refl
firm_lines NamedFeatureDepColon h lines = refl
firm_lines (StrongSlash name) h lines = absurd cc
firm_lines (WeakSlash name) h lines = absurd cc
firm_lines DependenciesSection h lines = absurd cc

module _ (table : PlatformTable) (g : FeatureGraphValue) (ds : List NumberedValue) (joined : List JoinedValue) (joins : AreJoined ds joined) (nodes : List FeatureValue) (values : g.edges ≡ map (edge_value nodes) joined) where
  -- an edge with a number is joined
  joined_at : (k : ℕ) → k < length g.edges → (e : JoinedValue) × Contains joined e × (edge_at g.edges k ≡ edge_value nodes e)
  joined_at k lt =
      let none : JoinedValue = record { head = record { from = 0; to = 0; form = FeatureToBase; line = None }; lines = [] } in
      let edge : EdgeValue = record { from = 0; to = 0; form = ToBase; lines = [] } in
      let within = subst (λ n. k < n) (ap length values ∙ length-map joined (edge_value nodes)) lt in
      (get_or joined k none, Contains-get_or joined k none within, ap (λ es. get_or es k edge) values ∙ get_or-map (edge_value nodes) joined k none edge within)

  -- what is crossed always leads always
  free_firm : (x : EdgeValue) (from : ℕ) (form : FormValue) → offers.is_free (sort_of Forward (length g.nodes) g.rows.links x (edge_form nodes from form)) ≡ true → is_firm form ≡ true
  free_firm x from FeatureToBase h = refl
  free_firm x from NamedFeature h = refl
  free_firm x from NamedFeatureDepColon h = refl
  free_firm x from (StrongSlash name) h = absurd cc
  free_firm x from (WeakSlash name) h = absurd cc
  free_firm x from DependenciesSection h = absurd cc

  module _ (holds : ℕ → Type 0) (closed : AreDemandsClosed table g ds nodes holds) where
    abbrev sort : JoinedValue → EdgeSort
    sort = crossed table g ds joined joins nodes values

    -- along an edge that leads by lines, by one that counts
    lined_edge : (e : JoinedValue) → Contains joined e → is_lined e.head.form ≡ true → (x : ℕ × ℕ) → Contains (edge_lines e.head.form e.lines) x → CountsAt table g e.head.from x → holds e.head.from → holds e.head.to
    lined_edge e listed lined x behind c here =
        let (d, demanded, same, is) = line_from ds joined joins e listed x (subst (λ ls. Contains ls x) (lined_lines e.head.form lined e.lines) behind) in
        let from : e.head.from ≡ d.from = ap (λ (q : Key). q.0.0) same in
        let leads = lined_joins d.form e.head.form (sym (ap (λ (q : Key). q.1) same)) lined in
        subst holds (sym (ap (λ (q : Key). q.0.1) same)) (closed.lined d demanded leads x is (subst (λ n. CountsAt table g n x) from c) (subst holds from here))

    -- where an optional line is declared of an edge of weak entries, the set has what it waits for
    waits_there : (e : JoinedValue) (n : Text) → e.head.form ≡ WeakSlash n → (k : OfferKind) → offers.has_offer (sort e) k ≡ true → (line : Line) → declares (declarations_of k) line ≡ true → (offers.waits Forward k ≡ true → holds (offers.dep_of (sort e))) → Waits g nodes holds e.head.from n line
    waits_there e n weak k has line declared deps optional = by k (ap (λ s. offers.has_offer s k) (sym sorted) ∙ has) (ap (λ b. cond b (has_optional (declarations_of k)) (has_required (declarations_of k))) (sym optional) ∙ declared) deps
      where
        dep : ℕ
        dep = waits_for nodes e.head.from n

        sorted : sort e ≡ weak_sort Forward (length g.nodes) g.rows.links (edge_value nodes e) dep
        sorted = ap (λ f. sort_of Forward (length g.nodes) g.rows.links (edge_value nodes e) (edge_form nodes e.head.from f)) weak

        by : (k : OfferKind) → offers.has_offer (weak_sort Forward (length g.nodes) g.rows.links (edge_value nodes e) dep) k ≡ true → has_optional (declarations_of k) ≡ true → (offers.waits Forward k ≡ true → holds (offers.dep_of (sort e))) → (dep < length g.nodes) × holds dep
        by kind.Unsplit h o d = absurd (false≢true h)
        by kind.Required h o d = absurd (false≢true o)
        by kind.Optional h o d =
            let there = (and_parts (nat_lt dep (length g.nodes)) (is_declared g.rows.links shown.Optional (edge_value nodes e).lines) h).0 in
            (below dep (length g.nodes) there, subst holds (ap offers.dep_of sorted ∙ cond-true (nat_lt dep (length g.nodes)) dep e.head.from there) (d refl))

    -- along an edge of weak entries
    weak_edge : (e : JoinedValue) → Contains joined e → (n : Text) → e.head.form ≡ WeakSlash n → (x : ℕ × ℕ) → Contains (edge_lines e.head.form e.lines) x → (c : CountsAt table g e.head.from x) → Waits g nodes holds e.head.from n c.line → holds e.head.from → holds e.head.to
    weak_edge e listed n weak x behind c waits here =
        let (d, demanded, same, is) = line_from ds joined joins e listed x (subst (λ f. Contains (edge_lines f e.lines) x) weak behind) in
        let from : e.head.from ≡ d.from = ap (λ (q : Key). q.0.0) same in
        let leads = weak_joins d.form n (sym (ap (λ (q : Key). q.1) same) ∙ ap join_sort weak) in
        let counts : CountsAt table g d.from x = record { line = c.line; at = c.at; counts_by_kind = ap (λ v. counts_for (is_some (member_of g.rows (feature_at g v).package_id)) c.line.kind) (sym from) ∙ c.counts_by_kind; in_force = c.in_force } in
        subst holds (sym (ap (λ (q : Key). q.0.1) same)) (closed.weak d demanded n leads x is counts (subst (λ v. Waits g nodes holds v n c.line) from waits) (subst holds from here))

    module _ (accepts : Offer → Bool) (follows : (o : Offer) → IsTrue (accepts o) ↔ HasCountingLine table (link_of g o)) where
      -- along an offer that is accepted
      offered_edge : (e : JoinedValue) → Contains joined e → (k : OfferKind) → offers.has_offer (sort e) k ≡ true → (x : ℕ × ℕ) → Contains (edge_lines e.head.form e.lines) x → (c : CountsAt table g e.head.from x) → declares (declarations_of k) c.line ≡ true → (offers.waits Forward k ≡ true → holds (offers.dep_of (sort e))) → holds e.head.from → holds e.head.to
      offered_edge e listed k has x behind c declared deps here =
          ⊎_elim
          (λ firm. absurd (Contains-none x (subst (λ ls. Contains ls x) (firm_lines e.head.form firm e.lines) behind)))
          (λ r. ⊎_elim (λ lined. lined_edge e listed lined x behind c here) (λ w. weak_edge e listed w.0 w.1 x behind c (waits_there e w.0 w.1 k has c.line declared deps) here) r)
          (sort_cases e.head.form)

      pub edges_closed : IsClosed Forward (forward g) [] accepts holds
      edges_closed = record { begins = λ v h. absurd (Contains-none v h); free = free; offered = offered }
        where
          free : (k : ℕ) → k < length (forward g) → offers.is_free_at (forward g) k ≡ true → holds (near_at Forward (offers.edge_links (forward g)) k) → holds (far_at Forward (offers.edge_links (forward g)) k)
          free k within is_free here =
              let lt = subst (λ n. k < n) (as_many g) within in
              let (e, listed, is) = joined_at k lt in
              let firm = free_firm (edge_value nodes e) e.head.from e.head.form (sym (ap (λ (y : Edge). offers.is_free y.sort) (offered_at g k lt ∙ ap (offered_as g) is)) ∙ is_free) in
              subst holds (sym (far_is g k lt ∙ ap (λ (y : EdgeValue). y.to) is)) (closed.firm e.head (head_demanded ds joined joins e listed) firm (subst holds (near_is g k lt ∙ ap (λ (y : EdgeValue). y.from) is) here))

          offered : (o : Offer) → offers.is_offer (forward g) o ≡ true → accepts o ≡ true → holds (near_at Forward (offers.edge_links (forward g)) o.edge) → (offers.waits Forward o.kind ≡ true → holds (offers.dep_at (forward g) o.edge)) → holds (far_at Forward (offers.edge_links (forward g)) o.edge)
          offered o is_offer accepted here deps =
              let both = and_parts (nat_lt o.edge (length (forward g))) (offers.has_offer (offers.edge_at (forward g) o.edge).sort o.kind) is_offer in
              let lt = subst (λ n. o.edge < n) (as_many g) (below o.edge (length (forward g)) both.0) in
              let (e, listed, is) = joined_at o.edge lt in
              let as_offered = offered_at g o.edge lt ∙ ap (offered_as g) is in
              let from : (edge_at g.edges o.edge).from ≡ e.head.from = ap (λ (y : EdgeValue). y.from) is in
              let has = sym (ap (λ (y : Edge). offers.has_offer y.sort o.kind) as_offered) ∙ both.1 in
              let place = counting_place table (link_of g o) ((follows o).0 accepted) in
              let behind = subst (λ (y : EdgeValue). Contains y.lines place.place) is place.behind in
              let counts : CountsAt table g e.head.from place.place = record { line = place.line; at = place.at; counts_by_kind = ap (λ v. counts_for (is_some (member_of g.rows (feature_at g v).package_id)) place.line.kind) (sym from) ∙ place.counts_by_kind; in_force = place.in_force } in
              subst holds (sym (far_is g o.edge lt ∙ ap (λ (y : EdgeValue). y.to) is)) (offered_edge e listed o.kind has place.place behind counts place.declared (λ w. subst holds (ap (λ (y : Edge). offers.dep_of y.sort) as_offered) (deps w)) (subst holds (near_is g o.edge lt ∙ from) here))
