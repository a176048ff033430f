-- A set that is closed under edges is closed under what is demanded by lines that count.
use Rattle.std.proofs.Common.{◌≡◌, ◌↔◌, ℕ, length, Bool, true, false, cond, nat_lt, IsTrue, List, [], Contains, Some, is_some, refl, sym, subst, ap, ◌∙◌, ⊎_elim, map, arith}
use Rattle.std.proofs.lemmas.Bool.{and_from, false≢true}
use Rattle.std.proofs.lemmas.Bool.Decides.{nat_tests}
use Rattle.list_facts.proofs.Membership.{Contains-none, Contains-cons_cases}
use Rattle.numbered_graph.specs.declared.direction.Direction.TheVariants.{Forward}
use Rattle.numbered_offers.specs.declared.edge.Edge.{Edge}
use Rattle.numbered_offers.specs.declared.edge.EdgeSort.{EdgeSort}
use Rattle.numbered_offers.specs.declared.offer.Offer.{Offer}
use Rattle.numbered_offers.specs.declared.offer.OfferKind.{OfferKind}
use Rattle.numbered_offers.specs.declared.offer.OfferKind.TheVariants.{Unsplit}
use Rattle.numbered_offers.specs.Edges as offers
use Rattle.numbered_offers.specs.Least.{IsClosed}
use Rattle.workspace_record.specs.Records.{Text}
use Rattle.workspace_record.specs.Features.{FeatureValue}
use Rattle.workspace_record.specs.declared.choice.PlatformTable.{PlatformTable}
use Rattle.feature_account_rules.specs.Lines.{counts_for}
use Rattle.guppy_package_table.specs.Tables.{member_of}
use Rattle.guppy_feature_demands.specs.Demands.{FormValue, FeatureToBase, NamedFeature, NamedFeatureDepColon, StrongSlash, WeakSlash, DependenciesSection, NumberedValue}
use Rattle.guppy_feature_nodes.specs.Joining.{AreJoined, JoinedValue, Key, gives_way_to}
use Rattle.guppy_feature_nodes.specs.GraphEdges.{EdgeValue, edge_form, edge_lines, edge_value}
use Rattle.guppy_feature_nodes.specs.Graphs.{FeatureGraphValue, feature_at}
use Rattle.guppy_feature_nodes.specs.Lines.{declares}
use Rattle.guppy_feature_nodes.specs.Offering.{sort_of}
use Rattle.guppy_feature_graph.specs.Links.{declarations_of, link_of}
use Rattle.test_select_feature_laws.specs.Demands.{CountsAt, is_lined}
use Rattle.test_select_feature_laws.specs.Verdicts.{HasCountingLine}
use Rattle.test_select_feature_laws.proofs.FreeFacts.{along_firm}
use Rattle.test_select_feature_laws.proofs.JoinFacts.{GivesWay, JoinsIn, joins_or_gives_way, line_behind}
use Rattle.test_select_feature_laws.proofs.LinedFacts.{lined_joins, weighs_firm}
use Rattle.test_select_feature_laws.proofs.NumberFacts.{as_many, forward, offered_as, offered_at, near_is, far_is, number_of_edge}
use Rattle.test_select_feature_laws.proofs.PlaceFacts.{counting_line}

-- what leads by lines of whichever sort gives way to what leads always alone
lined_gives : (form : FormValue) → is_lined form ≡ true → (w : ℕ × Text) → Contains (gives_way_to form) w → (0, []) ≡ w
lined_gives FeatureToBase h w k = absurd cc
lined_gives NamedFeature h w k = absurd cc
lined_gives NamedFeatureDepColon h w k = absurd cc
lined_gives (StrongSlash name) h w k = ⊎_elim (λ e. e) (λ r. absurd (Contains-none w r)) (Contains-cons_cases (0, []) [] w k)
lined_gives (WeakSlash name) h w k = absurd cc
lined_gives DependenciesSection h w k = ⊎_elim (λ e. e) (λ r. absurd (Contains-none w r)) (Contains-cons_cases (0, []) [] w k)

-- the lines behind such an edge are those of the demands
pub lined_lines : (form : FormValue) → is_lined form ≡ true → (lines : List (ℕ × ℕ)) → edge_lines form lines ≡ lines
lined_lines FeatureToBase h lines = absurd cc
lined_lines NamedFeature h lines = absurd cc
lined_lines NamedFeatureDepColon h lines = absurd cc
lined_lines (StrongSlash name) h lines = refl
lined_lines (WeakSlash name) h lines = absurd cc
lined_lines DependenciesSection h lines = refl

either_way : (b : Bool) → cond b true true ≡ true
either_way true = refl
either_way false = refl

module _ (table : PlatformTable) (g : FeatureGraphValue) (ds : List NumberedValue) (joined : List JoinedValue) (joins : AreJoined ds joined) (nodes : List FeatureValue) (values : g.edges ≡ map (edge_value nodes) joined) where
  -- when the edge is crossed
  abbrev pub crossed : JoinedValue → EdgeSort
  crossed e = sort_of Forward (length g.nodes) g.rows.links (edge_value nodes e) (edge_form nodes e.head.from e.head.form)

  -- an edge of such a form has one offer
  lined_offer : (x : EdgeValue) (from : ℕ) (form : FormValue) → is_lined form ≡ true → offers.has_offer (sort_of Forward (length g.nodes) g.rows.links x (edge_form nodes from form)) Unsplit ≡ true
  lined_offer x from FeatureToBase h = absurd cc
  lined_offer x from NamedFeature h = absurd cc
  lined_offer x from NamedFeatureDepColon h = absurd cc
  lined_offer x from (StrongSlash name) h = refl
  lined_offer x from (WeakSlash name) h = absurd cc
  lined_offer x from DependenciesSection h = refl

  module _ (accepts : Offer → Bool) (follows : (o : Offer) → IsTrue (accepts o) ↔ HasCountingLine table (link_of g o)) (holds : ℕ → Type 0) (closed : IsClosed Forward (forward g) [] accepts holds) where
    -- along an edge that is offered the set goes on, where a line behind it counts and is declared so
    pub along_offer : (e : JoinedValue) → Contains joined e → (kind : OfferKind) → offers.has_offer (crossed e) kind ≡ true → (x : ℕ × ℕ) → Contains (edge_lines e.head.form e.lines) x → (c : CountsAt table g e.head.from x) → declares (declarations_of kind) c.line ≡ true → (offers.waits Forward kind ≡ true → holds (offers.dep_of (crossed e))) → holds e.head.from → holds e.head.to
    along_offer e listed kind has x behind c declared waits here =
        let (k, lt, is) = number_of_edge g nodes joined values e listed in
        let o : Offer = record { edge = k; kind = kind } in
        let at = offered_at g k lt ∙ ap (offered_as g) is in
        let from = ap (λ (y : EdgeValue). y.from) is in
        let within : nat_lt k (length (forward g)) ≡ true = subst (λ n. nat_lt k n ≡ true) (sym (as_many g)) (grind (arith, nat_tests, lt)) in
        let offered = and_from (nat_lt k (length (forward g))) (offers.has_offer (offers.edge_at (forward g) k).sort kind) within (ap (λ (y : Edge). offers.has_offer y.sort kind) at ∙ has) in
        let counting = counting_line table (link_of g o) (record {
          place = x;
          line = c.line;
          behind = subst (λ (y : EdgeValue). Contains y.lines x) (sym is) behind;
          at = c.at;
          declared = declared;
          counts_by_kind = subst (λ n. counts_for (is_some (member_of g.rows (feature_at g n).package_id)) c.line.kind ≡ true) (sym from) c.counts_by_kind;
          in_force = c.in_force;
        }) in
        let near = near_is g k lt ∙ from in
        let far = far_is g k lt ∙ ap (λ (y : EdgeValue). y.to) is in
        subst holds far (closed.offered o offered ((follows o).1 counting) (subst holds (sym near) here) (λ w. subst holds (sym (ap (λ (y : Edge). offers.dep_of y.sort) at)) (waits w)))

    -- along a demand by a line of whichever sort that counts the set goes on
    pub along_lined : (d : NumberedValue) → Contains ds d → is_lined d.form ≡ true → (x : ℕ × ℕ) → d.line ≡ Some x → CountsAt table g d.from x → holds d.from → holds d.to
    along_lined d demanded lined x is c here =
        ⊎_elim
        (λ (j : JoinsIn ds joined joins d).
        let e = j.edge in
        let from = ap (λ (q : Key). q.0.0) j.same in
        let of_form = lined_joins e.head.form d.form (ap (λ (q : Key). q.1) j.same) lined in
        let behind = subst (λ ls. Contains ls x) (sym (lined_lines e.head.form of_form e.lines)) (line_behind ds joined joins e j.listed d demanded j.same x is) in
        let counts = subst (λ n. CountsAt table g n x) (sym from) c in
        subst holds (ap (λ (q : Key). q.0.1) j.same) (along_offer e j.listed Unsplit (lined_offer (edge_value nodes e) e.head.from e.head.form of_form) x behind counts (either_way counts.line.optional) (λ w. absurd (false≢true w)) (subst holds (sym from) here)))
        (λ (w : GivesWay ds joined joins d).
        let firm = weighs_firm w.other.form (ap (λ (q : Key). q.1) w.outweighs ∙ sym (lined_gives d.form lined w.weight w.gives)) in
        subst holds (ap (λ (q : Key). q.0.1) w.outweighs) (along_firm g ds joined joins nodes values accepts holds closed w.other w.demanded firm (subst holds (sym (ap (λ (q : Key). q.0.0) w.outweighs)) here)))
        (joins_or_gives_way ds joined joins d demanded)
