-- A set that is closed under edges is closed under what weak entries demand.
use Rattle.std.proofs.Common.{◌≡◌, ◌↔◌, ℕ, zero, suc, length, Bool, true, false, cond, nat_lt, IsTrue, List, [], ◌∷◌, Contains, Option, Some, refl, sym, subst, ap, ◌∙◌, ◌⊎◌, inl, inr, ⊎_elim, map, arith}
use Rattle.std.specs.Option.{option_map_or}
use Rattle.std.proofs.lemmas.Bool.{and_from, false≢true, cases_Bool, cond-true}
use Rattle.std.proofs.lemmas.Bool.Decides.{nat_tests}
use Rattle.list_facts.proofs.Membership.{Contains-none, Contains-cons_cases}
use Rattle.list_facts.proofs.Quantifiers.{list_any-from_Contains}
use Rattle.numbered_graph.specs.declared.direction.Direction.TheVariants.{Forward}
use Rattle.numbered_offers.specs.declared.offer.Offer.{Offer}
use Rattle.numbered_offers.specs.declared.offer.OfferKind.TheVariants as kind
use Rattle.numbered_offers.specs.Edges as offers
use Rattle.numbered_offers.specs.Least.{IsClosed}
use Rattle.workspace_record.specs.Records.{Line, Text}
use Rattle.workspace_record.specs.Features.{FeatureValue}
use Rattle.workspace_record.specs.declared.choice.PlatformTable.{PlatformTable}
use Rattle.guppy_feature_demands.specs.declared.link_declarations.LinkDeclarations.{LinkDeclarations}
use Rattle.guppy_feature_demands.specs.declared.link_declarations.LinkDeclarations.TheVariants as shown
use Rattle.guppy_feature_demands.specs.Demands.{FormValue, FeatureToBase, NamedFeature, NamedFeatureDepColon, StrongSlash, WeakSlash, DependenciesSection, NumberedValue}
use Rattle.guppy_feature_nodes.specs.Joining.{AreJoined, JoinedValue, Key, ends_of, gives_way_to, join_sort, weight}
use Rattle.guppy_feature_nodes.specs.GraphEdges.{edge_form, edge_lines, edge_value, waits_for}
use Rattle.guppy_feature_nodes.specs.Graphs.{FeatureGraphValue}
use Rattle.guppy_feature_nodes.specs.Lines.{declares, declares_at, is_declared}
use Rattle.guppy_feature_nodes.specs.Offering.{sort_of, weak_sort}
use Rattle.guppy_feature_graph.specs.Links.{link_of}
use Rattle.test_select_feature_laws.specs.Demands.{CountsAt, Waits}
use Rattle.test_select_feature_laws.specs.Verdicts.{HasCountingLine}
use Rattle.test_select_feature_laws.proofs.AlongFacts.{along_lined, along_offer, crossed}
use Rattle.test_select_feature_laws.proofs.FreeFacts.{along_firm}
use Rattle.test_select_feature_laws.proofs.JoinFacts.{GivesWay, JoinsIn, joins_or_gives_way, line_behind}
use Rattle.test_select_feature_laws.proofs.LinedFacts.{weighs_firm}
use Rattle.test_select_feature_laws.proofs.NumberFacts.{forward}

abbrev is_one : ℕ → Bool
is_one zero = false
is_one (suc zero) = true
is_one (suc (suc n)) = false

abbrev above_one : ℕ → Bool
above_one zero = false
above_one (suc zero) = false
above_one (suc (suc n)) = true

-- what joins with a weak entry is a weak entry of its name
pub weak_joins : (form : FormValue) (n : Text) → join_sort form ≡ (2, n) → form ≡ WeakSlash n
weak_joins FeatureToBase n e = absurd (false≢true (ap (λ (q : ℕ × Text). above_one q.0) e))
weak_joins NamedFeature n e = absurd (false≢true (ap (λ (q : ℕ × Text). above_one q.0) e))
weak_joins NamedFeatureDepColon n e = absurd (false≢true (ap (λ (q : ℕ × Text). above_one q.0) e))
weak_joins (StrongSlash name) n e = absurd (false≢true (ap (λ (q : ℕ × Text). above_one q.0) e))
weak_joins (WeakSlash name) n e = ap (λ (q : ℕ × Text). WeakSlash q.1) e
weak_joins DependenciesSection n e = absurd (false≢true (ap (λ (q : ℕ × Text). above_one q.0) e))

-- a weight of the second sort is that of a strong entry of the name
pub weighs_strong : (form : FormValue) (n : Text) → weight form ≡ (1, n) → form ≡ StrongSlash n
weighs_strong FeatureToBase n e = absurd (false≢true (ap (λ (q : ℕ × Text). is_one q.0) e))
weighs_strong NamedFeature n e = absurd (false≢true (ap (λ (q : ℕ × Text). is_one q.0) e))
weighs_strong NamedFeatureDepColon n e = absurd (false≢true (ap (λ (q : ℕ × Text). is_one q.0) e))
weighs_strong (StrongSlash name) n e = ap (λ (q : ℕ × Text). StrongSlash q.1) e
weighs_strong (WeakSlash name) n e = absurd (false≢true (ap (λ (q : ℕ × Text). is_one q.0) e))
weighs_strong DependenciesSection n e = absurd (false≢true (ap (λ (q : ℕ × Text). is_one q.0) e))

-- a weak entry gives way to what leads always, and to a strong one of its name
weak_gives : (n : Text) (w : ℕ × Text) → Contains (gives_way_to (WeakSlash n)) w → ((0, []) ≡ w) ⊎ ((1, n) ≡ w)
weak_gives n w h =
    ⊎_elim (λ e. inl e) (λ r. ⊎_elim (λ e. inr e) (λ s. absurd (Contains-none w s)) (Contains-cons_cases (1, n) [] w r)) (Contains-cons_cases (0, []) ((1, n) ∷ []) w h)

-- where a weak entry is demanded and a strong one of its name with the same ends is, the strong one leads by its lines too
abbrev pub StrongToo : List NumberedValue → Type 0
StrongToo ds =
    (d other : NumberedValue) (n : Text) → Contains ds d → Contains ds other → d.form ≡ WeakSlash n → other.form ≡ StrongSlash n → ends_of other ≡ ends_of d → Contains ds (record { from = d.from; to = d.to; form = StrongSlash n; line = d.line })

module _ (table : PlatformTable) (g : FeatureGraphValue) (ds : List NumberedValue) (joined : List JoinedValue) (joins : AreJoined ds joined) (nodes : List FeatureValue) (values : g.edges ≡ map (edge_value nodes) joined) where
  module _ (accepts : Offer → Bool) (follows : (o : Offer) → IsTrue (accepts o) ↔ HasCountingLine table (link_of g o)) (holds : ℕ → Type 0) (closed : IsClosed Forward (forward g) [] accepts holds) where
    -- along an edge of weak entries the set goes on
    joined_weak : (e : JoinedValue) → Contains joined e → (n : Text) → e.head.form ≡ WeakSlash n → (x : ℕ × ℕ) → Contains e.lines x → (c : CountsAt table g e.head.from x) → Waits g nodes holds e.head.from n c.line → holds e.head.from → holds e.head.to
    joined_weak e listed n weak x h c waits here =
        let dep = waits_for nodes e.head.from n in
        let sort : crossed table g ds joined joins nodes values e ≡ weak_sort Forward (length g.nodes) g.rows.links (edge_value nodes e) dep = ap (λ f. sort_of Forward (length g.nodes) g.rows.links (edge_value nodes e) (edge_form nodes e.head.from f)) weak in
        let behind = subst (λ ls. Contains ls x) (sym (ap (λ f. edge_lines f e.lines) weak)) h in
        let declared : (s : LinkDeclarations) → declares s c.line ≡ true → is_declared g.rows.links s (edge_value nodes e).lines ≡ true = λ s k. list_any-from_Contains (declares_at g.rows.links s) (edge_lines e.head.form e.lines) x behind (ap (λ (o : Option Line). option_map_or (declares s) o false) c.at ∙ k) in
        ⊎_elim
        (λ optional.
        let k : declares shown.Optional c.line ≡ true = ap (λ b. cond b true false) optional in
        let both = waits optional in
        let within : nat_lt dep (length g.nodes) ≡ true = let lt = both.0 in grind (arith, nat_tests, lt) in
        let has = ap (λ s. offers.has_offer s kind.Optional) sort ∙ and_from (nat_lt dep (length g.nodes)) (is_declared g.rows.links shown.Optional (edge_value nodes e).lines) within (declared shown.Optional k) in
        let at : offers.dep_of (crossed table g ds joined joins nodes values e) ≡ dep = ap offers.dep_of sort ∙ cond-true (nat_lt dep (length g.nodes)) dep e.head.from within in
        along_offer table g ds joined joins nodes values accepts follows holds closed e listed kind.Optional has x behind c k (λ w. subst holds (sym at) both.1) here)
        (λ required.
        let k : declares shown.Required c.line ≡ true = ap (λ b. cond b false true) required in
        let has = ap (λ s. offers.has_offer s kind.Required) sort ∙ declared shown.Required k in
        along_offer table g ds joined joins nodes values accepts follows holds closed e listed kind.Required has x behind c k (λ w. absurd (false≢true w)) here)
        (cases_Bool c.line.optional)

    -- along a demand of a weak entry by a line that counts the set goes on
    pub along_weak : StrongToo ds → (d : NumberedValue) → Contains ds d → (n : Text) → d.form ≡ WeakSlash n → (x : ℕ × ℕ) → d.line ≡ Some x → (c : CountsAt table g d.from x) → Waits g nodes holds d.from n c.line → holds d.from → holds d.to
    along_weak strong_too d demanded n weak x is c waits here =
        ⊎_elim
        (λ (j : JoinsIn ds joined joins d).
        let e = j.edge in
        let of_form = weak_joins e.head.form n (ap (λ (q : Key). q.1) j.same ∙ ap join_sort weak) in
        let along = joined_weak e j.listed n of_form x (line_behind ds joined joins e j.listed d demanded j.same x is) in
        subst holds (ap (λ (q : Key). q.0.1) j.same) (subst (λ v. (k : CountsAt table g v x) → Waits g nodes holds v n k.line → holds v → holds e.head.to) (ap (λ (q : Key). q.0.0) j.same) along c waits here))
        (λ (w : GivesWay ds joined joins d).
        let out = ap (λ (q : Key). q.1) w.outweighs in
        ⊎_elim
        (λ e. subst holds (ap (λ (q : Key). q.0.1) w.outweighs) (along_firm g ds joined joins nodes values accepts holds closed w.other w.demanded (weighs_firm w.other.form (out ∙ sym e)) (subst holds (sym (ap (λ (q : Key). q.0.0) w.outweighs)) here)))
        (λ e.
        let strong = strong_too d w.other n demanded w.demanded weak (weighs_strong w.other.form n (out ∙ sym e)) (ap (λ (q : Key). q.0) w.outweighs) in
        along_lined table g ds joined joins nodes values accepts follows holds closed (record { from = d.from; to = d.to; form = StrongSlash n; line = d.line }) strong refl x is c here)
        (weak_gives n w.weight (subst (λ f. Contains (gives_way_to f) w.weight) weak w.gives)))
        (joins_or_gives_way ds joined joins d demanded)
