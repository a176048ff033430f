-- A run in which a verdict on lines was asked about each link.
use Rattle.std.proofs.Common.{◌≡◌, ◌↔◌, ◌∷◌, [], Bool, true, false, Contains, IfOk, IsTrue, Result, Ok, Err, refl, sym, subst, ⊎_elim, true≢false}
use Rattle.list_facts.proofs.Membership.{Contains-none, Contains-cons_cases}
use Rattle.list_facts.proofs.Quantifiers.{All-from_Contains}
use Rattle.numbered_offers.specs.declared.offer.Offer.{Offer}
use Rattle.numbered_offers.specs.Least.{AnswersBy}
use Rattle.numbered_offers.specs.Runs.{Run}
use Rattle.numbered_offers.proofs.LeastFacts.{least_same}
use Rattle.numbered_graph.specs.Sets.{has}
use Rattle.workspace_record.specs.declared.choice.PlatformTable.{PlatformTable}
use Rattle.guppy_package_graph.specs.Directions.{direction_of}
use Rattle.guppy_package_graph.specs.Visits.{Chain}
use Rattle.guppy_feature_nodes.specs.Offering.{offers_of}
use Rattle.guppy_feature_graph.specs.Links.{link_of}
use Rattle.guppy_feature_graph.specs.Queries.{QueryValue}
use Rattle.guppy_feature_graph.specs.Resolves.{IsAlwaysLeast, IsIncluded, IsResolved}
use Rattle.guppy_feature_graph.specs.Sets.{SetValue}
use Rattle.guppy_feature_views.specs.Links.{LinkValue}
use Rattle.test_select_feature_laws.specs.Verdicts.{HasCountingLine, some_counts}
use Rattle.test_select_feature_laws.proofs.Counting.{counting_iff}
use Rattle.test_select_features.specs.Leading.{IsLeastBy}

-- two tests that hold where the same holds
same_test : {P : Type 0} (a b : Bool) → (a ≡ true) ↔ P → (b ≡ true) ↔ P → a ≡ b
same_test true true f g = refl
same_test false false f g = refl
same_test true false f g = absurd (true≢false (sym (g.1 (f.0 refl))))
same_test false true f g = absurd (true≢false (sym (f.1 (g.0 refl))))

-- an answer that says whether a line counts
pub verdict_is : (table : PlatformTable) (l : LinkValue) (b : Bool) → (b ≡ true) ↔ HasCountingLine table l → b ≡ some_counts table l
verdict_is table l b says = same_test b (some_counts table l) says (counting_iff table l)

-- where each step answers by a verdict, and leaves what the answers rest on, the run is answered by the verdict
module _ {F : Type 0} (R : F → Offer → Bool → F → Type 0) (accepts : Offer → Bool) (Rests : F → Type 0) (step : (f : F) (o : Offer) (b : Bool) (t : F) → Rests f → R f o b t → (b ≡ accepts o) × Rests t) where
  each : (run : Run) (f t : F) → Rests f → Chain R f run t → (s : Offer × Bool) → Contains run s → s.1 ≡ accepts s.0
  each [] f t rests chain s h = absurd (Contains-none s h)
  each (o ∷ os) f t rests chain s h =
      let (m, taken, more) = chain in
      let (answer, left) = step f o.0 o.1 m rests taken in
      ⊎_elim (λ e. subst (λ (x : Offer × Bool). x.1 ≡ accepts x.0) e answer) (each os m t left more s) (Contains-cons_cases o os s h)

  pub answered : (run : Run) (f t : F) → Rests f → Chain R f run t → AnswersBy accepts run
  answered run f t rests chain = All-from_Contains (λ (s : Offer × Bool). s.1 ≡ accepts s.0) run (each run f t rests chain)

-- where each step from the closure answers whether a line counts, and leaves the closure as it is, a resolve gives the least set
module _ (table : PlatformTable) (q : QueryValue) {F : Type 0} (R : F → Offer → Bool → F → Type 0) (f : F) (step : (o : Offer) (b : Bool) (t : F) → R f o b t → ((b ≡ true) ↔ HasCountingLine table (link_of q.graph o)) × (t ≡ f)) where
  abbrev accepts : Offer → Bool
  accepts o = some_counts table (link_of q.graph o)

  step_from : (x : F) (o : Offer) (b : Bool) (t : F) → x ≡ f → R x o b t → (b ≡ accepts o) × (t ≡ f)
  step_from x o b t is taken =
      let (says, left) = step o b t (subst (λ y. R y o b t) is taken) in
      (verdict_is table (link_of q.graph o) b says, left)

  pub resolved_least : IsAlwaysLeast → (run : Run) (last : F) (s : SetValue) → s.graph ≡ q.graph → IsResolved q run s.included → Chain R f run last → IsLeastBy table q s
  resolved_least always run last s graph resolved chain =
      let answers : AnswersBy accepts run = answered R accepts (λ x. x ≡ f) step_from run f last refl chain in
      record {
        graph = graph;
        sized = resolved.sized;
        accepts = accepts;
        counting = λ o. counting_iff table (link_of q.graph o);
        least = least_same (direction_of q.direction) (offers_of (direction_of q.direction) q.graph) q.initials accepts (IsIncluded q run) (λ v. IsTrue (has s.included v)) resolved.includes (always q (some_counts table) run resolved.legal answers);
      }

  pub each_resolved_least : {E : Type 0} → IsAlwaysLeast → (r : Result SetValue E) → IfOk r (λ s. s.graph ≡ q.graph) → IfOk r (λ s. (run : Run) × (last : F) × IsResolved q run s.included × Chain R f run last) → IfOk r (IsLeastBy table q)
  each_resolved_least always (Ok s) graph (run, last, resolved, chain) = resolved_least always run last s graph resolved chain
  each_resolved_least always (Err e) graph ok = graph
