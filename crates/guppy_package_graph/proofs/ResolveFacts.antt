-- One step more of a resolve.
pub use Rattle.numbered_graph.proofs.ChoiceFacts.{Chain-push}
use Rattle.std.proofs.Common.{◌≡◌, ◌↔◌, ℕ, Bool, List, [], ◌∷◌, ◌++◌, None, Some, length, refl, sym, subst, ap, ◌∙◌, IsTrue}
use Rattle.std.proofs.lemmas.List.{map-append}
use Rattle.numbered_graph.specs.declared.direction.Direction.{Direction}
use Rattle.numbered_graph.specs.Graphs.{GraphValue}
use Rattle.numbered_graph.specs.Sets.{has}
use Rattle.numbered_graph.specs.Walks.{Shown, WalkValue, IsIncluded, IsShowing}
use Rattle.guppy_package_graph.specs.Directions.{direction_of}
use Rattle.guppy_package_graph.specs.Queries.{QueryValue, places_of}
use Rattle.guppy_package_graph.specs.Resolves.{IsResolved, shown_to}
use Rattle.guppy_package_graph.specs.Visits.{Chain, SameSteps}

-- the walk of a query that waits for no answer
pub record IsWalkOf (q : QueryValue) (w : WalkValue) : Type 0 where
  pub graph : w.graph ≡ places_of q.graph
  pub direction : w.direction ≡ direction_of q.direction
  pub starts : w.starts ≡ q.initials
  pub idle : w.waiting ≡ None

pub SameSteps-refl : {S X : Type 0} (P : S → X → Bool → S → Type 0) → SameSteps P P
SameSteps-refl P = record { there = λ s x b t h. h; back = λ s x b t h. h }

pub SameSteps-trans : {S X : Type 0} {P Q R : S → X → Bool → S → Type 0} → SameSteps P Q → SameSteps Q R → SameSteps P R
SameSteps-trans p q = record { there = λ s x b t h. q.there s x b t (p.there s x b t h); back = λ s x b t h. p.back s x b t (q.back s x b t h) }

-- one link more was shown to a visitor
pub shown_more : (R : List ℕ → QueryValue × ℕ → Bool → List ℕ → Type 0) (q : QueryValue) (shown : Shown) (s m t : List ℕ) (j : ℕ) (b : Bool) → Chain R s (shown_to q shown) m → R m (q, j) b t → Chain R s (shown_to q (shown ++ (j, b) ∷ [])) t
shown_more R q shown s m t j b chain step =
    subst (λ xs. Chain R s xs t) (sym (map-append (λ (o : ℕ × Bool). ((q, o.0), o.1)) shown ((j, b) ∷ []))) (Chain-push R (shown_to q shown) s m t (q, j) b chain step)

module _ (q : QueryValue) where
  -- a link was taken and answered
  pub walk_more : (w taken answered : WalkValue) (j : ℕ) (b : Bool) → IsWalkOf q w → taken ≡ record w { waiting = Some j; looked = taken.looked } → answered ≡ record taken { waiting = None; shown = taken.shown ++ (j, b) ∷ [] } → IsWalkOf q answered
  walk_more w taken answered j b of_query is_taken is_answered = record {
    graph = ap (λ (v : WalkValue). v.graph) is_answered ∙ ap (λ (v : WalkValue). v.graph) is_taken ∙ of_query.graph;
    direction = ap (λ (v : WalkValue). v.direction) is_answered ∙ ap (λ (v : WalkValue). v.direction) is_taken ∙ of_query.direction;
    starts = ap (λ (v : WalkValue). v.starts) is_answered ∙ ap (λ (v : WalkValue). v.starts) is_taken ∙ of_query.starts;
    idle = ap (λ (v : WalkValue). v.waiting) is_answered;
  }

  pub shown_then : (w taken answered : WalkValue) (j : ℕ) (b : Bool) → taken ≡ record w { waiting = Some j; looked = taken.looked } → answered ≡ record taken { waiting = None; shown = taken.shown ++ (j, b) ∷ [] } → answered.shown ≡ w.shown ++ (j, b) ∷ []
  shown_then w taken answered j b is_taken is_answered = ap (λ (v : WalkValue). v.shown) is_answered ∙ ap (λ (v : WalkValue). v.shown ++ (j, b) ∷ []) is_taken

  by_fields : (P : Direction → GraphValue → List ℕ → Type 0) (w : WalkValue) → IsWalkOf q w → P w.direction w.graph w.starts → P (direction_of q.direction) (places_of q.graph) q.initials
  by_fields P w o h = subst (λ s. P (direction_of q.direction) (places_of q.graph) s) o.starts (subst (λ g. P (direction_of q.direction) g w.starts) o.graph (subst (λ d. P d w.graph w.starts) o.direction h))

  -- all links were shown
  pub resolved : (w ended : WalkValue) (included : List Bool) → IsWalkOf q w → ended ≡ record w { waiting = None; looked = ended.looked } → IsShowing w.direction w.graph.links w.starts w.shown → length included ≡ ended.graph.nodes → ((v : ℕ) → IsTrue (has included v) ↔ IsIncluded ended.direction ended.graph.links ended.starts ended.shown v) → IsResolved q w.shown included
  resolved w ended included of_query is_ended shows sized includes = record {
    shows = by_fields (λ d g s. IsShowing d g.links s w.shown) w of_query shows;
    sized = sized ∙ ap (λ (v : WalkValue). v.graph.nodes) is_ended ∙ ap (λ (g : GraphValue). g.nodes) of_query.graph;
    includes = λ v. by_fields (λ d g s. IsTrue (has included v) ↔ IsIncluded d g.links s w.shown v) w of_query (subst (λ (e : WalkValue). IsTrue (has included v) ↔ IsIncluded e.direction e.graph.links e.starts e.shown v) is_ended (includes v));
  }
