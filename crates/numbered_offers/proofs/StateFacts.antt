-- What a state keeps when its walk goes on.
use Rattle.std.proofs.Common.{◌≡◌, ℕ, ◌<◌, ◌≤◌, List, length, Option, Some, None, false, refl, sym, subst, ◌∙◌, true≢false}
use Rattle.std.specs.Option.{is_some}
use Rattle.numbered_graph.specs.Graphs.{GraphValue}
use Rattle.numbered_graph.specs.Walks as walks
use Rattle.numbered_graph.specs.Walks.{WalkValue, Shown, opened_of}
use Rattle.numbered_offers.specs.declared.state.State.{State}
use Rattle.numbered_offers.specs.Graphs.{all_links}
use Rattle.numbered_offers.specs.Keeping.{Keeps, run_of}
use Rattle.numbered_offers.specs.States.{edges_of, Stands, Rests, Meets}

pub none_of : {X : Type 0} (r : Option X) → is_some r ≡ false → r ≡ None
none_of None h = refl
none_of (Some x) h = absurd (true≢false h)

module _ (s : State) (walk : WalkValue) (link : ℕ) (graph : walk.graph ≡ s.walk.graph) (direction : walk.direction ≡ s.walk.direction) (starts : walk.starts ≡ s.walk.starts) (shown : walk.shown ≡ s.walk.shown) (bound : opened_of walk ≤ walk.graph.nodes) where
  walk_stands : Stands s → Stands (record s { walk = walk; link = link })
  walk_stands h = record {
    near = h.near;
    dep = h.dep;
    graph = graph ∙ h.graph;
    direction = direction ∙ h.direction;
    keeps = subst (λ (x : List ℕ). Keeps s.direction (edges_of s) x walk.shown (run_of s.asked.items) h.near h.dep) (sym starts) (subst (λ (x : Shown). Keeps s.direction (edges_of s) s.walk.starts x (run_of s.asked.items) h.near h.dep) (sym shown) h.keeps);
    counted = subst (λ (x : Shown). length s.asked.items ≤ length x) (sym shown) h.counted;
    room = h.room;
    bound = subst (λ (g : GraphValue). opened_of walk ≤ g.nodes) (graph ∙ h.graph) bound;
  }

  -- no link is left
  pub walk_rests : Rests s → walk.waiting ≡ None → Rests (record s { walk = walk; link = link })
  unfolding walk_stands
  walk_rests h idle = record { stands = walk_stands h.stands; counts = h.counts; idle = idle }

  -- a link was taken
  pub walk_meets :
      Rests s
      → (number : ℕ)
      → walk.waiting ≡ Some number
      → walks.IsDue s.walk.direction s.walk.graph.links s.walk.starts s.walk.shown number
      → length s.walk.shown < length s.walk.graph.links
      → Meets (record s { walk = walk; link = link }) number
  unfolding walk_stands
  walk_meets h number waiting due left = record {
    stands = walk_stands h.stands;
    counts = h.counts;
    waiting = waiting;
    link_due =
        subst (λ (x : List ℕ). walks.IsDue s.direction (all_links (edges_of s)) x walk.shown number) (sym starts)
        (subst (λ (x : Shown). walks.IsDue s.direction (all_links (edges_of s)) s.walk.starts x number) (sym shown)
        (subst (λ d. walks.IsDue d (all_links (edges_of s)) s.walk.starts s.walk.shown number) h.stands.direction
        (subst (λ (g : GraphValue). walks.IsDue s.walk.direction g.links s.walk.starts s.walk.shown number) h.stands.graph due)));
    left = subst (λ (x : Shown). length x < length (all_links (edges_of s))) (sym shown) (subst (λ (g : GraphValue). length s.walk.shown < length g.links) h.stands.graph left);
  }
