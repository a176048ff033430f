-- What is seen of a walk over offers, and what it keeps.
use Rattle.std.specs.Prelude.{◌≡◌, ℕ, Bool, true, List, length, Option, Some, None}
use Rattle.numbered_graph.specs.declared.direction.Direction.{Direction}
use Rattle.numbered_graph.specs.Walks.{IsShowing, opened_of}
use Rattle.numbered_offers.specs.declared.due.Due.{Due}
use Rattle.numbered_offers.specs.declared.offer_walk.OfferWalk.TheInside.{Inside}
use Rattle.numbered_offers.specs.Graphs.{OfferGraphValue, all_links}
use Rattle.numbered_offers.specs.Keeping.{run_of}
use Rattle.numbered_offers.specs.Runs.{Run}
use Rattle.numbered_offers.specs.States.{Stands, Rests, WaitsFor}

-- where it goes, the run of its offers, what was offered and waits for answers, whether no offer was left, how many
-- edges and waiting halves it passed, and how many looks it took
pub record OfferWalkValue : Type 0 where
  pub graph : OfferGraphValue
  pub direction : Direction
  pub starts : List ℕ
  pub run : Run
  pub waiting : Option Due
  pub ended : Bool
  pub passed : ℕ
  pub looked : ℕ

abbrev pub seen : Inside → OfferWalkValue
seen w = record {
  graph = w.state.graph.now;
  direction = w.state.direction;
  starts = w.state.walk.starts;
  run = run_of w.state.asked.items;
  waiting = w.waiting;
  ended = w.ended;
  passed = length w.state.walk.shown;
  looked = opened_of w.state.walk;
}

pub record IsSound (w : Inside) : Type 0 where
  pub stands : Stands w.state
  pub rests : w.waiting ≡ None → Rests w.state
  pub waits : (due : Due) → w.waiting ≡ Some due → WaitsFor w.state (Some due)
  pub done : w.ended ≡ true → IsShowing w.state.direction (all_links w.state.graph.now.edges) w.state.walk.starts w.state.walk.shown
