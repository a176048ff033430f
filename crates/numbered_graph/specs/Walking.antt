-- What a walk keeps, and what is seen of it.
use Rattle.std.specs.Prelude.{◌+◌, ◌≤◌, length, vec_capacity}
use Rattle.numbered_graph.specs.declared.walk.Walk.TheInside.{Inside}
use Rattle.numbered_graph.specs.Walks.{WalkValue, taken_links, AreListed, AreTaken, AreFollowed}

abbrev pub seen : Inside → WalkValue
seen w = record {
  graph = w.graph.now;
  direction = w.direction;
  starts = w.starts.now;
  shown = w.shown.items;
  waiting = w.waiting;
  looked = w.opened + length (taken_links w.shown.items w.waiting);
}

pub record Stands (w : Inside) : Type 0 where
  pub listed : AreListed w.graph.now.nodes w.reached.items w.order.items
  pub taken : AreTaken w.direction w.graph.now.nodes w.graph.now.links w.reached.items w.order.items w.cursors.items w.opened (taken_links w.shown.items w.waiting)
  pub followed : AreFollowed w.direction w.graph.now.links w.starts.now w.shown.items w.reached.items
  pub order_room : w.graph.now.nodes ≤ vec_capacity w.order
  pub shown_room : length w.graph.now.links ≤ vec_capacity w.shown
