-- What a walk keeps while it looks for the next link.
use Rattle.std.proofs.Common.{◌≡◌, ℕ, suc, ◌+◌, ◌<◌, ◌≤◌, true, None, Some, [], ◌∷◌, ◌++◌, List, length, get_or, set, Vec, Global, sym, subst, ap, ◌∙◌, arith}
use Rattle.std.proofs.lemmas.List.{append-nil, get_or_read, length_push}
use Rattle.numbered_graph.specs.declared.walk.Walk.TheInside.{Inside}
use Rattle.numbered_graph.specs.Chains.{IsNextLink}
use Rattle.numbered_graph.specs.Links.{near_at}
use Rattle.numbered_graph.specs.Sets.{has}
use Rattle.numbered_graph.specs.Walks.{shown_links, taken_links, AreTaken, IsDue, IsShowing}
use Rattle.numbered_graph.specs.Walking.{Stands}
use Rattle.numbered_graph.proofs.SetFacts.{has-within}
use Rattle.numbered_graph.proofs.WalkFacts.{length-listed-le, length-taken-le, AreTaken-passed, AreTaken-more, IsDue-at_cursor, IsShowing-at_end, waiting_room}

module _ (w : Inside) (h : Stands w) where
  pub opened_bound : w.opened ≤ w.graph.now.nodes
  opened_bound = let opened = h.taken.within in let listed = length-listed-le h.listed in omega arith

  -- it took no more looks than there are nodes and links
  pub looked_bound : w.opened + length (taken_links w.shown.items w.waiting) ≤ w.graph.now.nodes + length w.graph.now.links
  looked_bound = let opened = opened_bound in let taken = length-taken-le h.taken in omega arith

  module _ (idle : w.waiting ≡ None) where
    shown_all : taken_links w.shown.items w.waiting ≡ shown_links w.shown.items
    shown_all = ap (taken_links w.shown.items) idle ∙ append-nil (shown_links w.shown.items)

    -- a link that is taken is one more
    pub one_more : (number : ℕ) → length (taken_links w.shown.items (Some number)) ≡ length (taken_links w.shown.items w.waiting) + 1
    one_more number = length_push (shown_links w.shown.items) number ∙ ap (λ (js : List ℕ). length js + 1) (sym shown_all)

    idle_taken : AreTaken w.direction w.graph.now.nodes w.graph.now.links w.reached.items w.order.items w.cursors.items w.opened (shown_links w.shown.items)
    idle_taken = subst (λ js. AreTaken w.direction w.graph.now.nodes w.graph.now.links w.reached.items w.order.items w.cursors.items w.opened js) shown_all h.taken

    -- no node is left
    pub all_shown : length w.order.items ≤ w.opened → IsShowing w.direction w.graph.now.links w.starts.now w.shown.items
    all_shown = IsShowing-at_end h.followed h.listed idle_taken

  -- the node that is looked at
  module _ (node : ℕ) (lt : w.opened < length w.order.items) (is : node ≡ get_or w.order.items w.opened node) where
    node_is : node ≡ get_or w.order.items w.opened 0
    node_is = get_or_read w.order.items w.opened node lt is 0

    node_reached : has w.reached.items node ≡ true
    node_reached = subst (λ v. has w.reached.items v ≡ true) (sym node_is) (h.listed.each w.opened 0 lt)

    node_within : node < w.graph.now.nodes
    node_within = subst (λ n. node < n) h.listed.sized (has-within w.reached.items node node_reached)

    pub in_cursors : node < length w.cursors.items
    in_cursors = subst (λ n. node < n) (sym h.taken.sized) node_within

    -- and the link at its cursor
    module _ (number : ℕ) (at : number ≡ get_or w.cursors.items node number) where
      number_is : number ≡ get_or w.cursors.items node 0
      number_is = get_or_read w.cursors.items node number in_cursors at 0

      pub Stands-passed : length w.graph.now.links ≤ number → Stands (record w { opened = w.opened + 1 })
      Stands-passed done = record {
        listed = h.listed;
        taken = AreTaken-passed h.taken lt (subst (λ v. length w.graph.now.links ≤ get_or w.cursors.items v 0) node_is (subst (λ m. length w.graph.now.links ≤ m) number_is done));
        followed = h.followed;
        order_room = h.order_room;
        shown_room = h.shown_room;
      }

      module _ (idle : w.waiting ≡ None) (small : number < length w.graph.now.links) (next : ℕ) (is_next : IsNextLink w.direction w.graph.now.links (near_at w.direction w.graph.now.links number) (suc number) next) where
        pub is_due : IsDue w.direction w.graph.now.links w.starts.now w.shown.items number
        is_due = IsDue-at_cursor h.followed h.listed (idle_taken idle) node number next node_within number_is small is_next node_reached

        more_taken : AreTaken w.direction w.graph.now.nodes w.graph.now.links w.reached.items w.order.items (set w.cursors.items node next) w.opened (shown_links w.shown.items ++ number ∷ [])
        more_taken = AreTaken-more (idle_taken idle) node number next node_within number_is small is_next node_reached

        pub room_left : length w.shown.items < length w.graph.now.links
        room_left = waiting_room w.shown.items number more_taken

        pub more_bound : w.opened + length (taken_links w.shown.items (Some number)) ≤ w.graph.now.nodes + length w.graph.now.links
        more_bound = let opened = opened_bound in let taken = length-taken-le more_taken in omega arith

        pub Stands-taken : (cursors : Vec ℕ Global) → cursors.items ≡ set w.cursors.items node next → Stands (record w { cursors = cursors; waiting = Some number })
        Stands-taken cursors e = record {
          listed = h.listed;
          taken = subst (λ xs. AreTaken w.direction w.graph.now.nodes w.graph.now.links w.reached.items w.order.items xs w.opened (shown_links w.shown.items ++ number ∷ [])) (sym e) more_taken;
          followed = h.followed;
          order_room = h.order_room;
          shown_room = h.shown_room;
        }
