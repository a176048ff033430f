use Rattle.std.proofs.Common.{ap, ◌∙◌}
use Rattle.numbered_offers.specs.Counts.{is_due_at, whole_after}
use Rattle.numbered_offers.specs.States.{edges_of}
use Rattle.numbered_offers.proofs.CountFacts.{is_open, counted_after, due_is}
use Rattle.numbered_offers.proofs.state.meet_link.Goals as goal

pub meet-requires-clause-open : goal.meet-requires-clause-open
meet-requires-clause-open c =
    let s = c.args.state.now in
    let m = c.requires.meets in
    is_open s.direction (edges_of s) s.walk.starts s.walk.shown _ m.stands.near m.stands.dep m.stands.keeps c.args.number m.link_due s.whole_open.items s.optional_open.items m.counts

pub returns-clause-waits : goal.returns-clause-waits
returns-clause-waits c =
    let s = c.args.state.now in
    let m = c.requires.meets in
    let counted = counted_after s.direction (edges_of s) s.walk.starts s.walk.shown _ m.stands.near m.stands.dep m.stands.keeps c.args.number m.link_due s.whole_open.items s.optional_open.items m.counts in
    let due = due_is s.direction (edges_of s) s.walk.starts s.walk.shown _ m.stands.near m.stands.dep m.stands.keeps c.args.number m.link_due s.whole_open.items s.optional_open.items m.counts in
    record {
      stands = record {
        near = m.stands.near;
        dep = m.stands.dep;
        graph = m.stands.graph;
        direction = m.stands.direction;
        keeps = m.stands.keeps;
        counted = m.stands.counted;
        room = m.stands.room;
        bound = m.stands.bound;
      };
      counts = rw (c.meet.ensures.whole, c.meet.ensures.optional) counted;
      waiting = m.waiting;
      link_due = m.link_due;
      offers = λ o.
          c.due_at.ensures.due o
          ∙ ap (λ xs. is_due_at s.direction (edges_of s) xs c.deref-2.result.now c.args.number o) (c.deref.ensures.value ∙ c.meet.ensures.whole)
          ∙ ap (λ xs. is_due_at s.direction (edges_of s) (whole_after (edges_of s) c.args.number s.whole_open.items) xs c.args.number o) (c.deref-2.ensures.value ∙ c.meet.ensures.optional)
          ∙ due o;
      left = m.left;
    }
