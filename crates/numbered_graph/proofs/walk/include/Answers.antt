use Rattle.std.proofs.Common.{◌≡◌, false, sym, ◌∙◌, arith}
use Rattle.std.proofs.lemmas.List.{get_or_read}
use Rattle.numbered_graph.specs.Sets.{has}
use Rattle.numbered_graph.proofs.WalkFacts.{AreListed-more, length-listed-lt}
use Rattle.numbered_graph.proofs.walk.include.Goals as goal
use Rattle.numbered_graph.proofs.walk.include.Goals.{Then-not-index}

-- the node was not reached
new : (c : Then-not-index) → has c.args.reached.now.items c.args.node ≡ false
new c = sym (get_or_read c.args.reached.now.items c.args.node c.index.result.now c.requires.node c.index.ensures false) ∙ c.if-not-index.true

pub push_within-requires : goal.push_within-requires
push_within-requires c =
    let fewer = length-listed-lt c.requires.listed c.args.node c.requires.node (new (goal.at.push_within-requires c).Then-not-index) in
    let room = c.requires.room in
    omega arith

pub returns-then-not-index-clause-listed : goal.returns-then-not-index-clause-listed
returns-then-not-index-clause-listed c =
    rw c.push_within.ensures.items (AreListed-more c.requires.listed c.args.node c.requires.node (new (goal.at.returns-then-not-index-clause-listed c).Then-not-index))
