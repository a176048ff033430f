use Rattle.std.proofs.Common.{◌≡◌, ◌++◌, ◌∙◌, sym, ap}
use Rattle.cargo_record.proofs.PathFacts.{below_root, not_below}
use Rattle.cargo_record.proofs.members.below.Goals as goal

pub returns-in-Some : goal.returns-in-Some
returns-in-Some c =
    let h = c.in-Some.ensures.cases in
    let is : c.args.folder.now ≡ c.args.root.now ++ c.in-Some.rest.now = h.1.1 ∙ ap (λ r. c.args.root.now ++ r) (sym h.2) in
    c.unslashed.ensures ∙ sym (below_root c.args.root.now c.in-Some.rest.now c.args.folder.now is)

pub returns-in-None : goal.returns-in-None
returns-in-None c = not_below c.args.root.now c.args.folder.now c.in-None.ensures.cases
