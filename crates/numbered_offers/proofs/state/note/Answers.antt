use Rattle.std.proofs.Common.{◌≡◌, ◌++◌, ◌∷◌, [], rules, ap, ◌∙◌}
use Rattle.numbered_offers.specs.declared.state.Asked.{Asked}
use Rattle.numbered_offers.specs.Keeping.{run_of}
use Rattle.numbered_offers.proofs.KeepFacts.{run_push}
use Rattle.numbered_offers.proofs.state.note.Goals as goal

pub returns-in-Some-clause-run : goal.returns-in-Some-clause-run
returns-in-Some-clause-run c =
    let item : Asked = record { due = c.in-Some.due; first = c.args.first; second = c.args.second } in
    let items : c.push.new.self.items ≡ c.args.asked.now.items ++ item ∷ [] = search rules in
    rw (c.in-Some.is) (ap run_of items ∙ run_push c.args.asked.now.items item)
