use Rattle.clap.specs.Words.{found_of, rows_of}
use Rattle.test_select.proofs.SelectionFacts.{selected_by}
use Rattle.test_select.proofs.selections.selection_in.Goals as goal

pub returns : goal.returns
returns c =
    record {
      selects = selected_by (rows_of (found_of c.args.asked.now)) c.args.question.now c.args.listings c.select_listed.result _ _ _ c.select_listed.ensures.answers.0 c.link_scope-scope.ensures.scope c.values_of-texts.ensures.values c.asked_binaries-asks.ensures.asks c.select_listed.ensures.answers.1 c.select_listed.ensures.missing;
    }
