use Rattle.std.proofs.Common.{◌∙◌, ◌++◌, sym, ap, get_or}
use Rattle.std.proofs.lemmas.Result.{err_from_is_err_and}
use Rattle.cargo_files.specs.Meaning.{meant}
use Rattle.cargo_files.specs.Words.{word_value}
use Rattle.cargo_files.proofs.MeaningFacts.{all_mean_more, meant_more, no_word, refuses_at}
use Rattle.cargo_files.proofs.choosing.extras_of.Goals as goal

pub loop-word-preserved : goal.loop-word-preserved
loop-word-preserved c =
    let w = c.args.index.now in
    let words = c.args.words.now in
    let i = c.loop-word.word-index in
    let lt = c.loop-word-test.true in
    record {
      extras = c.in_ok-push_word.ensures.pushed ∙ ap (λ t. t ++ meant w (word_value (get_or words i no_word).now)) c.loop-word.invariant.extras ∙ sym (meant_more w words i no_word lt);
      known = all_mean_more w words i no_word lt c.loop-word.invariant.known c.in_ok-push_word.ensures.known;
    }

pub returns-in_err-push_word-clause-refused : goal.returns-in_err-push_word-clause-refused
returns-in_err-push_word-clause-refused c =
    let p = err_from_is_err_and c.from_residual.result c.from_residual.ensures.1 in
    rw (p.1, p.2) (refuses_at c.args.index.now c.args.words.now c.loop-word.word-index no_word _ c.loop-word-test.true c.loop-word.invariant.known c.in_err-push_word.ensures.refused)
