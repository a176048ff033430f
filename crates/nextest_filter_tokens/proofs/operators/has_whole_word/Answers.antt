use Rattle.std.proofs.Common.{inl, inr, arith, length, sym, ◌∙◌}
use Rattle.std.proofs.lemmas.Bool.{cases_lt}
use Rattle.nextest_filter_tokens.proofs.BlankFacts.{has_word-within}
use Rattle.nextest_filter_tokens.proofs.operators.has_whole_word.Goals as goal

pub overflow_add-at : goal.overflow_add-at
overflow_add-at c =
    elim (cases_lt 0 (length c.args.word.now)) [
      | inl some ↦
          let end = has_word-within c.args.text.now c.args.at c.args.word.now (sym c.has_word.ensures ∙ c.if-has_word.true) some in
          omega arith
      | inr none ↦ omega arith
    ]
