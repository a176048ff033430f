use Rattle.std.proofs.Common.{map, length}
use Rattle.test_select_c.proofs.PieceFacts.{SoFar, same_word, no_word}
use Rattle.test_select_c.proofs.pieces.words_of.Given as goal

abbrev pub invariant-loop-word : goal.invariant-loop-word
invariant-loop-word l = SoFar same_word no_word l.bytes (map (λ word. word.now) l.words.items) l.rest

abbrev pub decreases-loop-word : goal.decreases-loop-word
decreases-loop-word l = length l.rest
