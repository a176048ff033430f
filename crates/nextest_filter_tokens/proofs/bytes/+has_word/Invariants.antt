use Rattle.std.proofs.Common.{length}
use Rattle.nextest_filter_tokens.proofs.bytes.+has_word.Given as goal

abbrev pub decreases-has_word : goal.decreases-has_word
decreases-has_word l = length l.word.now
