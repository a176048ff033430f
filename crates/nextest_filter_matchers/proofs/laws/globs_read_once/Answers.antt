use Rattle.nextest_filter_matchers.proofs.ClassFacts.{class_back, class_to, misdrawn_back, unclosed_back}
use Rattle.nextest_filter_matchers.proofs.GrammarFacts.{glob_reads, glob_refused}
use Rattle.nextest_filter_matchers.proofs.laws.globs_read_once.Goals as goal

pub returns : goal.returns
returns c = λ text. (λ glob. glob_reads text glob, λ error. glob_refused text error, class_to text, λ ranges rest h. class_back text rest ranges h, λ h. unclosed_back text h, λ h. misdrawn_back text h)
