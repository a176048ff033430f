use Rattle.nextest_filter_matchers.specs.Laws.{matchers_lawful}
use Rattle.nextest_filter_matchers.proofs.laws.matchers_are_lawful.Goals as goal

pub returns : goal.returns
returns c = matchers_lawful
