use Rattle.std.proofs.Common.{◌+◌, ◌*◌, length}
use Rattle.feature_account.specs.Accounts.{conclusions}
use Rattle.feature_account_making.specs.Waiting.{size}
use Rattle.feature_account_making.proofs.ConclusionFacts.{left_out}
use Rattle.feature_account_making.proofs.SearchFacts.{Keeps}
use Rattle.feature_account_making.proofs.making.look_at_each.Given as goal

abbrev pub invariant-loop-number : goal.invariant-loop-number
invariant-loop-number l = Keeps l.rules l.ready l.found l.account.items l.looks

abbrev pub decreases-loop-number : goal.decreases-loop-number
decreases-loop-number l = left_out l.rules (conclusions l.rules l.account.items) * (length l.rules + 1) + size l.ready
