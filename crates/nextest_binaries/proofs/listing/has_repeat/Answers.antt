use Rattle.std.proofs.Common.{sym, true≢false}
use Rattle.list_facts.specs.Texts.{texts}
use Rattle.nextest_binaries.proofs.Repeats.{no_repeat_ascending}
use Rattle.nextest_binaries.proofs.listing.has_repeat.Goals as goal

pub returns-then-names_ascend : goal.returns-then-names_ascend
returns-then-names_ascend c = (
  λ h. absurd (true≢false (sym h)),
  λ h. absurd (no_repeat_ascending (texts c.args.names.now) (c.names_ascend.ensures.ascending.0 c.if-names_ascend.true) h),
)
