use Rattle.std.proofs.Common.{◌≡◌, ℕ, ◌+◌, ◌<◌, String, get_or}
use Rattle.std.specs.Global.{Global}
use Rattle.std.specs.declared.cmp.Ordering.TheVariants.{Less}
use Rattle.list_facts.specs.Ascending.{pair_cmp}
use Rattle.list_facts.specs.Texts.{pair_of}
use Rattle.test_select_tests.proofs.ascending_pairs.ascend.Given as goal

abbrev pub invariant-loop-place : goal.invariant-loop-place
invariant-loop-place l = (k : ℕ) (d : String Global × String Global) → k + 1 < l.place → pair_cmp (pair_of (get_or l.pairs k d)) (pair_of (get_or l.pairs (k + 1) d)) ≡ Less
