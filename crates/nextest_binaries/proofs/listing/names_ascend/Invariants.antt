use Rattle.std.proofs.Common.{◌≡◌, ℕ, ◌+◌, ◌<◌, String, get_or, string_bytes}
use Rattle.std.specs.Global.{Global}
use Rattle.std.specs.declared.cmp.Ordering.TheVariants.{Less}
use Rattle.list_facts.specs.Ascending.{text_cmp}
use Rattle.nextest_binaries.proofs.listing.names_ascend.Given as goal

abbrev pub invariant-loop-place : goal.invariant-loop-place
invariant-loop-place l = (k : ℕ) (d : String Global) → k + 1 < l.place → text_cmp (string_bytes (get_or l.names k d)) (string_bytes (get_or l.names (k + 1) d)) ≡ Less
