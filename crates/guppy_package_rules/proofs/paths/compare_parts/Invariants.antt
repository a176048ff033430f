use Rattle.std.proofs.Common.{◌≡◌, length}
use denote.Text.{Utf8}
use denote.Shadow.{shadow}
use Rattle.std.specs.Cmp.Lexicographic.{slice_cmp}
use Rattle.list_facts.specs.Ascending.{text_cmp}
use Rattle.guppy_package_rules.specs.Paths.{parts}
use Rattle.guppy_package_rules.proofs.paths.compare_parts.Given as goal

abbrev pub invariant-loop-a_part : goal.invariant-loop-a_part
invariant-loop-a_part l =
    shadow (Utf8 l.a_left) × shadow (Utf8 l.b_left) × (slice_cmp text_cmp (parts l.a) (parts l.b) ≡ slice_cmp text_cmp (parts l.a_left) (parts l.b_left))

abbrev pub decreases-loop-a_part : goal.decreases-loop-a_part
decreases-loop-a_part l = length l.a_left
