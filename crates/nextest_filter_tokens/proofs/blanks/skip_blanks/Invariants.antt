use Rattle.std.proofs.Common.{◌≡◌, ◌≤◌, length}
use Rattle.std.specs.Str.{IsCharBoundary}
use Rattle.nextest_filter_tokens.specs.Bytes.{blanks_from}
use Rattle.nextest_filter_tokens.proofs.blanks.skip_blanks.Given as goal

abbrev pub invariant-loop-left : goal.invariant-loop-left
invariant-loop-left l = record {
  value : blanks_from l.text l.left l.place ≡ blanks_from l.text (length l.text) l.at;
  rises : l.at ≤ l.place;
  end : l.place ≤ length l.text;
  boundary : IsCharBoundary l.text l.at → IsCharBoundary l.text l.place;
}

abbrev pub decreases-loop-left : goal.decreases-loop-left
decreases-loop-left l = l.left
