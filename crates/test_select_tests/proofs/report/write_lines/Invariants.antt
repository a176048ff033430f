use Rattle.std.proofs.Common.{flat_map, take}
use Rattle.std.specs.Io.KnownBytes.{Appends}
use Rattle.list_facts.specs.Texts.{pair_of}
use Rattle.test_select_tests.specs.Selections.{line}
use Rattle.test_select_tests.proofs.report.write_lines.Given as goal

abbrev pub invariant-loop-pair : goal.invariant-loop-pair
invariant-loop-pair g l =
    Appends (g.W.Write.contents l.fn.writer) (g.W.Write.contents l.writer) (flat_map (λ p. line (pair_of p)) (take l.pair-index l.pairs))
