use Rattle.std.proofs.lemmas.List.Folds.{flat_map-map}
use Rattle.list_facts.specs.Texts.{pair_of}
use Rattle.test_select_tests.specs.Selections.{line}
use Rattle.test_select_tests.proofs.report.write_report.Goals as goal

pub returns : goal.returns
returns g c = record { writes = rw (← c.chosen.ensures, flat_map-map line pair_of c.chosen.result.now) c.write_lines.ensures }
