use Rattle.std.proofs.Common.{◌≡◌}
use Rattle.guppy_package_table.specs.Tables.{firm_flags, links_among}
use Rattle.test_select_features.proofs.NumberingFacts.{links_before}
use Rattle.test_select_features.proofs.numbering.numbered_links_on.Given as goal

abbrev pub invariant-loop-number : goal.invariant-loop-number
invariant-loop-number l = record {
  links : l.on.links.items ≡ links_among l.graph.packages (links_before l.graph l.features l.table l.number);
  firm : l.on.firm.items ≡ firm_flags (links_before l.graph l.features l.table l.number);
}
