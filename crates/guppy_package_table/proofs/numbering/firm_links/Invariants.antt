use Rattle.std.proofs.Common.{◌≡◌, map, not, take}
use Rattle.guppy_package_table.specs.LinkRows.{is_dev_only}
use Rattle.guppy_package_table.proofs.numbering.firm_links.Given as goal

abbrev pub invariant-loop-row : goal.invariant-loop-row
invariant-loop-row l = l.firm.items ≡ map (λ r. not (is_dev_only r)) (take l.row-index l.links)
