use Rattle.std.proofs.Common.{◌≡◌, map, take}
use Rattle.guppy_package_table.specs.Tables.{link_between}
use Rattle.guppy_package_table.proofs.numbering.numbered_links.Given as goal

abbrev pub invariant-loop-row : goal.invariant-loop-row
invariant-loop-row l = l.numbered.items ≡ map (link_between l.ids.keys) (take l.row-index l.links)
