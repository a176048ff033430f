use Rattle.std.proofs.Common.{take}
use Rattle.workspace_record.specs.Indices.{FindsPackages}
use Rattle.workspace_record.proofs.packages_by_id.packages_by_id.Given as goal

abbrev pub invariant-loop-row : goal.invariant-loop-row
invariant-loop-row l = FindsPackages (take l.row-index l.packages) l.found
