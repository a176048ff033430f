use Rattle.std.proofs.Common.{subst}
use Rattle.std.specs.Result.{IfErr, IfOk}
use Rattle.workspace_record.specs.Records.{Workspace}
use Rattle.guppy_package_rules.specs.Kept.{AreKept}
use Rattle.guppy_package_rules.specs.Refusals.{IsRefusal}
use Rattle.guppy_package_table.specs.Tables.{IsTableOf}
use Rattle.guppy_package_table.proofs.table.PackageTable.from_records.Goals as goal

pub returns-clause-built : goal.returns-clause-built
returns-clause-built c =
    subst (λ (w : Workspace). IfOk c.from_shared.result (λ t. AreKept w.packages w.links w.workspace × IsTableOf w.packages w.links w.workspace t)) c.in_ok-rows.ensures.ok c.from_shared.ensures.built

pub returns-clause-refused : goal.returns-clause-refused
returns-clause-refused c =
    subst (λ (w : Workspace). IfErr c.from_shared.result (IsRefusal w.packages w.links w.workspace)) c.in_ok-rows.ensures.ok c.from_shared.ensures.refused
