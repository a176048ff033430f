use Rattle.std.proofs.Common.{ap, subst, sym}
use Rattle.workspace_record.specs.Records.{Workspace}
use Rattle.guppy_package_table.specs.Tables.{AreKnownEnds, ids_of}
use Rattle.guppy_package_table.proofs.Places.{ends_known}
use Rattle.guppy_package_table.proofs.table.PackageTable.of_kept.Goals as goal

pub shared_rows-requires-clause-kept : goal.shared_rows-requires-clause-kept
shared_rows-requires-clause-kept c =
    let rules = c.requires.kept in
    record { ids_apart = rules.ids_apart; members_known = rules.members_known; members_apart = rules.members_apart; defaults_are_members = rules.defaults_are_members }

pub over-requires-clause-ends : goal.over-requires-clause-ends
over-requires-clause-ends c =
    let rows = c.args.rows.value in
    let same = ap (λ r. r.value) (sym c.in_ok-shared.ensures.rows) in
    subst (λ (w : Workspace). AreKnownEnds (ids_of w.packages) w.links) same (ends_known rows.packages rows.links c.requires.kept.ends_known)
