use Rattle.std.proofs.Common.{◌∙◌, IfOk, List, ap, subst, sym}
use Rattle.workspace_record.specs.Records.{Package, WorkspaceDetails}
use Rattle.guppy_package_rules.specs.Readings.{AreRequirementsOf}
use Rattle.guppy_package_table.specs.Indices.{IndexesPackages}
use Rattle.guppy_package_table.specs.Tables.{AreKnownEnds, IsTableOf, TableValue, ids_of}
use Rattle.guppy_package_table.specs.declared.indices.SharedRows.{SharedRows}
use Rattle.guppy_package_table.proofs.Places.{ends_known}
use Rattle.guppy_package_table.proofs.table.PackageTable.with_links.Goals as goal

pub over-requires-clause-ends : goal.over-requires-clause-ends
over-requires-clause-ends c =
    let same = ap (λ (s : SharedRows). s.rows.value.packages) c.in_ok-clone.ensures.cases ∙ ap (λ (t : TableValue). t.packages) c.self.view_is in
    subst (λ packages. AreKnownEnds (ids_of packages) c.args.links.items) (sym same) (ends_known c.args.self.now.packages c.args.links.items c.requires.kept.ends_known)

pub over-requires-clause-read : goal.over-requires-clause-read
over-requires-clause-read c =
    subst (λ ls. AreRequirementsOf ls c.in-Ok.requirements.items) c.deref.ensures.value c.in-Ok.ensures.read

pub over-requires-clause-indexed : goal.over-requires-clause-indexed
over-requires-clause-indexed c =
    subst (λ (s : SharedRows). IndexesPackages s.rows.value.packages s.rows.value.workspace s.indices) (sym c.in_ok-clone.ensures.cases) c.self.invariant.0

pub returns : goal.returns
returns c =
    let shared = c.in_ok-clone.ensures.cases in
    let packages = ap (λ (s : SharedRows). s.rows.value.packages) shared ∙ ap (λ (t : TableValue). t.packages) c.self.view_is in
    let workspace = ap (λ (s : SharedRows). s.rows.value.workspace) shared ∙ ap (λ (t : TableValue). t.workspace) c.self.view_is in
    record {
      built = subst (λ (rows : List Package × WorkspaceDetails). IfOk c.over.result (IsTableOf rows.0 c.args.links.items rows.1)) (λ i. (packages i, workspace i)) c.over.ensures;
    }
