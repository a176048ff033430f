use Rattle.std.proofs.Common.{◌∙◌, ap, List, subst}
use Rattle.workspace_record.specs.Records.{Link, Package, Workspace, WorkspaceDetails}
use Rattle.guppy_package_rules.specs.Kept.{AreKept}
use Rattle.guppy_package_rules.specs.Readings.{AreReadIn}
use Rattle.guppy_package_table.proofs.table.PackageTable.from_shared.Goals as goal

abbrev Rows : Type 0
Rows = List Package × List Link × WorkspaceDetails

pub of_kept-requires-clause-kept : goal.of_kept-requires-clause-kept
of_kept-requires-clause-kept c =
    let same = c.record.view_is ∙ c.as_ref-record.ensures in
    let packages = c.deref.ensures.value ∙ ap (λ (w : Workspace). w.packages) same in
    let links = c.deref-2.ensures.value ∙ ap (λ (w : Workspace). w.links) same in
    let workspace = ap (λ (w : Workspace). w.workspace) same in
    subst (λ (r : Rows). AreKept r.0 r.1 r.2) (λ i. (packages i, links i, workspace i)) c.in_ok-readings.ensures.kept

pub of_kept-requires-clause-read : goal.of_kept-requires-clause-read
of_kept-requires-clause-read c =
    let same = c.record.view_is ∙ c.as_ref-record.ensures in
    let packages = c.deref.ensures.value ∙ ap (λ (w : Workspace). w.packages) same in
    let links = c.deref-2.ensures.value ∙ ap (λ (w : Workspace). w.links) same in
    subst (λ (r : List Package × List Link). AreReadIn r.0 r.1 c.in_ok-readings.readings) (λ i. (packages i, links i)) c.in_ok-readings.ensures.read

pub returns-clause-built : goal.returns-clause-built
returns-clause-built c =
    let same = c.record.view_is ∙ c.as_ref-record.ensures in
    let packages = c.deref.ensures.value ∙ ap (λ (w : Workspace). w.packages) same in
    let links = c.deref-2.ensures.value ∙ ap (λ (w : Workspace). w.links) same in
    let workspace = ap (λ (w : Workspace). w.workspace) same in
    (subst (λ (r : Rows). AreKept r.0 r.1 r.2) (λ i. (packages i, links i, workspace i)) c.in_ok-readings.ensures.kept, c.in_ok-table.ensures)
