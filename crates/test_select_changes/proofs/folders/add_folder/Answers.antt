use Rattle.std.proofs.Common.{◌∙◌, ap}
use Rattle.workspace_record.specs.Records.{Text}
use Rattle.guppy_package_parts.specs.SourceViews.{source_view}
use Rattle.guppy_package_table.specs.PackageDetailsViews.{row_of}
use Rattle.guppy_package_graph.specs.Views.{graph_of, place_of}
use Rattle.test_select_changes.specs.Folders.{IsFolderAt, NamedFolder}
use Rattle.test_select_changes.specs.PartViews.{found_parts, lent_parts}
use Rattle.test_select_changes.proofs.FolderFacts.{kept, no_folder, one_folder, pushed}
use Rattle.test_select_changes.proofs.folders.add_folder.Goals as goal

pub returns-in_ok-push : goal.returns-in_ok-push
returns-in_ok-push c =
    let g = graph_of c.args.metadata in
    let v = place_of c.args.metadata in
    let found = lent_parts c.in-Some.parts.items in
    let named : Text → NamedFolder = λ (name : Text). record { parts = found; name = name } in
    let one = one_folder g v (source_view c.source.result) c.source.ensures.source c.args.root.now c.requires (found_parts c.in_ok-parts.field-0) c.in_ok-parts.ensures (row_of c.deref.result.now) c.deref.ensures.0 found (ap found_parts c.in-Some.is) c.of.result (c.of.ensures ∙ ap named c.name.ensures) in
    pushed (IsFolderAt g v) c.args.folders.now.items c.push.new.self.items c.of.result c.in_ok-push.ensures.items one

pub returns-in_default : goal.returns-in_default
returns-in_default c =
    let g = graph_of c.args.metadata in
    let v = place_of c.args.metadata in
    kept (IsFolderAt g v) c.args.folders.now.items (no_folder g v (source_view c.source.result) c.source.ensures.source c.args.root.now c.requires (found_parts c.in_ok-parts.field-0) c.in_ok-parts.ensures (ap found_parts c.in_default.is))
