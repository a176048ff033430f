use Rattle.std.proofs.Common.{◌∙◌, List, Ok, Err, ap}
use Rattle.std.specs.Prelude.{slice_get, string_bytes}
use Rattle.workspace_record.specs.Records.{Text}
use Rattle.clap.specs.Words.{found_of, rows_of}
use Rattle.test_select_changes.specs.declared.changed.ChangedError.TheVariants.{Path}
use Rattle.test_select.proofs.ChangeFacts.{come_by, path_found, path_refused, told_paths}
use Rattle.test_select.proofs.changes.changed_in.Goals as goal

pub returns-in-Ok-changed_among-clause-changed : goal.returns-in-Ok-changed_among-clause-changed
returns-in-Ok-changed_among-clause-changed c =
    come_by (rows_of (found_of c.args.asked.now)) c.args.inputs.now (Ok c.in-Ok-changed_among.changed) c.deref.result.now _ c.in_ok-globs.globs.items _ c.in_ok-paths.paths.items _ c.in-Ok.checked c.deref.ensures.value c.in_ok-paths.ensures.paths c.in-Ok.ensures.checked c.values_of.ensures.values c.in_ok-globs.ensures.reads c.deref-2.ensures.value c.deref-3.ensures.value c.in-Ok-changed_among.ensures.changes

pub returns-clause-changed : goal.returns-clause-changed
returns-clause-changed c =
    let come = come_by (rows_of (found_of c.args.asked.now)) c.args.inputs.now (Err (Path c.in-Err-Path.place)) c.deref.result.now _ c.in_ok-globs.globs.items _ c.in_ok-paths.paths.items _ c.in-Ok.checked c.deref.ensures.value c.in_ok-paths.ensures.paths c.in-Ok.ensures.checked c.values_of.ensures.values c.in_ok-globs.ensures.reads c.deref-2.ensures.value c.deref-3.ensures.value (rw c.in-Err-Path.field-0-is at c.in-Err-Path.ensures.changes) in
    path_refused (rows_of (found_of c.args.asked.now)) c.args.inputs.now c.in-Err-Path.place (string_bytes c.in_ok-from_str-in-Err-Path.field-0) come
    (λ found at. c.in_ok-from_str-in-Err-Path.ensures.ok ∙ path_found c.in_ok-paths.paths.items c.in-Err-Path.place c.get.result c.copied.result _ c.unwrap_or-path.result
    (rw c.deref-in-Err-Path.ensures.value at c.get.ensures.lookup) c.copied.ensures c.unwrap_or-path.ensures found
    (ap (λ (l : List Text). slice_get l c.in-Err-Path.place) (told_paths (rows_of (found_of c.args.asked.now)) c.in_ok-paths.paths.items c.deref.result.now c.args.inputs.now.listed.items c.deref.ensures.value c.in_ok-paths.ensures.paths) ∙ at))
