use Rattle.std.proofs.Common.{[], Ok, map, string_bytes, take}
use Rattle.cargo_files.specs.Added.{listing}
use Rattle.test_select_files.specs.Files.{SameAnswers}
use Rattle.cargo_workspace.specs.Files.{Asks}
use Rattle.cargo_workspace.specs.Lists.{AddsLists}
use Rattle.cargo_workspace.proofs.lists.folder_listings.Given as goal

abbrev pub invariant-loop-id : goal.invariant-loop-id
invariant-loop-id g l =
    let before = goal.Sources-dyn g l.fn.files.now in
    let after = goal.Sources-dyn g l.files.now in
    record {
      adds : Asks (before.answers l.fn.files.now.1) (before.state l.fn.files.now.1) (after.state l.files.now.1) (AddsLists l.folder l.built (map string_bytes (take l.id-index l.ids)) [] (Ok (map listing l.listings.items)));
      same : SameAnswers (before.answers l.fn.files.now.1) (after.answers l.files.now.1);
    }
