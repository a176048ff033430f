use Rattle.std.proofs.Common.{◌≡◌, ◌++◌, map, take}
use Rattle.list_facts.specs.Texts.{texts}
use Rattle.test_select_changes.proofs.collecting.add_names.Given as goal

abbrev pub invariant-loop-folder : goal.invariant-loop-folder
invariant-loop-folder l = texts l.names.items ≡ texts l.fn.names.items ++ map (λ folder. folder.name) (take l.folder-index l.folders)
