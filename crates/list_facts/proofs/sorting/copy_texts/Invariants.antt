use Rattle.std.proofs.Common.{◌≡◌, take}
use Rattle.list_facts.specs.Texts.{texts}
use Rattle.list_facts.proofs.sorting.copy_texts.Given as goal

abbrev pub invariant-loop-name : goal.invariant-loop-name
invariant-loop-name l = texts l.copies.items ≡ texts (take l.name-index l.names)
