use Rattle.std.proofs.Common.{◌≡◌, false, take}
use Rattle.std.specs.List.{list_any}
use Rattle.std.specs.Str.{bytes_eq}
use Rattle.list_facts.specs.Texts.{texts}
use Rattle.guppy_package_parts.proofs.dependency_req.text_among.Given as goal

abbrev pub invariant-loop-name : goal.invariant-loop-name
invariant-loop-name l = list_any (bytes_eq l.text) (texts (take l.name-index l.names)) ≡ false
