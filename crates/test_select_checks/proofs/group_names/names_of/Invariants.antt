use Rattle.std.proofs.Common.{◌↔◌, Contains, map, take}
use Rattle.list_facts.specs.Texts.{texts}
use Rattle.workspace_record.specs.Records.{Text}
use Rattle.test_select_checks.proofs.group_names.names_of.Given as goal

abbrev pub invariant-loop-group : goal.invariant-loop-group
invariant-loop-group l = (name : Text) → Contains (texts l.names.keys) name ↔ Contains (map (λ g. g.name) (take l.group-index l.groups)) name
