use Rattle.std.proofs.Common.{take}
use Rattle.workspace_record.specs.LinkNames.{NamesLinks}
use Rattle.workspace_record.proofs.link_names.link_names.Given as goal

abbrev pub invariant-loop-link : goal.invariant-loop-link
invariant-loop-link l = NamesLinks (take l.link-index l.links) l.names
