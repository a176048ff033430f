use Rattle.std.proofs.Common.{◌≡◌, ◌++◌, map, string_bytes}
use Rattle.serde_json.specs.View.{members_view}
use Rattle.cargo_files.specs.Nextest.{member_names}
use Rattle.cargo_files.proofs.nextest.names_of.Given as goal

abbrev pub invariant-loop-name : goal.invariant-loop-name
invariant-loop-name l =
    map string_bytes l.names.items ++ member_names (members_view l.name-iterator) ≡ member_names (members_view l.members.entries)
