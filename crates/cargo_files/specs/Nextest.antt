-- What `cargo nextest list --message-format json` says of a binary.
use Rattle.std.specs.Prelude.{List, [], ◌∷◌, Option, codes, option_map, option_and_then}
use Rattle.serde_json.specs.Data.{Data, Members, no_members, member}
use Rattle.serde_json.specs.Find.{get, as_object}
use Rattle.workspace_record.specs.Records.{Text}

-- the names of the members of an object
abbrev pub member_names : Members → List Text
member_names no_members = []
member_names (member name d members) = name ∷ member_names members

-- what stands under `testcases` of the suite with an id, if that is an object
abbrev pub testcases : Data → Text → Option Members
testcases list id =
    option_and_then as_object (option_and_then (get (codes "testcases")) (option_and_then (get id) (get (codes "rust-suites") list)))

-- the tests of the suite with an id: the names of these members (from nextest)
abbrev pub suite_tests : Data → Text → Option (List Text)
suite_tests list id = option_map member_names (testcases list id)
