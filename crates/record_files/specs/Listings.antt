-- The file of listings: the tests of each binary.
use Rattle.std.specs.Prelude.{List, map, String, Vec, string_bytes, ok_or, Result}
use Rattle.std.specs.declared.alloc.Global.{Global}
use Rattle.serde_json.specs.Data.{Data, Members}
use Rattle.workspace_record.specs.Records.{Text}
use Rattle.record_files.specs.Faults.{Fault, at_binary}
use Rattle.record_files.specs.declared.key.Key.TheVariants as key
use Rattle.record_files.specs.Outcomes.{◌>>=◌}
use Rattle.record_files.specs.Values.{each_member, members_of, as_texts}

-- the names of tests, as texts
abbrev pub test_names : Vec (String Global) Global → List Text
test_names tests = map string_bytes tests.items

-- an entry of a map of listings, by its texts: a binary's id, and the names of its tests
abbrev pub listing : String Global × Vec (String Global) Global → Text × List Text
listing entry = (string_bytes entry.0, test_names entry.1)

-- the listing of a binary; null is no list
abbrev pub listing_of : Text → Data → Result (List Text) Fault
listing_of id d = ok_or (as_texts d) (at_binary id)

-- the listing under each id, ascending by id
abbrev pub each_listing : Members → Result (List (Text × List Text)) Fault
each_listing = each_member listing_of

-- a file that is listings (from `cargo metadata`'s names)
abbrev pub listings_file : Data → Result (List (Text × List Text)) Fault
listings_file d = members_of key.File d >>= each_listing
