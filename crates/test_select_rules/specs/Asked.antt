-- What filters are asked about the tests of a record's binaries.
use Rattle.workspace_record.specs.Records.{Text}
use Rattle.nextest_binaries.specs.Queries as asked
use Rattle.test_select_rules.specs.Binaries.{Binary, kind_text, platform_of}

-- a binary of the record, as filters are asked about it (from nextest)
abbrev pub binary_asked : Binary → asked.Binary
binary_asked b = record {
  package_id = b.owner.id;
  id = b.id;
  name = b.target.name;
  kind = kind_text b.target.kind;
  platform = platform_of b.target.kind;
}

-- a test of it (from nextest)
abbrev pub test_asked : Binary → Text → asked.Test
test_asked b test = record { binary = binary_asked b; name = test }
