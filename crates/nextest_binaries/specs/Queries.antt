-- What a filter is asked about.
use Rattle.workspace_record.specs.Records.{Text}
use Rattle.nextest_binaries.specs.declared.build_platform.BuildPlatform.{BuildPlatform}
use Rattle.nextest_binaries.specs.declared.queries.BinaryQuery.{BinaryQuery}
use Rattle.nextest_binaries.specs.declared.queries.TestQuery.{TestQuery}

-- a binary: its package's id, its own id, its target's name, its kind and its platform (from nextest)
pub record Binary : Type 0 where
  pub package_id : Text
  pub id : Text
  pub name : Text
  pub kind : Text
  pub platform : BuildPlatform

-- a test: its binary and its name (from nextest)
pub record Test : Type 0 where
  pub binary : Binary
  pub name : Text

abbrev pub binary_of : BinaryQuery → Binary
binary_of q = record {
  package_id = q.package_id.now;
  id = q.binary_id.now;
  name = q.binary_name.now;
  kind = q.kind.now;
  platform = q.platform;
}

abbrev pub test_of : TestQuery → Test
test_of q = record { binary = binary_of q.binary_query; name = q.test_name.now }
