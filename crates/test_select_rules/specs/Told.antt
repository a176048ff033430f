-- What a lister is told of a binary.
use Rattle.workspace_record.specs.Records.{Text}
use Rattle.workspace_record.specs.declared.kinds.TargetKind.{TargetKind}
use Rattle.nextest_binaries.specs.declared.build_platform.BuildPlatform.{BuildPlatform}
use Rattle.nextest_binaries.specs.declared.binary_info.BinaryInfo.{BinaryInfo}
use Rattle.test_select_rules.specs.Binaries.{Binary, platform_of}

-- a binary's id, its package's id, and its target's name, kind and platform (from nextest)
pub record Told : Type 0 where
  pub id : Text
  pub package_id : Text
  pub name : Text
  pub kind : TargetKind
  pub platform : BuildPlatform

-- what is to be told of a binary (from nextest)
abbrev pub told_of : Binary → Told
told_of b = record { id = b.id; package_id = b.owner.id; name = b.target.name; kind = b.target.kind; platform = platform_of b.target.kind }

-- what the code tells
abbrev pub told_by : BinaryInfo → Told
told_by i = record { id = i.id.now; package_id = i.package_id.now; name = i.name.now; kind = i.kind; platform = i.platform }
