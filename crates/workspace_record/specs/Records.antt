-- What contracts see of each record: its fields, with texts as their bytes and vectors as lists.
use Rattle.std.specs.Prelude.{ℕ, List, [], Bool, Option, None}
use Rattle.workspace_record.specs.declared.kinds.LineKind.{LineKind}
use Rattle.workspace_record.specs.declared.kinds.TargetKind.{TargetKind}

-- a text, by its bytes
abbrev pub Text : Type 0
Text = List ℕ

-- of a `FeatureRecord`
pub record FeatureEntry : Type 0 where
  pub name : Text
  pub enables : List Text

-- of a `TargetInfo`
pub record TargetDetails : Type 0 where
  pub path : Text
  pub edition : Text
  pub crate_types : List Text
  pub doc : Bool
  pub doctest : Bool

-- of a `TargetRecord`
pub record Target : Type 0 where
  pub kind : TargetKind
  pub name : Text
  pub required_features : List Text
  pub tested : Bool
  pub info : TargetDetails

-- of a `PackageInfo`
pub record PackageDetails : Type 0 where
  pub source : Option Text
  pub path : Option Text
  pub manifest_path : Text
  pub edition : Text
  pub authors : List Text
  pub description : Option Text
  pub license : Option Text
  pub license_file : Option Text
  pub categories : List Text
  pub keywords : List Text
  pub readme : Option Text
  pub repository : Option Text
  pub homepage : Option Text
  pub documentation : Option Text
  pub links : Option Text
  pub publish : Option (List Text)
  pub default_run : Option Text
  pub rust_version : Option Text
  pub metadata : Option Text

-- nothing is given
abbrev pub no_details : PackageDetails
no_details =
    record { source = None; path = None; manifest_path = []; edition = []; authors = []; description = None; license = None; license_file = None; categories = []; keywords = []; readme = None; repository = None; homepage = None; documentation = None; links = None; publish = None; default_run = None; rust_version = None; metadata = None }

-- of a `PackageRecord`
pub record Package : Type 0 where
  pub id : Text
  pub name : Text
  pub version : Text
  pub features : List FeatureEntry
  pub optional : List Text
  pub targets : List Target
  pub info : PackageDetails

-- of a `LineRecord`
pub record Line : Type 0 where
  pub kind : LineKind
  pub optional : Bool
  pub default_features : Bool
  pub features : List Text
  pub spec : Option Text

-- of a `LinkRecord`
pub record Link : Type 0 where
  pub from : Text
  pub to : Text
  pub name : Text
  pub requirement : Text
  pub lines : List Line
  pub registry : Option Text
  pub path : Option Text

-- of a `MemberRecord`
pub record Member : Type 0 where
  pub package_id : Text
  pub path : Text

-- of a `WorkspaceInfo`
pub record WorkspaceDetails : Type 0 where
  pub root : Text
  pub target_directory : Text
  pub build_directory : Option Text
  pub members : List Member
  pub default_members : List Text
  pub metadata : Option Text

-- of a `GroupRecord`
pub record Group : Type 0 where
  pub name : Text
  pub filter : Text

-- of a `WorkspaceRecord`
pub record Workspace : Type 0 where
  pub packages : List Package
  pub links : List Link
  pub workspace : WorkspaceDetails
  pub groups : List Group
  pub default_filter : Option Text
