-- Folders of manifests.
use Rattle.std.specs.Prelude.{◌-◌, Bool, length, take, drop, bytes_eq, codes, if◌then◌else◌, Option, Some, None}
use Rattle.workspace_record.specs.Records.{Text}

-- the text ends as the path of a manifest
abbrev pub ends_as_manifest : Text → Bool
ends_as_manifest path = bytes_eq (drop (length path - 11) path) (codes "/Cargo.toml")

-- the folder of a manifest
abbrev pub folder_of : Text → Text
folder_of path = if ends_as_manifest path then take (length path - 11) path else path

-- the folder of a package that comes from no source
abbrev pub own_folder : Option Text → Text → Option Text
own_folder (Some source) manifest_path = None
own_folder None manifest_path = Some (folder_of manifest_path)
