-- Where a package may be published: anywhere, where no list is given, else to the registries of the list.
use Rattle.std.specs.Prelude.{Bool, true, List, Option, None, Some}
use Rattle.std.specs.List.{list_any}
use Rattle.std.specs.Str.{bytes_eq}
use Rattle.workspace_record.specs.Records.{Text}

-- anywhere where no list is given, else to the registries of the list (from Cargo's reference, "The publish field")
abbrev pub may_publish_to : Text → Option (List Text) → Bool
may_publish_to registry None = true
may_publish_to registry (Some registries) = list_any (bytes_eq registry) registries
