use Rattle.std.specs.Prelude.{List, Option, None, Some}
use Rattle.list_facts.specs.Texts.{texts}
use Rattle.workspace_record.specs.Records.{Text}
use Rattle.guppy_package_parts.specs.declared.package_publish.PackagePublish.{PackagePublish}
use Rattle.guppy_package_parts.specs.declared.package_publish.PackagePublish.TheVariants.{Unrestricted, Registries}

-- what contracts see of a restriction: the list of registries, if there is one
abbrev pub publish_view : PackagePublish → Option (List Text)
publish_view Unrestricted = None
publish_view (Registries registries) = Some (texts registries.now)
