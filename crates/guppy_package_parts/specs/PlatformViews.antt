use Rattle.std.specs.Prelude.{◌≡◌, Bool, Option, Vec, map}
use Rattle.std.specs.Global.{Global}
use Rattle.std.specs.List.{AllZip}
use Rattle.workspace_record.specs.Records.{Text}
use Rattle.guppy_package_parts.specs.Statuses.{Asked, AskedAlways, AskedAny, AskedPlatforms}
use Rattle.guppy_package_parts.specs.declared.platform.PlatformSpec.{PlatformSpec}
use Rattle.guppy_package_parts.specs.declared.platform.PlatformSpec.TheVariants.{Always, Any, Platforms}

-- what contracts see of a question, where each platform gives these answers
abbrev pub spec_view : {P : Type 0} → (P → Text → Option Bool) → PlatformSpec P → Asked
spec_view answers Always = AskedAlways
spec_view answers Any = AskedAny
spec_view answers (Platforms platforms) = AskedPlatforms (map answers platforms.items)

-- the same question about clones of the same platforms, one of each
abbrev pub AsksOfClones : {P : Type 0} → (P → P → Type 0) → PlatformSpec P → PlatformSpec P → Type 0
AsksOfClones is_clone Always copy = copy ≡ Always
AsksOfClones is_clone Any copy = copy ≡ Any
AsksOfClones {P} is_clone (Platforms platforms) copy = (clones : Vec P Global) × (copy ≡ Platforms clones) × AllZip is_clone platforms.items clones.items
