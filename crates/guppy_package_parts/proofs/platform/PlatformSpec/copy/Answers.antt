use Rattle.std.proofs.Common.{refl, subst}
use Rattle.std.specs.List.{AllZip}
use Rattle.guppy_package_parts.proofs.platform.PlatformSpec.copy.Goals as goal

pub returns-in_ok-clones-in-Platforms : goal.returns-in_ok-clones-in-Platforms
returns-in_ok-clones-in-Platforms g c =
    let made = c.in_ok-clones-in-Platforms in
    record { clones = rw c.in-Platforms.is (made.clones, refl, subst (λ xs. AllZip g.P.Clone.is_clone xs made.clones.items) c.as_slice.ensures.value made.ensures.items) }
