use Rattle.std.proofs.Common.{◌≡◌, map, take}
use Rattle.guppy_package_parts.specs.Ternaries.{greatest, ternary_of}
use Rattle.guppy_package_parts.proofs.platform.greatest_answer.Given as goal

abbrev pub invariant-loop-platform : goal.invariant-loop-platform
invariant-loop-platform g l = l.greatest ≡ greatest (map (λ p. ternary_of (g.P.Platform.answers p l.spec)) (take l.platform-index l.platforms))
