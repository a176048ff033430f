use Rattle.std.proofs.Common.{◌≡◌, map, take}
use Rattle.guppy_package_rules.specs.Found.{lent_key}
use Rattle.guppy_package_rules.specs.Rules.{link_key}
use Rattle.guppy_package_rules.proofs.link_rules.first_repeated_link.Given as goal

abbrev pub invariant-loop-link : goal.invariant-loop-link
invariant-loop-link l = map lent_key l.keys.items ≡ map link_key (take l.link-index l.links)
