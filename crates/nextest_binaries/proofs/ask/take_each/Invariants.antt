use Rattle.std.proofs.Common.{map}
use Rattle.list_facts.specs.Texts.{texts}
use Rattle.nextest_binaries.proofs.Taking.{AreTaken}
use Rattle.nextest_binaries.proofs.ask.take_each.Given as goal

abbrev pub invariant-loop-place : goal.invariant-loop-place
invariant-loop-place l = AreTaken l.fn.listings (texts l.ids) l.place (map (λ v. texts v.items) l.taken.items) l.listings
