use Rattle.std.proofs.Common.{map, take}
use Rattle.list_facts.specs.Texts.{texts}
use Rattle.nextest_binaries.specs.Listers.{Shown}
use Rattle.nextest_binaries.specs.Asking.{Answered}
use Rattle.nextest_binaries.proofs.ask.ask_each.Given as goal

abbrev pub invariant-loop-i : goal.invariant-loop-i
invariant-loop-i g l =
    let was : Shown = (goal.TestLister-dyn g l.fn.lister.now).shown l.fn.lister.now.1 in
    let is : Shown = (goal.TestLister-dyn g l.lister.now).shown l.lister.now.1 in
    Answered was (take l.i (map (λ b. b.id.now) l.binaries)) (map (λ v. texts v.items) l.listings.items) is
