use Rattle.std.proofs.Common.{◌++◌, ◌∷◌, [], get_or, take, take_all, subst, sym}
use Rattle.std.proofs.lemmas.List.{take_more}
use Rattle.nextest_filter_tokens.specs.Copies.{SameFault}
use Rattle.nextest_filtering.specs.CopiedFaults.{AreSame}
use Rattle.nextest_filtering.proofs.CopiedFacts.{one_more}
use Rattle.nextest_filtering.proofs.refusals.copied.Goals as goal

pub loop-fault-preserved : goal.loop-fault-preserved
loop-fault-preserved c =
    let faults = c.args.faults.now in
    let seen = take c.loop-fault.fault-index faults in
    let fault = get_or faults c.loop-fault.fault-index c.fault-item.result in
    let copy = c.in_ok-copy.field-0 in
    let same = subst (λ f. SameFault f copy) c.fault-item.is c.in_ok-copy.ensures in
    let more = one_more seen c.loop-fault.copies.items fault copy c.loop-fault.invariant same in
    subst (λ fs. AreSame fs c.push.new.self.items) (sym (take_more faults c.loop-fault.fault-index c.fault-item.result c.loop-fault-test.true)) (subst (AreSame (seen ++ fault ∷ [])) (sym c.in_ok-push.ensures.items) more)

pub returns : goal.returns
returns c = subst (λ fs. AreSame fs c.loop-fault.copies.items) (take_all c.loop-fault.fault-index c.args.faults.now c.loop-fault-test.false) c.loop-fault.invariant
