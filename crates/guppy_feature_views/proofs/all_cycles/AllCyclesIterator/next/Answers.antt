use Rattle.std.proofs.Common.{ℕ, ◌<◌, All, Vec, Global, length, subst, sym, arith}
use Rattle.std.proofs.lemmas.List.Elements.{All-tail}
use Rattle.guppy_feature_views.proofs.all_cycles.AllCyclesIterator.next.Goals as goal

pub invariant_of-self : goal.invariant_of-self
invariant_of-self c =
    let within : Vec ℕ Global → Type 0 = λ x. All (λ v. v < length c.args.self.now.built.now.nodes) x.items in
    record { in_range = All-tail within c.in_ok-first.first.now c.in_ok-first.others.now (subst (All within) c.in_ok-first.ensures.cases.0 c.args.self.now.in_range) }

pub of-requires : goal.of-requires
of-requires c =
    let within : Vec ℕ Global → Type 0 = λ x. All (λ v. v < length c.args.self.now.built.now.nodes) x.items in
    subst (All (λ v. v < length c.args.self.now.built.now.nodes)) (sym c.deref.ensures.value) (subst (All within) c.in_ok-first.ensures.cases.0 c.args.self.now.in_range 0 c.in_ok-first.first.now (omega arith))
