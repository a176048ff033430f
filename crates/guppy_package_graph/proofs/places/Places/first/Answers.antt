use Rattle.std.proofs.Common.{ℕ, subst, All, ◌<◌, length}
use Rattle.std.proofs.lemmas.List.Elements.{All-tail}
use Rattle.guppy_package_graph.proofs.places.Places.first.Goals as goal

pub invariant_of-self : goal.invariant_of-self
invariant_of-self c =
    let within : ℕ → Type 0 = λ v. v < length c.args.self.now.graph.now.packages in
    record { in_range = All-tail within c.in_ok-first.first.now c.in_ok-first.others.now (subst (All within) c.in_ok-first.ensures.cases.0 c.args.self.now.in_range) }
