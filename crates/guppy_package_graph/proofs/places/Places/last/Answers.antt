use Rattle.std.proofs.Common.{ℕ, ◌<◌, length, refl}
use Rattle.guppy_package_graph.proofs.LastFacts.{all_before, all_last}
use Rattle.guppy_package_graph.proofs.places.Places.last.Goals as goal

pub invariant_of-self : goal.invariant_of-self
invariant_of-self c =
    let within : ℕ → Type 0 = λ v. v < length c.args.self.now.graph.now.packages in
    record { in_range = all_before _ _ c.in_ok-last.last.now c.in_ok-last.ensures.cases.0 within c.args.self.now.in_range }

pub returns : goal.returns
returns c =
    let within : ℕ → Type 0 = λ v. v < length c.args.self.now.graph.now.packages in
    let cases = c.in_ok-last.ensures.cases.0 in
    record { steps = cases; within = all_last _ _ c.in_ok-last.last.now cases within c.args.self.now.in_range; graph = refl }
