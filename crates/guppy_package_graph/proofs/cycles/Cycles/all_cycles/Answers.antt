use Rattle.std.proofs.Common.{◌<◌, List, ℕ, All, length, subst, sym}
use Rattle.guppy_package_graph.proofs.PlaceFacts.{unmapped}
use Rattle.guppy_package_graph.proofs.cycles.Cycles.all_cycles.Goals as goal

pub of-requires : goal.of-requires
of-requires c =
    let small = λ (x : List ℕ). All (λ v. v < length c.self.inside.graph.now.packages) x in
    unmapped small (λ x. x.items) c.lists.result.now (subst (All small) (sym c.lists.ensures) c.self.invariant.within)
