use Rattle.std.proofs.Common.{◌≡◌, ◌↔◌, List, sym, subst, IsTrue}
use Rattle.workspace_record.specs.Equality.{lists_decide, texts_decide}
use Rattle.workspace_record.specs.Records.{Text}
use Rattle.guppy_package_graph.proofs.package_graph.PackageGraph.same_packages.Goals as goal

pub returns : goal.returns
returns c =
    let a = c.package_ids.result.now in
    let b = c.package_ids-2.result.now in
    let same = subst (λ answer. IsTrue answer ↔ (a ≡ b)) (sym c.eq.ensures) (lists_decide texts_decide a b) in
    record { same = subst (λ (p : List Text × List Text). IsTrue c.eq.result ↔ (p.0 ≡ p.1)) (λ i. (c.package_ids.ensures.ids i, c.package_ids-2.ensures.ids i)) same }
