use Rattle.std.proofs.Common.{◌-◌, ap, sym, ◌∙◌}
use Rattle.std.proofs.lemmas.List.{length-map}
use Rattle.std.proofs.lemmas.List.FromFn.{length-range_with_len}
use Rattle.guppy_package_graph.proofs.all_packages.AllPackages.left.Goals as goal

pub returns : goal.returns
returns c =
    let next = c.args.self.now.next in
    c.saturating_sub.ensures ∙ ap (λ n. n - next) c.package_count.ensures.count ∙ sym (length-map _ _ ∙ length-range_with_len next _)
