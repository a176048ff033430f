use Rattle.std.proofs.Common.{◌≡◌, ◌↔◌, true, IsTrue, length, replicate, subst, ap, ◌∙◌}
use Rattle.numbered_graph.specs.Paths.{IsReached}
use Rattle.numbered_graph.specs.Sets.{has}
use Rattle.numbered_graph.proofs.WalkFacts.{reached_by_all}
use Rattle.numbered_graph.proofs.reaching.reach_counted.Goals as goal

pub returns-clause-reached : goal.returns-clause-reached
returns-clause-reached g c = λ v.
    let flags : c.deref.result.now ≡ replicate (length c.args.graph.now.links) true = c.deref.ensures.value ∙ c.in_ok-passes.ensures ∙ ap (λ links. replicate (length links) true) c.links.ensures.value in
    let by_flags = subst (λ passes. IsTrue (has c.in_ok-reached.reached v) ↔ IsReached c.args.direction c.args.graph.now.links (has passes) c.args.starts.now v) flags (c.in_ok-reached.ensures.reached v) in
    let all = reached_by_all c.args.direction c.args.graph.now.links c.args.starts.now v in
    (λ h. all.0 (by_flags.0 h), λ h. by_flags.1 (all.1 h))
