use Rattle.std.proofs.Common.{refl}
use Rattle.guppy_feature_graph.proofs.SetFacts.{ok_is}
use Rattle.guppy_feature_graph.proofs.TakeFacts.{judged_by}
use Rattle.guppy_feature_graph.proofs.package_sets.set_to_feature_set.Goals as goal

pub returns-in-Ok-clause-ok : goal.returns-in-Ok-clause-ok
returns-in-Ok-clause-ok g c =
    let ok = c.in-Ok.ensures.ok in
    ok_is _ _ c.found.result c.found.ensures (ok.0, judged_by c.in_ok-wanted.ensures.members ok.1, ok.2, record { graph = refl; members = ok.3 })
