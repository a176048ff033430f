use Rattle.std.proofs.Common.{ap, length}
use Rattle.guppy_feature_graph.specs.Queries.{QueryValue}
use Rattle.guppy_feature_graph.specs.Sets.{SetValue}
use Rattle.guppy_feature_graph.specs.Views.{feature_graph_of}
use Rattle.guppy_feature_graph.proofs.SetFacts.{ok_is}
use Rattle.guppy_feature_graph.proofs.TakeFacts.{judged_by, taken_query}
use Rattle.guppy_feature_graph.proofs.filtered.query_by_filter.Goals as goal

pub returns-in-Ok-clause-ok : goal.returns-in-Ok-clause-ok
returns-in-Ok-clause-ok g c =
    let of = feature_graph_of c.args.graph.now in
    let ok = c.in-Ok.ensures.ok in
    let starts = c.in-Ok.taken.starts.items in
    let query : QueryValue = record { graph = c.of-initials.result.graph; direction = c.args.direction; initials = starts } in
    let is = ap (λ (s : SetValue). record { graph = s.graph; direction = c.args.direction; initials = starts }) c.of-initials.ensures in
    ok_is _ query c.found.result c.found.ensures (ok.0, judged_by c.in_ok-wanted.ensures.members ok.1, ok.2, taken_query of c.args.direction (length of.nodes) query c.in-Ok.taken.included starts ok.0 is c.in-Ok.ensures.starts ok.3)
