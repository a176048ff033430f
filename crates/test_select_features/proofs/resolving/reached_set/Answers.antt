use Rattle.std.proofs.Common.{rules}
use Rattle.test_select_features.proofs.VerdictFacts.{each_resolved_least}
use Rattle.test_select_features.proofs.resolving.reached_set.Goals as goal

pub returns : goal.returns
returns c = each_resolved_least c.args.table.now c.args.query _ _ (λ o b t h. search rules) c.least.ensures.least c.resolve_with_fn.result c.resolve_with_fn.ensures.graph c.resolve_with_fn.ensures.ok
