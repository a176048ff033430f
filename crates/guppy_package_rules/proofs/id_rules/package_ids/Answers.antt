use Rattle.std.proofs.Common.{Bor, rules}
use Rattle.std.proofs.lemmas.Iterator.{YieldsList-from_map_by, YieldsList-from_slice}
use Rattle.std.proofs.lemmas.Iterator.Consumers.{map_from_collect}
use Rattle.workspace_record.specs.Records.{Package, Text}
use Rattle.guppy_package_rules.proofs.id_rules.package_ids.Goals as goal

pub returns : goal.returns
returns c =
    map_from_collect _ c.collect.ensures.ran (YieldsList-from_map_by _ (λ (t : Bor Text). t.now) (λ (p : Package). p.id) (YieldsList-from_slice c.args.packages.now cc) c.map.ensures.closure (λ x r q k. search rules))
