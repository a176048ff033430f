use Rattle.std.proofs.Common.{Global, String, string_bytes, rules}
use Rattle.std.proofs.lemmas.Iterator.{YieldsList-from_map, YieldsList-from_slice, items_from_collect}
use Rattle.guppy_package_table.specs.Tables.{place_among}
use Rattle.guppy_package_table.proofs.members.default_places.Goals as goal

pub returns : goal.returns
returns c =
    items_from_collect _ c.collect.ensures.ran (YieldsList-from_map _ (λ (m : String Global). place_among c.args.ids.now.keys (string_bytes m)) (YieldsList-from_slice c.args.members.now cc) c.map.ensures.closure (λ x r q k. search rules))
