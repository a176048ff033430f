use Rattle.std.proofs.Common.{rules}
use Rattle.std.proofs.lemmas.Iterator.{YieldsList-from_map, YieldsList-from_slice, items_from_collect}
use Rattle.guppy_package_table.specs.Tables.{place_among}
use Rattle.guppy_package_table.proofs.members.member_numbers.Goals as goal

pub returns : goal.returns
returns c =
    items_from_collect _ c.collect.ensures.ran (YieldsList-from_map _ (place_among c.args.members.now.keys) (YieldsList-from_slice c.args.package_ids.now cc) c.map.ensures.closure (λ x r q k. search rules))
