use Rattle.std.proofs.Common.{◌∙◌, ◌||◌, rules, sym, tests}
use Rattle.std.proofs.lemmas.Iterator.{YieldsList-from_slice}
use Rattle.std.proofs.lemmas.Iterator.Search.{any_from_yields_List}
use Rattle.std.specs.List.{list_any}
use Rattle.guppy_feature_nodes.specs.Orders.{is_firm_line}
use Rattle.guppy_feature_nodes.proofs.orders.is_firm_edge.Goals as goal

pub returns-else-is_unconditional : goal.returns-else-is_unconditional
returns-else-is_unconditional c =
    let firm = is_firm_line c.args.links.now in
    let found = any_from_yields_List firm _ _ c.any.result c.any.ensures.ran (YieldsList-from_slice c.lines-lines.result.now cc) (λ x b q k. search (rules, tests)) in
    let never = sym c.if-is_unconditional.false ∙ c.is_unconditional.ensures.answer in
    found ∙ λ i. never i || list_any firm (c.lines-lines.ensures.value i)
