use Rattle.std.proofs.Common.{ap, ◌∙◌}
use Rattle.workspace_record.specs.Records.{Link as Row}
use Rattle.guppy_package_table.specs.Tables.{link_between, place_among}
use Rattle.guppy_package_table.proofs.PushFacts.{mapped_all, mapped_more}
use Rattle.guppy_package_table.proofs.numbering.numbered_links.Goals as goal

pub loop-row-preserved : goal.loop-row-preserved
loop-row-preserved c =
    let ids = c.args.ids.now.keys in
    let from = c.place_of_id.ensures ∙ ap (place_among ids) (c.as_str.ensures.value ∙ ap (λ (l : Row). l.from) c.row.view_is) in
    let to = c.place_of_id-in-loop-row.ensures ∙ ap (place_among ids) (c.as_str-in-loop-row.ensures.value ∙ ap (λ (l : Row). l.to) c.row.view_is) in
    mapped_more (link_between c.args.ids.now.keys) c.args.links.now c.loop-row.row-index c.row-item.result c.loop-row-test.true c.row-item.is _ _ _ c.loop-row.invariant c.in_ok-push.ensures.items (λ i. record { from = from i; to = to i })

pub returns : goal.returns
returns c = mapped_all (link_between c.args.ids.now.keys) c.args.links.now c.loop-row.row-index _ c.loop-row-test.false c.loop-row.invariant
