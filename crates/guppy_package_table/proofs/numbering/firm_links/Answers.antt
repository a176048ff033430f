use Rattle.std.proofs.Common.{not, ap}
use Rattle.workspace_record.specs.Records.{Link}
use Rattle.guppy_package_table.specs.LinkRows.{is_dev_only}
use Rattle.guppy_package_table.proofs.PushFacts.{mapped_all, mapped_more}
use Rattle.guppy_package_table.proofs.numbering.firm_links.Goals as goal

pub loop-row-preserved : goal.loop-row-preserved
loop-row-preserved c =
    mapped_more (λ (l : Link). not (is_dev_only l)) c.args.links.now c.loop-row.row-index c.row-item.result c.loop-row-test.true c.row-item.is _ _ _ c.loop-row.invariant c.in_ok-push.ensures.items (ap not c.is_dev_only.ensures)

pub returns : goal.returns
returns c = mapped_all (λ (l : Link). not (is_dev_only l)) c.args.links.now c.loop-row.row-index _ c.loop-row-test.false c.loop-row.invariant
