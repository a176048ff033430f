use Rattle.workspace_record.proofs.LinkFacts.{names_more}
use Rattle.workspace_record.proofs.link_names.link_names.Goals as goal

pub loop-link-preserved : goal.loop-link-preserved
loop-link-preserved c = names_more c.args.links.now c.loop-link.link-index c.link-item.result c.loop-link-test.true c.link-item.is c.loop-link.names c.push_link.new.names c.loop-link.invariant c.in_ok-push_link.ensures
