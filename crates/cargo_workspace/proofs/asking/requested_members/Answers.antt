use Rattle.std.proofs.Common.{◌∙◌, None, Some, codes, sym}
use Rattle.cargo_workspace.proofs.AskingFacts.{all_given}
use Rattle.cargo_workspace.proofs.asking.requested_members.Goals as goal

pub returns-in-Some : goal.returns-in-Some
returns-in-Some c = record { asks = all_given c.args.asked.now (codes "package") c.get_strs.result (Some c.in-Some.names) c.get_strs.ensures c.in-Some.is }

pub returns-in-None : goal.returns-in-None
returns-in-None c = record { asks = (all_given c.args.asked.now (codes "package") c.get_strs.result None c.get_strs.ensures c.in-None.is, sym c.is_given.ensures.given ∙ c.if-is_given.true) }

pub returns-in-None-2 : goal.returns-in-None-2
returns-in-None-2 c = record { asks = (all_given c.args.asked.now (codes "package") c.get_strs.result None c.get_strs.ensures c.in-None.is, sym c.is_given.ensures.given ∙ c.if-is_given.false) }
