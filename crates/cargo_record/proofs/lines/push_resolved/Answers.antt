use Rattle.cargo_record.proofs.lines.push_resolved.Goals as goal

pub returns-in_ok-push_line-in-To : goal.returns-in_ok-push_line-in-To
returns-in_ok-push_line-in-To c = record { pushed = rw c.in-To.is c.in_ok-push_line-in-To.ensures.more; declared = c.in_ok-push_line-in-To.ensures.declared; apart = c.in_ok-push_line-in-To.ensures.apart; refused = tt }
