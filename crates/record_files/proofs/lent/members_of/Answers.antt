use Rattle.std.proofs.Common.{◌+◌, drop, sym, ap, ◌∙◌, arith}
use Rattle.json.specs.Value.{members_view}
use Rattle.record_files.specs.Trees.{members_data, lent_members}
use Rattle.record_files.proofs.Trees.{goes_in, lent_put}
use Rattle.record_files.proofs.lent.members_of.Goals as goal

pub loop-member-preserved : goal.loop-member-preserved
loop-member-preserved c =
    let l = c.loop-member in
    let ms = c.deref-member-items.result.now in
    let put = ap lent_members c.in_ok-insert.ensures.entries ∙ lent_put l.found.entries _ _ in
    ap (members_data (members_view (drop (l.member-index + 1) ms))) put ∙ sym (goes_in ms l.member-index c.member-item.result (lent_members l.found.entries) (omega arith) c.member-item.is) ∙ l.invariant
