use Rattle.std.proofs.Common.{ap, ◌∙◌}
use Rattle.indexmap.specs.IndexSet.{insert_key}
use Rattle.workspace_record.specs.Equality.{text_eq}
use Rattle.workspace_record.specs.Records.{Member}
use Rattle.guppy_package_table.proofs.IdFacts.{ids_more}
use Rattle.guppy_package_table.proofs.PushFacts.{mapped_all}
use Rattle.guppy_package_table.proofs.members.member_ids_of.Goals as goal

pub loop-member-preserved : goal.loop-member-preserved
loop-member-preserved c =
    let is = c.as_str.ensures.value ∙ ap (λ (m : Member). m.package_id) (c.member.view_is ∙ c.member-item.is) in
    ids_more (λ m. m.package_id) c.args.members.now c.loop-member.member-index c.member-item.result c.loop-member-test.true c.requires c.loop-member.ids.keys c.insert_id.new.ids.keys c.loop-member.invariant (c.in_ok-insert_id.ensures ∙ ap (insert_key text_eq c.loop-member.ids.keys) is)

pub returns : goal.returns
returns c = mapped_all (λ (m : Member). m.package_id) c.args.members.now c.loop-member.member-index _ c.loop-member-test.false c.loop-member.invariant
