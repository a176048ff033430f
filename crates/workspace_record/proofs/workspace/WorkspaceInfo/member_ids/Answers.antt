use Rattle.std.proofs.Common.{Bor, ap, rules, ◌∙◌}
use Rattle.std.proofs.lemmas.Iterator.{YieldsList-from_map_by, YieldsList-from_slice}
use Rattle.std.proofs.lemmas.Iterator.Consumers.{map_from_collect}
use Rattle.workspace_record.specs.Records.{Member, Text}
use Rattle.workspace_record.proofs.workspace.WorkspaceInfo.member_ids.Goals as goal

pub returns : goal.returns
returns c =
    let members = c.deref.ensures.value ∙ ap (λ w. w.members) c.self.view_is in
    map_from_collect _ c.collect.ensures.ran (YieldsList-from_map_by _ (λ (t : Bor Text). t.now) (λ (m : Member). m.package_id) (YieldsList-from_slice c.args.self.now.members cc) c.map.ensures.closure (λ x r q k. search rules))
