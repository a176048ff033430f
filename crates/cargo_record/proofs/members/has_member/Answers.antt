use Rattle.std.proofs.Common.{◌∙◌, bytes_eq, rules, sym, tests}
use Rattle.std.proofs.lemmas.Iterator.{YieldsList-from_slice}
use Rattle.std.proofs.lemmas.Iterator.Search.{any_from_yields_List}
use Rattle.list_facts.proofs.Quantifiers.{list_any-map}
use Rattle.workspace_record.specs.Records.{Member}
use Rattle.cargo_record.proofs.members.has_member.Goals as goal

pub returns : goal.returns
returns c =
    any_from_yields_List (λ (member : Member). bytes_eq member.package_id c.args.id.now) _ _ c.any.result c.any.ensures.ran (YieldsList-from_slice c.args.members.now cc) (λ x b q k. search (rules, tests)) ∙ sym (list_any-map (λ other. bytes_eq other c.args.id.now) (λ (member : Member). member.package_id) c.args.members.now)
