use Rattle.std.proofs.Common.{◌∙◌, Global, String, bytes_eq, rules, string_bytes, sym, tests}
use Rattle.std.proofs.lemmas.Iterator.{YieldsList-from_slice}
use Rattle.std.proofs.lemmas.Iterator.Search.{any_from_yields_List}
use Rattle.list_facts.proofs.Quantifiers.{list_any-map}
use Rattle.cargo_record.proofs.members.is_among.Goals as goal

pub returns : goal.returns
returns c =
    any_from_yields_List (λ (other : String Global). bytes_eq (string_bytes other) c.args.id.now) _ _ c.any.result c.any.ensures.ran (YieldsList-from_slice c.args.ids.now cc) (λ x b q k. search (rules, tests)) ∙ sym (list_any-map (λ other. bytes_eq other c.args.id.now) string_bytes c.args.ids.now)
