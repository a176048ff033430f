use Rattle.std.proofs.Common.{◌≡◌, Bor, ℕ, Ok, ap, is_none, map, rules, string_bytes, ◌∙◌}
use Rattle.std.specs.Str.{bytes_eq}
use Rattle.std.proofs.lemmas.Iterator.{YieldsList-from_map_by, YieldsList-from_slice}
use Rattle.std.proofs.lemmas.Iterator.Consumers.{map_from_collect}
use Rattle.workspace_record.specs.Records.{Text}
use Rattle.guppy_package_rules.specs.Places.{first_repeat}
use Rattle.guppy_package_rules.proofs.distinct.is_distinct.Goals as goal

pub returns : goal.returns
returns c =
    let lent : map (λ (t : Bor Text). t.now) c.in_ok-lent.lent.items ≡ map string_bytes c.args.texts.now = map_from_collect {E = ℕ} (Ok c.in_ok-lent.lent) c.in_ok-lent.ensures.ran (YieldsList-from_map_by _ (λ (t : Bor Text). t.now) string_bytes (YieldsList-from_slice c.args.texts.now cc) c.map.ensures.closure (λ x r q k. search rules)) in
    let texts = ap (map (λ (t : Bor Text). t.now)) c.deref.ensures.value ∙ lent in
    let none : c.is_none.result ≡ is_none c.in_ok-first_repeated_text.field-0 = search rules in
    none ∙ ap is_none (c.in_ok-first_repeated_text.ensures ∙ ap (first_repeat bytes_eq) texts)
