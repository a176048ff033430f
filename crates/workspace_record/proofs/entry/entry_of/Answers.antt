use Rattle.std.proofs.lemmas.Grind.{common_steps}
use Rattle.std.proofs.lemmas.Str.Pattern.{ends_text, starts_text, split_once_first}
use Rattle.std.proofs.Common.{◌≡◌, ◌∙◌, None, sym, codes, false, lit<, arith}
use Rattle.workspace_record.specs.Entries.{Strong, entry_value, is_slash, slash_entry}
use Rattle.list_facts.proofs.Quantifiers.{list_any_from_position_or_len}
use Rattle.workspace_record.proofs.entry.entry_of.Goals as goal

pub returns-in-None-split_once : goal.returns-in-None-split_once
returns-in-None-split_once c =
    let text = c.args.text.now in
    rw (sym (starts_text false (codes "dep:") text c.in-None.ensures.cases), list_any_from_position_or_len is_slash text (split_once_first 47 text None c.in-None-split_once.ensures.cases (lit< tt)))

pub returns-in-None-strip_suffix : goal.returns-in-None-strip_suffix
returns-in-None-strip_suffix c =
    let name = c.in-Some-split_once.name.now in
    let feature = c.in-Some-split_once.feature.now in
    let strong : slash_entry name feature ≡ Strong name feature = rw (sym (ends_text false (codes "?") name c.in-None-strip_suffix.ensures.cases)) in
    let whole : slash_entry name feature ≡ entry_value c.args.text.now = grind (arith, common_steps) in
    sym strong ∙ whole
