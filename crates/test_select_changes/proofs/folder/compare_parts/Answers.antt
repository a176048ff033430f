use Rattle.std.proofs.Common.{sym, ◌∙◌}
use Rattle.std.specs.Cmp.Derive.Mapped.{lex_map}
use Rattle.list_facts.specs.Ascending.{text_cmp}
use Rattle.test_select_changes.proofs.folder.compare_parts.Goals as goal

pub returns : goal.returns
returns c = c.cmp.ensures ∙ sym (lex_map (λ part. part.now) text_cmp c.args.a.now c.args.b.now)
