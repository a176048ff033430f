use Rattle.std.proofs.Common.{string_bytes, sym, ◌∙◌}
use Rattle.std.specs.Cmp.Derive.Mapped.{pointwise-map}
use Rattle.workspace_record.specs.Equality.{text_eq}
use Rattle.workspace_record.proofs.texts.same_texts.Goals as goal

pub returns : goal.returns
returns c = c.eq.ensures ∙ sym (pointwise-map string_bytes text_eq c.args.a.now c.args.b.now)
