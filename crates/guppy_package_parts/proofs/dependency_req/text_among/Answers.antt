use Rattle.std.proofs.Common.{◌∙◌, ap, sym}
use Rattle.std.specs.Str.{bytes_eq}
use Rattle.guppy_package_parts.proofs.RequirementFacts.{no_text_more}
use Rattle.guppy_package_parts.proofs.dependency_req.text_among.Goals as goal

pub loop-name-preserved : goal.loop-name-preserved
loop-name-preserved c = no_text_more c.args.text.now c.args.names.now c.loop-name.name-index c.name-item.result c.loop-name-test.true c.name-item.is c.loop-name.invariant (ap (bytes_eq c.args.text.now) (sym c.as_str.ensures.value) ∙ sym c.if-eq.ensures)
