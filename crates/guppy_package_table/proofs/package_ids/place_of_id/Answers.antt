use Rattle.std.proofs.Common.{◌∙◌, sym}
use Rattle.std.specs.Str.{bytes_eq}
use Rattle.guppy_package_table.proofs.IdFacts.{at_end}
use Rattle.guppy_package_table.proofs.package_ids.place_of_id.Goals as goal

pub returns-in-None : goal.returns-in-None
returns-in-None c = c.len.ensures.len ∙ sym (at_end (bytes_eq c.args.text.now) c.args.ids.now.keys (sym c.find_id.ensures ∙ c.in-None.is))
