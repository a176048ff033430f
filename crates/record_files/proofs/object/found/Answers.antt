use Rattle.std.proofs.Common.{ap, ◌∙◌, option_map}
use Rattle.json.specs.Value.{value_view}
use Rattle.record_files.specs.Trees.{data_of}
use Rattle.record_files.proofs.Trees.{seen_if, value_found}
use Rattle.record_files.proofs.object.found.Goals as goal

pub returns : goal.returns
returns c = seen_if c.get.result ∙ ap (option_map data_of) c.get.ensures ∙ value_found c.args.name.now (value_view c.args.value.now)
