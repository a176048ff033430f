use Rattle.std.proofs.Common.{◌∙◌, sym}
use Rattle.list_facts.proofs.Quantifiers.{list_any-map}
use Rattle.guppy_feature_nodes.specs.Joining.{key_eq}
use Rattle.guppy_feature_nodes.specs.KeyViews.{key_view}
use Rattle.guppy_feature_nodes.proofs.weights.has_weight.Goals as goal

pub returns : goal.returns
returns c = c.contains.ensures ∙ sym (list_any-map (key_eq (key_view c.args.key)) key_view c.args.weights.now.keys)
