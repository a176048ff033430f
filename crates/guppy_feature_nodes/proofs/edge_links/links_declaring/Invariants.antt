use Rattle.std.proofs.Common.{◌≡◌, take}
use Rattle.guppy_feature_nodes.specs.Lines.{links_shown}
use Rattle.guppy_feature_nodes.proofs.edge_links.links_declaring.Given as goal

abbrev pub invariant-loop-place : goal.invariant-loop-place
invariant-loop-place l = l.numbers.items ≡ links_shown l.links l.shown (take l.place-index l.places)
