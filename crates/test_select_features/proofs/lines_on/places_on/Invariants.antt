use Rattle.test_select_features.specs.LinesOn.{line_is_on}
use Rattle.test_select_features.proofs.PlacesOn.{ArePlaces}
use Rattle.test_select_features.proofs.lines_on.places_on.Given as goal

abbrev pub invariant-loop-place : goal.invariant-loop-place
invariant-loop-place l = ArePlaces (line_is_on l.in_workspace l.features l.table l.link) l.link.lines l.place l.places.items
