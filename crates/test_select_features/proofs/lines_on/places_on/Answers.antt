use Rattle.std.proofs.Common.{rules, ◌≡◌, ◌+◌, ◌<◌, ◌++◌, [], ◌∷◌, Some, true, false, refl, subst, slice_get, get_or, length}
use Rattle.std.proofs.lemmas.Option.{slice_get_read}
use Rattle.test_select_features.specs.LinesOn.{line_is_on}
use Rattle.test_select_features.proofs.PlacesOn.{ArePlaces, place_added, place_left}
use Rattle.test_select_features.proofs.lines_on.places_on.Goals.{then-line_is_on+in_ok-push, else-line_is_on}
use Rattle.test_select_features.proofs.lines_on.places_on.Goals as goal

pub loop-place-preserved : goal.loop-place-preserved
loop-place-preserved c =
    let test = line_is_on c.args.in_workspace c.args.features.now c.args.table.now c.args.link.now in
    let lines = c.args.link.now.lines in
    let i = c.loop-place.place in
    let line = c.line-item.result in
    let before = c.loop-place.places.items in
    let within : i < length lines = search rules in
    let at : line ≡ get_or lines i line = search rules in
    let is : slice_get lines i ≡ Some line = slice_get_read lines (length lines) i line refl within at in
    elim c.if-line_is_on.branch [
      | then-line_is_on+in_ok-push w ↦
          let passes : test line ≡ true = search rules in
          let new : before ++ i ∷ [] ≡ c.if-line_is_on.places.items = search rules in
          subst (ArePlaces test lines (i + 1)) new (place_added test lines i line is before c.loop-place.invariant passes)
      | else-line_is_on w ↦
          let fails : test line ≡ false = search rules in
          let same : before ≡ c.if-line_is_on.places.items = search rules in
          subst (ArePlaces test lines (i + 1)) same (place_left test lines i line is before c.loop-place.invariant fails)
    ]
