use Rattle.std.proofs.Common.{rules, ◌≡◌, ◌∙◌, ◌<◌, ◌++◌, [], ◌∷◌, Bool, List, filter, length, append-nil, ap, sym, arith, if◌then◌else◌}
use Rattle.std.proofs.lemmas.Bool.Decides.{nat_tests}
use Rattle.workspace_record.specs.Records.{Line, Link}
use Rattle.workspace_record.specs.LinesAt.{lines_at}
use Rattle.test_select_features.specs.LinesOn.{line_is_on}
use Rattle.test_select_features.proofs.PlacesOn.{places_none, places_some}
use Rattle.test_select_features.proofs.switched_graph.push_link_on.Goals.{then-not-is_empty+in_ok-copy_some+in_ok-push, else-not-is_empty}
use Rattle.test_select_features.proofs.switched_graph.push_link_on.Goals as goal

pub returns : goal.returns
returns c =
    let test : Line → Bool = line_is_on c.args.in_workspace c.args.features.now c.args.table.now c.args.row.now in
    let row : Link = c.args.row.now in
    let places = c.in_ok-places.places.items in
    let old = c.args.links.now.items in
    let picked = c.in_ok-places.ensures.lines in
    let row_if : Bool → List Link = λ b. old ++ (if b then record row { lines = filter test row.lines } ∷ [] else []) in
    elim c.if-not-is_empty.branch [
      | then-not-is_empty+in_ok-copy_some+in_ok-push w ↦
          let some : 0 < length places = grind (arith, nat_tests) in
          let added : c.if-not-is_empty.links.items ≡ old ++ record row { lines = lines_at row.lines places } ∷ [] = search rules in
          added ∙ ap (λ lines. old ++ record row { lines = lines } ∷ []) picked ∙ sym (ap row_if (places_some test row.lines places some c.in_ok-places.ensures.in_range picked))
      | else-not-is_empty w ↦
          let none : length places ≡ 0 = grind (arith, nat_tests) in
          let same : c.if-not-is_empty.links.items ≡ old = search rules in
          same ∙ sym (append-nil old) ∙ sym (ap row_if (places_none test row.lines places none picked))
    ]
