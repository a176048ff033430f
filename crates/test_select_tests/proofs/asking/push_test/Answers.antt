use Rattle.std.proofs.Common.{◌≡◌, ◌∙◌, ◌∷◌, ◌++◌, [], List, ap, map, string_bytes}
use Rattle.std.proofs.lemmas.List.{map-append}
use Rattle.list_facts.specs.Texts.{pair_of}
use Rattle.workspace_record.specs.Records.{Text}
use Rattle.test_select_tests.proofs.asking.push_test.Goals as goal

pub returns : goal.returns
returns c =
    let old : List (Text × Text) = map pair_of c.args.chosen.now.items in
    let pair : pair_of (c.in_ok-id.id, c.args.name) ≡ (c.args.id.now, string_bytes c.args.name) = λ i. (c.in_ok-id.ensures.ok i, string_bytes c.args.name) in
    ap (map pair_of) c.in_ok-push.ensures.items ∙ map-append pair_of c.args.chosen.now.items ((c.in_ok-id.id, c.args.name) ∷ []) ∙ ap (λ (x : Text × Text). old ++ x ∷ []) pair
