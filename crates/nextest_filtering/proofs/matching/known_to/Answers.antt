use Rattle.std.proofs.Common.{rules, ◌≡◌, ◌∙◌, ◌↔◌, ℕ, ◌+◌, ◌<◌, ◌≤◌, ◌++◌, [], ◌∷◌, List, Bor, ap, sym, subst, get_or, length, map, take}
use Rattle.std.proofs.lemmas.List.{map-append, take_all, take_more}
use Rattle.guppy_package_graph.specs.Finding.{IsNamed}
use Rattle.nextest_filtering.proofs.KnownFacts.{known_as, known_more, named_both, named_over, unknown_as}
use Rattle.nextest_filtering.proofs.matching.known_to.Goals as goal
use Rattle.nextest_filtering.proofs.matching.known_to.Goals.{then-is_ok+in_ok-push, else-is_ok}

pub loop-id-preserved : goal.loop-id-preserved
loop-id-preserved c =
    let g = c.args.graph.now in
    let text : Bor (List ℕ) → List ℕ = λ id. id.now in
    let ids = c.args.ids.now in
    let i = c.loop-id.id-index in
    let id = c.id-item.result in
    let before = map text (take i ids) in
    let known = map text c.loop-id.known.items in
    let within : i < length ids = search rules in
    let at : id ≡ get_or ids i id = search rules in
    let grown : map text (take (i + 1) ids) ≡ before ++ text id ∷ [] =
    ap (map text) (take_more ids i id within) ∙ map-append text (take i ids) (get_or ids i id ∷ []) ∙ ap (λ x. before ++ text x ∷ []) (sym at) in
    let was = c.loop-id.invariant in
    elim c.if-is_ok.branch [
      | then-is_ok+in_ok-push w ↦
          let place = known_as g (text id) c.metadata.result c.metadata.ensures.found (sym c.is_ok.ensures.value ∙ w.if-is_ok.true) in
          let more : map text c.if-is_ok.known.items ≡ known ++ text id ∷ [] =
          ap (λ k. map text k.items) w.known-is ∙ ap (map text) w.in_ok-push.ensures.items ∙ map-append text c.loop-id.known.items (id ∷ []) in
          record {
            known = known_more g known (map text c.if-is_ok.known.items) (text id) place more was.known;
            same = named_both g known (map text c.if-is_ok.known.items) before (map text (take (i + 1) ids)) (text id) more grown was.same;
          }
      | else-is_ok w ↦
          let unknown = unknown_as g (text id) c.metadata.result c.metadata.ensures.found (sym c.is_ok.ensures.value ∙ w.if-is_ok.false) in
          let kept : c.if-is_ok.known ≡ c.loop-id.known = w.known-is in
          rw kept (record {
            known = was.known;
            same = named_over g known before (map text (take (i + 1) ids)) (text id) unknown grown was.same;
          })
    ]

pub returns-clause-same : goal.returns-clause-same
returns-clause-same c place =
    let text : Bor (List ℕ) → List ℕ = λ id. id.now in
    let ids = c.args.ids.now in
    let past : length ids ≤ c.loop-id.id-index = search rules in
    subst (λ xs. IsNamed c.args.graph.now (map text c.loop-id.known.items) place ↔ IsNamed c.args.graph.now (map text xs) place) (take_all c.loop-id.id-index ids past) (c.loop-id.invariant.same place)
