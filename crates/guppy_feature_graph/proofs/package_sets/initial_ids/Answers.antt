use Rattle.std.proofs.Common.{◌≡◌, ◌∙◌, ◌++◌, ◌∷◌, [], ℕ, List, Bor, ap, append-nil, append_assoc, map, sym}
use Rattle.std.proofs.lemmas.List.{map-append}
use Rattle.std.proofs.lemmas.Option.{get_or_from_slice_get}
use Rattle.list_facts.proofs.Lists.{map-map}
use Rattle.guppy_package_table.specs.Tables.{TableValue, id_at, ids_of}
use Rattle.guppy_package_graph.specs.Views.{all_left, graph_of, packages_graph_of, place_of, places_left, seen}
use Rattle.guppy_feature_graph.specs.PackageFeatures.{id_seen}
use Rattle.guppy_feature_graph.proofs.package_sets.initial_ids.Goals as goal

pub loop-package-init : goal.loop-package-init
loop-package-init c =
    let text : Bor (List ℕ) → List ℕ = λ id. id.now in
    let p = c.initials-packages.result in
    ap (λ (xs : List (Bor (List ℕ))). map text xs ++ map id_seen (all_left p)) c.new-ids.ensures.items ∙ map-map id_seen (λ v. (packages_graph_of p, v)) (places_left p) ∙ ap (λ (t : TableValue). map (id_at t) (places_left p)) c.initials-packages.ensures.graph ∙ ap (map (id_at c.args.query.now.graph)) c.initials-packages.ensures.initials

pub loop-package-preserved : goal.loop-package-preserved
loop-package-preserved c =
    let text : Bor (List ℕ) → List ℕ = λ id. id.now in
    let m = c.in-Some.«package» in
    let before = c.loop-package.ids.items in
    let id = c.id.result in
    let rest = map id_seen (all_left c.next.new.self) in
    let is : id_seen (seen m) ≡ id.now = get_or_from_slice_get (ids_of (graph_of m).packages) (place_of m) id.now [] c.id.ensures.id in
    ap (λ (xs : List (Bor (List ℕ))). map text xs ++ rest) c.in_ok-push.ensures.items ∙ ap (λ xs. xs ++ rest) (map-append text before (id ∷ [])) ∙ append_assoc (map text before) (id.now ∷ []) rest ∙ ap (λ t. map text before ++ t ∷ rest) (sym is) ∙ ap (λ xs. map text before ++ map id_seen xs) (sym c.in-Some.ensures.steps) ∙ c.loop-package.invariant

pub returns : goal.returns
returns c =
    let text : Bor (List ℕ) → List ℕ = λ id. id.now in
    let ids = map text c.loop-package.ids.items in
    sym (append-nil ids) ∙ ap (λ xs. ids ++ map id_seen xs) (sym c.in_default.ensures.steps.0) ∙ c.loop-package.invariant
