use Rattle.std.proofs.Common.{◌≡◌, ◌∙◌, ◌∷◌, ◌++◌, [], List, append-nil, append_assoc, map, ap, refl, subst, sym}
use Rattle.std.proofs.lemmas.List.{map-append}
use Rattle.std.proofs.lemmas.Map.Iter.{rest_all, rest_more}
use Rattle.indexmap.specs.IndexMap.{values}
use Rattle.guppy_feature_nodes.specs.GroupViews.{group_view}
use Rattle.guppy_feature_nodes.specs.Groups.{AreKept}
use Rattle.guppy_feature_nodes.specs.JoinedViews.{joined_view}
use Rattle.guppy_feature_nodes.specs.Joining.{JoinedValue}
use Rattle.guppy_feature_nodes.specs.KeyViews.{key_view}
use Rattle.guppy_feature_nodes.specs.declared.groups.Group.{Group}
use Rattle.guppy_feature_nodes.specs.declared.joining.JoinedEdge.{JoinedEdge}
use Rattle.guppy_feature_nodes.proofs.JoinFacts.{kept_nil, kept_none, kept_one}
use Rattle.guppy_feature_nodes.proofs.joining.edges_of.Goals as goal

pub loop-group-init : goal.loop-group-init
loop-group-init c = ([], refl, kept_nil (map key_view c.args.weights.now.keys) _ (ap (map joined_view) c.in_ok-edges.ensures.items))

-- a group that was taken stands behind those before it
taken : (gs all : List JoinedValue) (g : Group) (left rest : List Group) → left ≡ g ∷ rest → gs ++ map group_view left ≡ all → (gs ++ group_view g ∷ []) ++ map group_view rest ≡ all
taken gs all g left rest next before =
    append_assoc gs (group_view g ∷ []) (map group_view rest) ∙ ap (λ (groups : List Group). gs ++ map group_view groups) (sym next) ∙ before

pub loop-group-preserved-in-Continue-branch-2 : goal.loop-group-preserved-in-Continue-branch-2
loop-group-preserved-in-Continue-branch-2 c =
    let before = c.loop-group.invariant in
    let group = c.in-Some.group in
    let old = c.loop-group.edges.items in
    let edge : JoinedEdge = record { head = group.first; lines = c.new.result } in
    let next = rest_more (λ (g : Group). g) c.loop-group.group-iterator c.next.new.self c.next.result group c.in-Some.is c.next.ensures.steps in
    let pushed = ap (map joined_view) c.in_ok-push.ensures.items ∙ map-append joined_view old (edge ∷ []) in
    (before.0 ++ group_view group ∷ [], taken before.0 _ group _ _ next before.1, kept_one (map key_view c.args.weights.now.keys) before.0 (map joined_view old) (group_view group) (joined_view edge) _ before.2 (sym c.gives_way.ensures ∙ c.if-not-gives_way.true) refl c.new.ensures pushed)

pub loop-group-preserved : goal.loop-group-preserved
loop-group-preserved c =
    let before = c.loop-group.invariant in
    let group = c.in-Some.group in
    let next = rest_more (λ (g : Group). g) c.loop-group.group-iterator c.next.new.self c.next.result group c.in-Some.is c.next.ensures.steps in
    (before.0 ++ group_view group ∷ [], taken before.0 _ group _ _ next before.1, kept_none (map key_view c.args.weights.now.keys) before.0 (map joined_view c.loop-group.edges.items) (group_view group) before.2 (sym c.gives_way.ensures ∙ c.if-not-gives_way.false))

pub returns : goal.returns
returns c =
    let before = c.loop-group.invariant in
    let none : c.loop-group.group-iterator ≡ [] = rest_all (λ (g : Group). g) c.loop-group.group-iterator c.next.new.self c.next.result c.in-None.is c.next.ensures.steps in
    let all : c.into_iter-group-iterator.result ≡ values c.args.groups.map = c.into_iter-group-iterator.ensures.into_iter_gives ∙ c.into_values-group-items.ensures.rest ∙ ap values c.into_map-map.ensures in
    let gs = sym (append-nil before.0) ∙ ap (λ (gs : List Group). before.0 ++ map group_view gs) (sym none) ∙ before.1 ∙ ap (map group_view) all in
    subst (λ (gs : List JoinedValue). AreKept (map key_view c.args.weights.now.keys) gs (map joined_view c.loop-group.edges.items)) gs before.2
