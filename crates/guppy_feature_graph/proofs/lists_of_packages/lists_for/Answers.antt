use Rattle.std.proofs.Common.{◌∙◌, ℕ, List, All, ap, map, subst, sym, arith}
use Rattle.std.proofs.lemmas.List.Elements.{All-tail}
use Rattle.list_facts.proofs.Lists.{map-map}
use Rattle.guppy_package_table.specs.Tables.{TableValue, id_at}
use Rattle.guppy_package_graph.specs.Directions.{direction_of}
use Rattle.guppy_package_graph.specs.PackagesViews.{all_left, packages_graph_of, packages_left}
use Rattle.guppy_package_graph.specs.Views.{seen}
use Rattle.guppy_feature_graph.specs.PackageFeatures.{id_seen}
use Rattle.guppy_feature_graph.proofs.ListFacts.{IsOwn, all_own, listing_all, listing_more, listing_none, own_list}
use Rattle.guppy_feature_graph.proofs.lists_of_packages.lists_for.Goals as goal

pub loop-package-init : goal.loop-package-init
loop-package-init c =
    let s = c.args.set.now in
    let p = c.packages-left.result in
    let t = packages_graph_of p in
    let is = map-map id_seen (λ v. (t, v)) (packages_left p) ∙ ap (λ (x : TableValue). map (id_at x) (packages_left p)) c.packages-left.ensures.graph ∙ ap (map (id_at c.args.packages.now.graph)) c.packages-left.ensures.listed in
    let own = all_own s c.args.packages.now (direction_of c.args.direction) t c.requires.packages c.packages-left.ensures.graph in
    (listing_none s _ (all_left p) c.new-lists.result.items is c.new-lists.ensures.items, subst (λ (xs : List ℕ). All (IsOwn s) (map (λ v. (t, v)) xs)) (sym c.packages-left.ensures.listed) own)

pub loop-package-preserved : goal.loop-package-preserved
loop-package-preserved c =
    let s = c.args.set.now in
    let m = seen c.in-Some.«package» in
    let after = all_left c.next.new.self in
    let was = c.loop-package.invariant in
    let steps = c.in-Some.ensures.steps in
    let own = subst (All (IsOwn s)) steps was.1 in
    let these = own_list s c.requires.sized c.requires.features c.requires.listed m c.in_ok-list.list (own 0 m (omega arith)) c.in_ok-list.ensures in
    (listing_more s _ (all_left c.loop-package.left) after m c.in_ok-list.list c.loop-package.lists.items c.push.new.self.items steps c.in_ok-push.ensures.items these was.0, All-tail (IsOwn s) m after own)

pub returns : goal.returns
returns c = listing_all c.args.set.now _ (all_left c.loop-package.left) c.loop-package.lists.items c.in_default.ensures.steps.0 c.loop-package.invariant.0
