-- Edges, from the weights and the groups that were found.
use Rattle.std.proofs.Common.{◌≡◌, ◌∙◌, IfOk, ℕ, ◌||◌, Result, Ok, Err, Bool, true, false, cond, List, [], ◌∷◌, ◌++◌, All, append-nil, filter, map, not, refl, sym, subst, ap}
use Rattle.std.proofs.lemmas.List.{map-append}
use Rattle.std.proofs.lemmas.List.Elements.{All-cons, All-head, All-nil, All-push, All-tail, filter-append}
use Rattle.std.specs.List.{list_any}
use Rattle.std.specs.Map.{values_of}
use Rattle.guppy_package_parts.specs.SortedSets.{HoldsEach}
use Rattle.guppy_feature_demands.specs.Demands.{FormValue, FeatureToBase, NamedFeature, NamedFeatureDepColon, StrongSlash, WeakSlash, DependenciesSection, NumberedValue}
use Rattle.guppy_feature_demands.specs.Nodes.{first_of_each}
use Rattle.guppy_feature_nodes.specs.GroupViews.{entry_view, group_view}
use Rattle.guppy_feature_nodes.specs.Groups.{AreKept, group_at, is_outdone}
use Rattle.guppy_feature_nodes.specs.Joining.{AreJoined, HasLines, JoinedValue, Key, ends_of, gives_way_to, is_outweighed, join_key, key_eq, lines_joined, place_cmp, place_eq, same_edge}
use Rattle.guppy_feature_nodes.specs.Weights.{FindsWeights}
use Rattle.guppy_feature_nodes.specs.declared.edge_key.EdgeKey.{EdgeKey}
use Rattle.guppy_feature_nodes.specs.declared.groups.Group.{Group}

all_before : {X : Type 0} (P : X → Type 0) (xs ys : List X) → All P (xs ++ ys) → All P xs
all_before P [] ys all = All-nil P
all_before P (x ∷ xs) ys all = All-cons P x xs (All-head P x (xs ++ ys) all) (all_before P xs ys (All-tail P x (xs ++ ys) all))

at_last : {X : Type 0} (P : X → Type 0) (xs : List X) (y : X) → All P (xs ++ y ∷ []) → P y
at_last P [] y all = All-head P y [] all
at_last P (x ∷ xs) y all = at_last P xs y (All-tail P x (xs ++ y ∷ []) all)

abbrev HasAll : List NumberedValue → JoinedValue → Type 0
HasAll ds g = lines_joined ds (join_key g.head) ≡ g.lines

-- where there is no group there is no edge
pub kept_nil : (weights : List Key) (es : List JoinedValue) → es ≡ [] → AreKept weights [] es
kept_nil weights es none = record {
  heads = ap (map (λ (e : JoinedValue). e.head)) none;
  lines = λ ds all. subst (All (HasLines ds)) (sym none) (All-nil (HasLines ds));
}

module _ (weights : List Key) (gs es : List JoinedValue) (g : JoinedValue) where
  abbrev keeps : NumberedValue → Bool
  keeps d = not (is_outdone weights d)

  heads_more : (b : Bool) → is_outdone weights g.head ≡ b → filter keeps (map (λ x. x.head) (gs ++ g ∷ [])) ≡ filter keeps (map (λ x. x.head) gs) ++ cond (not b) (g.head ∷ []) []
  heads_more b e =
      ap (filter keeps) (map-append (λ (x : JoinedValue). x.head) gs (g ∷ [])) ∙ filter-append keeps (map (λ x. x.head) gs) (g.head ∷ []) ∙ ap (λ c. filter keeps (map (λ x. x.head) gs) ++ cond (not c) (g.head ∷ []) []) e

  -- a group that gives way
  pub kept_none : AreKept weights gs es → is_outdone weights g.head ≡ true → AreKept weights (gs ++ g ∷ []) es
  kept_none before e = record {
    heads = before.heads ∙ sym (heads_more true e ∙ append-nil (filter keeps (map (λ x. x.head) gs)));
    lines = λ ds all. before.lines ds (all_before (HasAll ds) gs (g ∷ []) all);
  }

  -- a group that is kept
  pub kept_one : (edge : JoinedValue) (new : List JoinedValue) → AreKept weights gs es → is_outdone weights g.head ≡ false → edge.head ≡ g.head → HoldsEach place_eq place_cmp g.lines edge.lines → new ≡ es ++ edge ∷ [] → AreKept weights (gs ++ g ∷ []) new
  kept_one edge new before e is held pushed = record {
    heads = ap (map (λ (x : JoinedValue). x.head)) pushed ∙ map-append (λ (x : JoinedValue). x.head) es (edge ∷ []) ∙ (λ i. before.heads i ++ is i ∷ []) ∙ sym (heads_more false e);
    lines = λ ds all.
        let has = ap (λ (d : NumberedValue). lines_joined ds (join_key d)) is ∙ at_last (HasAll ds) gs g all in
        let here = subst (λ ls. HoldsEach place_eq place_cmp ls edge.lines) (sym has) held in
        subst (All (HasLines ds)) (sym pushed) (All-push (HasLines ds) es edge (before.lines ds (all_before (HasAll ds) gs (g ∷ []) all)) here);
  }

-- the weights that were found stand for those of the demands
outdone_by : (ds : List NumberedValue) (weights : List Key) → FindsWeights ds weights → (ends : ℕ × ℕ) (form : FormValue) → list_any (λ w. list_any (key_eq (ends, w)) weights) (gives_way_to form) ≡ list_any (λ w. is_outweighed ds (ends, w)) (gives_way_to form)
outdone_by ds weights found ends FeatureToBase = refl
outdone_by ds weights found ends NamedFeature = refl
outdone_by ds weights found ends NamedFeatureDepColon = refl
outdone_by ds weights found ends (StrongSlash name) = λ i. found.each (ends, (0, [])) refl i || false
outdone_by ds weights found ends (WeakSlash name) = λ i. found.each (ends, (0, [])) refl i || (found.each (ends, (1, name)) refl i || false)
outdone_by ds weights found ends DependenciesSection = λ i. found.each (ends, (0, [])) refl i || false

seconds : (es : List (EdgeKey × Group)) → map (λ p. p.1) (map entry_view es) ≡ map group_view (values_of es)
seconds [] = refl
seconds (e ∷ es) = ap (λ gs. group_view e.1 ∷ gs) (seconds es)

module _ (ds : List NumberedValue) where
  groups_at : (hs : List NumberedValue) → map (λ p. p.1) (map (group_at ds) hs) ≡ map (λ h. (group_at ds h).1) hs
  groups_at [] = refl
  groups_at (h ∷ hs) = ap (λ gs. (group_at ds h).1 ∷ gs) (groups_at hs)

  heads_at : (hs : List NumberedValue) → map (λ g. g.head) (map (λ h. (group_at ds h).1) hs) ≡ hs
  heads_at [] = refl
  heads_at (h ∷ hs) = ap (λ ks. h ∷ ks) (heads_at hs)

  lines_at : (hs : List NumberedValue) → All (HasAll ds) (map (λ h. (group_at ds h).1) hs)
  lines_at [] = All-nil (HasAll ds)
  lines_at (h ∷ hs) = All-cons (HasAll ds) (group_at ds h).1 (map (λ k. (group_at ds k).1) hs) refl (lines_at hs)

  joined_by : (es : List (EdgeKey × Group)) (weights : List Key) (edges : List JoinedValue) → map entry_view es ≡ map (group_at ds) (first_of_each same_edge ds) → FindsWeights ds weights → AreKept weights (map group_view (values_of es)) edges → AreJoined ds edges
  joined_by es weights edges entries found before =
      let firsts = first_of_each same_edge ds in
      let groups = sym (seconds es) ∙ ap (map (λ (p : Key × JoinedValue). p.1)) entries ∙ groups_at firsts in
      let kept : AreKept weights (map (λ h. (group_at ds h).1) firsts) edges = subst (λ gs. AreKept weights gs edges) groups before in
      record {
        heads = kept.heads ∙ ap (filter (λ d. not (is_outdone weights d))) (heads_at firsts) ∙ (λ i. filter (λ d. not (outdone_by ds weights found (ends_of d) d.form i)) firsts);
        lines = kept.lines ds (lines_at firsts);
      }

  pub joined_ok : {V E : Type 0} (es : List (EdgeKey × Group)) (weights : List Key) (made : Result V E) (view : V → List JoinedValue) → map entry_view es ≡ map (group_at ds) (first_of_each same_edge ds) → FindsWeights ds weights → IfOk made (λ v. AreKept weights (map group_view (values_of es)) (view v)) → IfOk made (λ v. AreJoined ds (view v))
  joined_ok es weights (Ok v) view entries found before = joined_by es weights (view v) entries found before
  joined_ok es weights (Err e) view entries found before = before
