use Rattle.std.proofs.Common.{◌≡◌, ◌∙◌, ◌∷◌, ◌++◌, [], if◌then◌else◌, map, ap, Vec, Global}
use Rattle.std.proofs.lemmas.List.{map-append}
use Rattle.std.specs.List.{list_any}
use Rattle.list_facts.proofs.Quantifiers.{list_any-map}
use Rattle.workspace_record.specs.Equality.{equivalence}
use Rattle.workspace_record.specs.Features.{feature_eq, features_decide}
use Rattle.indexmap.specs.IndexSet.{insert_key}
use Rattle.guppy_feature_demands.specs.IdViews.{id_view}
use Rattle.guppy_feature_demands.specs.HashedViews.{hashed_view}
use Rattle.guppy_feature_demands.specs.declared.feature_id.FeatureId.{FeatureId}
use Rattle.guppy_feature_demands.proofs.FirstFacts.{first_next, grown_by, inserted_both, inserted_seen, stays_by}
use Rattle.guppy_feature_demands.proofs.nodes.push_firsts.Goals.{then-branch+in_ok-push, else-branch}
use Rattle.guppy_feature_demands.proofs.nodes.push_firsts.Goals as goal

pub loop-feature-preserved : goal.loop-feature-preserved
loop-feature-preserved c =
    let before = c.loop-feature.invariant in
    let name = hashed_view c.of-name.result in
    let was = c.loop-feature.ids.items in
    let old = map hashed_view c.loop-feature.names.keys in
    let found = list_any-map (feature_eq name) hashed_view c.loop-feature.names.keys in
    let names = inserted_seen (equivalence features_decide) hashed_view c.loop-feature.names.keys c.insert.new.self.keys _ c.in_ok-insert.ensures.keys in
    let ids : map id_view c.if-branch.ids.items ≡ (if list_any (feature_eq name) old then map id_view was else map id_view was ++ id_view c.feature-item.result ∷ []) = elim c.if-branch.branch [
      | then-branch+in_ok-push w ↦ ap (λ (v : Vec FeatureId Global). map id_view v.items) w.ids-is ∙ grown_by (map id_view was) _ (id_view c.feature-item.result) c.in_ok-insert.field-0 _ _ found c.in_ok-insert.ensures.added w.if-branch.true (ap (map id_view) w.in_ok-push.ensures.items ∙ map-append id_view was (c.feature-item.result ∷ []))
      | else-branch w ↦ ap (λ (v : Vec FeatureId Global). map id_view v.items) w.ids-is ∙ stays_by (map id_view was) (id_view c.feature-item.result) c.in_ok-insert.field-0 _ _ found c.in_ok-insert.ensures.added w.if-branch.false
    ] in
    record {
      kept = first_next (equivalence features_decide) id_view c.args.features.now c.loop-feature.feature-index c.feature-item.result c.loop-feature-test.true old (map hashed_view c.insert.new.self.keys) before.kept (names ∙ ap (insert_key feature_eq old) (c.of-name.ensures ∙ ap id_view c.feature-item.is));
      same = inserted_both feature_eq old (map id_view was) _ _ name (id_view c.feature-item.result) before.same c.of-name.ensures names ids;
    }
