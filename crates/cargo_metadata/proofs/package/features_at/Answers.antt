use Rattle.std.proofs.Common.{◌≡◌, ◌∷◌, ◌∙◌, string_bytes}
use Rattle.serde_json.specs.View.{view, members_view}
use Rattle.cargo_metadata.proofs.Lists.{feature_step}
use Rattle.cargo_metadata.proofs.package.features_at.Goals as goal

pub loop-name-preserved : goal.loop-name-preserved
loop-name-preserved c =
    let front = c.loop-name.features.items in
    let steps : c.loop-name.name-iterator ≡ (c.in-Some-2.name.now, c.in-Some-2.value.now) ∷ c.next.new.self = c.in-Some-2.ensures.steps in
    let was = rw steps at c.loop-name.invariant in
    feature_step _ (string_bytes c.in-Some-2.name.now) (view c.in-Some-2.value.now) (members_view c.next.new.self) front c.push.new.self.items _ (c.in_ok-name.ensures.ok ∙ c.as_str.ensures.value) c.in_ok-enables.ensures c.in_ok-push.ensures.items was
