use Rattle.std.proofs.Common.{◌≡◌}
use Rattle.serde_json.specs.View.{members_view, view}
use Rattle.cargo_metadata.specs.declared.key.Key.TheVariants as key
use Rattle.cargo_metadata.specs.Packages.{each_feature, features_of}
use Rattle.cargo_metadata.specs.Values.{required}
use Rattle.cargo_metadata.proofs.Lists.{with_front}
use Rattle.cargo_metadata.proofs.package.features_at.Given as goal

abbrev pub invariant-loop-name : goal.invariant-loop-name
invariant-loop-name l =
    with_front l.features.items (each_feature (members_view l.name-iterator)) ≡ required features_of key.Features (view l.value)
