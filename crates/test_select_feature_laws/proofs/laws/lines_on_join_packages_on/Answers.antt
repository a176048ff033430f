use Rattle.test_select_feature_laws.specs.Laws.{LinesOnJoinPackagesOn}
use Rattle.test_select_feature_laws.proofs.LineFacts.{source_is_on, target_is_on}
use Rattle.test_select_feature_laws.proofs.laws.lines_on_join_packages_on.Goals as goal

join : LinesOnJoinPackagesOn
join w choice table link line kept listed on =
    (source_is_on w choice table kept link line listed on, target_is_on w choice table link line listed on)

pub returns : goal.returns
returns c = record { join = join }
