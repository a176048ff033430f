-- Laws over answers, statuses and package ids.
use Rattle.std.specs.Prelude.{◌≡◌, Bool, true, List, ◌++◌, Option, min, max}
use Rattle.std.specs.Ordering.{eq_by_cmp}
use Rattle.std.specs.Cmp.{IsEquivalence, IsTotalOrder}
use Rattle.std.specs.Hash as fed
use Rattle.list_facts.specs.Ascending.{IsAscendingOf, text_cmp}
use Rattle.workspace_record.specs.Equality.{text_eq}
use Rattle.workspace_record.specs.Records.{Text}
use Rattle.guppy_package_parts.specs.Names.{each_once}
use Rattle.guppy_package_parts.specs.Statuses.{AskedPlatforms, status_of}
use Rattle.guppy_package_parts.specs.Ternaries.{greater, lesser, rank_of}
use Rattle.guppy_package_parts.specs.declared.enabled_ternary.EnabledTernary.{EnabledTernary}

abbrev pub AndIsMinimum : Type 0
AndIsMinimum = (a b : EnabledTernary) → rank_of (lesser a b) ≡ min (rank_of a) (rank_of b)

abbrev pub OrIsMaximum : Type 0
OrIsMaximum = (a b : EnabledTernary) → rank_of (greater a b) ≡ max (rank_of a) (rank_of b)

-- two lists of platforms together, against each of them
abbrev pub PlatformsJoin : Type 0
PlatformsJoin = (xs ys : List (Text → Option Bool)) (specs : List (Option Text)) → status_of (AskedPlatforms (xs ++ ys)) specs ≡ greater (status_of (AskedPlatforms xs) specs) (status_of (AskedPlatforms ys) specs)

-- each name once, and each below the next
abbrev pub NamesAscend : Type 0
NamesAscend = (names : List Text) → IsAscendingOf text_cmp names (each_once names)

-- of package ids, seen as their texts
pub record IdsAreLawful : Type 0 where
  pub equality : IsEquivalence text_eq
  pub order : IsTotalOrder text_cmp
  pub ties : (a b : Text) → text_eq a b ≡ eq_by_cmp text_cmp a b
  pub hash : (a b : Text) → text_eq a b ≡ true → fed.str a ≡ fed.str b
