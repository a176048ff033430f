-- The names of test groups.
use Rattle.std.specs.Prelude.{List, [], ◌∷◌, codes}
use Rattle.list_facts.specs.Texts.{texts}
use Rattle.workspace_record.specs.Records.{Text}
use Rattle.nextest_filter_evaluation.specs.declared.groups.KnownGroups.{KnownGroups}
use Rattle.nextest_filter_evaluation.specs.declared.groups.KnownGroups.TheVariants.{Known, Unavailable}

-- the groups' names are known (from nextest's test groups)
abbrev pub AreKnown : KnownGroups → Type 0
AreKnown (Known custom_groups) = Unit {0}
AreKnown Unavailable = ⊥

-- the names of all groups: the one that each test has without a configuration, and those that a configuration names
-- (from nextest's test groups)
abbrev pub known_groups : KnownGroups → List Text
known_groups (Known custom_groups) = codes "@global" ∷ texts custom_groups.keys
known_groups Unavailable = []
