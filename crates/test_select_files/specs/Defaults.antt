-- What counts where a command line names no file.
use Rattle.std.specs.Prelude.{◌≡◌, true, []}
use Rattle.workspace_record.specs.Choices.{Choice}
use Rattle.workspace_record.specs.declared.kinds.Standard.TheVariants as standard
use Rattle.workspace_record.specs.declared.choice.PlatformTable.{PlatformTable}

-- nothing is known of the platform, and what is unknown counts
pub record KnowsNothing (table : PlatformTable) : Type 0 where
  pub answers : table.answers.entries ≡ []
  pub unknown_counts : table.unknown_counts ≡ true

-- the default features, and no others
abbrev pub default_choice : Choice
default_choice = record { standard = standard.Default; extras = [] }
