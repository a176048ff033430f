-- What `clap` is told of the program.
use Rattle.std.specs.Prelude.{true, List, [], ◌∷◌, Some, codes, fold}
use Rattle.clap.specs.Words.{App, Rule, Text, new_app, with_rule, with_subcommand}
use Rattle.test_select_files.specs.Apps.{bare_app, flag, needed_option, needed_place, options}

-- a subcommand with its words
abbrev pub sub : Text → List Rule → App
sub name rules = fold with_rule (new_app name) rules

-- the record of members, which `-p` names too
abbrev pub record_sub : App
record_sub =
    sub (codes "record") (record (options (codes "package")) { short = Some 112 } ∷ flag (codes "workspace") ∷ needed_place (codes "metadata") ∷ [])

-- the table of a target
abbrev pub table_sub : App
table_sub =
    sub (codes "table") (needed_option (codes "triple") ∷ needed_option (codes "record") ∷ needed_place (codes "cfg") ∷ [])

-- the choice of features
abbrev pub choice_sub : App
choice_sub =
    sub (codes "choice") (needed_option (codes "record") ∷ options (codes "features") ∷ flag (codes "no-default-features") ∷ flag (codes "all-features") ∷ [])

-- the listings of test binaries
abbrev pub listings_sub : App
listings_sub =
    sub (codes "listings") (needed_option (codes "record") ∷ flag (codes "built") ∷ flag (codes "nextest") ∷ needed_place (codes "lists") ∷ [])

-- a program with one subcommand more
abbrev pub with_sub : App → App → App
with_sub app below = with_subcommand app below.top

-- the program, which does nothing without one of them
abbrev pub maker : App
maker =
    fold with_sub (bare_app (codes "cargo_workspace") true) (record_sub ∷ table_sub ∷ choice_sub ∷ listings_sub ∷ [])
