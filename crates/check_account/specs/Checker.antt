-- What `clap` is told of the program.
use Rattle.std.specs.Prelude.{false, codes}
use Rattle.clap.specs.Words.{App, with_rule}
use Rattle.test_select_files.specs.Apps.{bare_app, needed_option, option}

-- the program: a record, a choice, a table and an account, each a file
abbrev pub checker : App
checker =
    let asked = with_rule (bare_app (codes "check_account") false) (needed_option (codes "record")) in
    let chosen = with_rule (with_rule asked (option (codes "choice"))) (option (codes "table")) in
    with_rule chosen (needed_option (codes "account"))
