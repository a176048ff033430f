-- What `clap` is told of a program: its words, and its subcommands with theirs.
use Rattle.std.specs.Prelude.{ℕ, Bool, true, List, not, fold, Some}
use Rattle.std.specs.Borrow.{Bor}
use Rattle.clap.specs.Lexer.{usize_max}
use Rattle.clap.specs.Walk.{is_empty}
use Rattle.clap.specs.Words.{App, Rule, Text, new_app, new_rule, with_rule, with_subcommand}
use Rattle.clap.specs.declared.builder.action.ArgAction.TheVariants.{Append, Set, SetTrue}
use Rattle.clap.specs.declared.builder.value_parser.ValueParser.TheVariants.{Names}
use Rattle.test_select_files.specs.declared.command_line.Program.{Program}
use Rattle.test_select_files.specs.declared.command_line.Shape.TheVariants as shape
use Rattle.test_select_files.specs.declared.command_line.Shape.{Shape}
use Rattle.test_select_files.specs.declared.command_line.Subcommand.{Subcommand}
use Rattle.test_select_files.specs.declared.command_line.Word.{Word}

-- `--NAME`
abbrev pub flag : Text → Rule
flag name = record (new_rule name) { long = Some name; action = Some SetTrue }

-- a value by its place, which may be left out
abbrev pub place : Text → Rule
place name = record (new_rule name) { value_names = 1; action = Some Set }

-- the same, which has to be there
abbrev pub needed_place : Text → Rule
needed_place name = record (place name) { required = true }

-- `--NAME VALUE`, which may be left out
abbrev pub option : Text → Rule
option name = record (place name) { long = Some name }

-- the same, which has to be there
abbrev pub needed_option : Text → Rule
needed_option name = record (option name) { required = true }

-- `--NAME VALUE`, several times
abbrev pub options : Text → Rule
options name = record (option name) { action = Some Append }

-- texts that are lent
abbrev pub Lent : Type 0
Lent = Bor (List (Bor Text))

-- `--NAME VALUE`, where the value is one of these
abbrev pub one_among : Lent → Text → Rule
one_among values name = record (option name) { parser = Some (Names values) }

-- a letter and a value, several times
abbrev pub lettered : ℕ → Text → Rule
lettered letter name = record (place name) { short = Some letter; action = Some Append }

-- all values that are left
abbrev pub rest : Text → Rule
rest name = record (place name) { range = Some (record { start_inclusive = 0; end_inclusive = usize_max }); action = Some Append }

-- the rule of a word with this name that stands so
abbrev pub shaped : Text → Shape → Rule
shaped name shape.Flag = flag name
shaped name (shape.Option value) = needed_option name
shaped name (shape.MaybeOption value) = option name
shaped name (shape.Options value) = options name
shaped name (shape.ShortOptions letter value) = record (options name) { short = Some letter }
shaped name (shape.Choice value values) = one_among values name
shaped name (shape.Letters letter value) = lettered letter name
shaped name (shape.Place value) = needed_place name
shaped name (shape.MaybePlace value) = place name
shaped name (shape.Rest value) = rest name

-- the rule of a word
abbrev pub word_rule : Word → Rule
word_rule word = shaped word.name.now word.shape

-- a command with one word more
abbrev pub with_word : App → Word → App
with_word app word = with_rule app (word_rule word)

-- a subcommand with its words
abbrev pub subcommand_app : Subcommand → App
subcommand_app sub = fold with_word (new_app sub.name.now) sub.words.now

-- a command with one subcommand more
abbrev pub with_sub : App → Subcommand → App
with_sub app sub = with_subcommand app (subcommand_app sub).top

-- a program with no word and no subcommand; without any word it shows its help
abbrev pub bare_app : Text → Bool → App
bare_app name has_subcommands =
    let app = new_app name in
    record app { top = record app.top { has_version = true; subcommand_required = has_subcommands; arg_required_else_help = true } }

-- a program with its words and its subcommands
abbrev pub program_app : Program → App
program_app program =
    fold with_sub (fold with_word (bare_app program.name.now (not (is_empty program.subcommands.now))) program.words.now) program.subcommands.now
