-- What `clap` is told of the program.
use Rattle.std.specs.Prelude.{◌≡◌, List, [], ◌∷◌, Option, true, codes, find, fold, map}
use Rattle.std.specs.Borrow.{Bor}
use Rattle.std.specs.Str.{bytes_eq}
use Rattle.clap.specs.Words.{App, Rule, Text, new_app, with_rule, with_subcommand}
use Rattle.test_select_files.specs.Apps.{Lent, bare_app, flag, lettered, needed_option, needed_place, one_among, option, options, place, rest}
use Rattle.test_select.specs.declared.tasks.Task.{Task}
use Rattle.test_select.specs.declared.tasks.Task.TheVariants as task
use Rattle.test_select.specs.declared.tasks.Taken.{Taken}
use Rattle.test_select.specs.declared.tasks.Taken.TheVariants.{Account, Binary, Choice, Declared, Feature, FilterOptions, Filters, Format, Ignore, Listings, Package, Partition, Path, Paths, Plain, Readable, Record, Table, Test}

-- how a word stands on the command line, where the format of a report stands so
abbrev pub rule_of : Rule → Taken → Rule
rule_of format Record = needed_option (codes "record")
rule_of format Listings = needed_option (codes "listings")
rule_of format Choice = option (codes "choice")
rule_of format Table = option (codes "table")
rule_of format Declared = flag (codes "declared")
rule_of format Plain = flag (codes "plain")
rule_of format Partition = option (codes "partition")
rule_of format Format = format
rule_of format Filters = rest (codes "filter")
rule_of format FilterOptions = lettered 69 (codes "filter")
rule_of format Binary = needed_place (codes "binary")
rule_of format Test = place (codes "test")
rule_of format Readable = flag (codes "readable")
rule_of format Account = needed_option (codes "account")
rule_of format Package = needed_place (codes "package")
rule_of format Feature = place (codes "feature")
rule_of format Ignore = options (codes "ignore")
rule_of format Paths = option (codes "paths")
rule_of format Path = rest (codes "path")

-- the words that a task takes, in the order of its values
abbrev pub words_of : Task → List Taken
words_of task.Tests = Record ∷ Listings ∷ Choice ∷ Table ∷ Declared ∷ Plain ∷ Partition ∷ Format ∷ Filters ∷ []
words_of task.Binaries = Record ∷ Choice ∷ Table ∷ Declared ∷ Plain ∷ Filters ∷ []
words_of task.Changed = Record ∷ Ignore ∷ Paths ∷ Path ∷ []
words_of task.Why = Record ∷ Listings ∷ Choice ∷ Table ∷ Declared ∷ FilterOptions ∷ Binary ∷ Test ∷ []
words_of task.Account = Record ∷ Choice ∷ Table ∷ Readable ∷ []
words_of task.Check = Record ∷ Choice ∷ Table ∷ Account ∷ []
words_of task.Explain = Record ∷ Choice ∷ Table ∷ Readable ∷ Package ∷ Feature ∷ []
words_of task.Order = Record ∷ Choice ∷ Table ∷ []
words_of task.Features = Record ∷ Choice ∷ Table ∷ []
words_of task.Rules = Record ∷ Choice ∷ Table ∷ []

-- the name of a task
abbrev pub name_of : Task → Text
name_of task.Tests = codes "tests"
name_of task.Binaries = codes "binaries"
name_of task.Changed = codes "changed"
name_of task.Why = codes "why"
name_of task.Account = codes "account"
name_of task.Check = codes "check"
name_of task.Explain = codes "explain"
name_of task.Order = codes "order"
name_of task.Features = codes "features"
name_of task.Rules = codes "rules"

-- all tasks, in the order of the help
abbrev pub tasks : List Task
tasks = task.Tests ∷ task.Binaries ∷ task.Changed ∷ task.Why ∷ task.Account ∷ task.Check ∷ task.Explain ∷ task.Order ∷ task.Features ∷ task.Rules ∷ []

-- the task with this name
abbrev pub task_named : Text → Option Task
task_named name = find (λ t. bytes_eq (name_of t) name) tasks

-- a command with one word more
abbrev pub with_word : Rule → App → Taken → App
with_word format app word = with_rule app (rule_of format word)

-- the command of a task, with its words
abbrev pub command_of : Rule → Task → App
command_of format t = fold (with_word format) (new_app (name_of t)) (words_of t)

-- a command with one task more
abbrev pub with_task : Rule → App → Task → App
with_task format app t = with_subcommand app (command_of format t).top

-- the program with its tasks, where the format of a report stands so
abbrev pub selector_by : Rule → App
selector_by format = fold (with_task format) (bare_app (codes "test_select") true) tasks

-- the program, whose reports are lines or JSON
pub record IsSelector (app : App) : Type 0 where
  pub formats : Lent
  pub named : map (λ (t : Bor Text). t.now) formats.now ≡ codes "lines" ∷ codes "json" ∷ []
  pub told : app ≡ selector_by (one_among formats (codes "format"))
