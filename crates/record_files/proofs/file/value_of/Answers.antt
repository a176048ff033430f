use Rattle.std.proofs.Common.{◌≡◌, [], true, false, Some, sym, ◌∙◌, rules}
use Rattle.json.specs.Json.{value}
use Rattle.json.specs.Lex.{tokens}
use Rattle.json.specs.Value.{value_view}
use Rattle.record_files.proofs.Trees.{whole_value}
use Rattle.record_files.proofs.file.value_of.Goals as goal

pub returns-then-has_numbers : goal.returns-then-has_numbers
returns-then-has_numbers c =
    let text = c.in-Ok.ensures.cases in
    let starts : value 127 (tokens c.args.bytes.now) ≡ Some (value_view c.in-Ok-read.value, c.read.new.reader) = rw (← text.0, ← c.in-Ok-new.ensures.ok) c.in-Ok-read.ensures.ok in
    let no_more : c.read.new.reader ≡ [] = search rules in
    (text.1, whole_value _ (value_view c.in-Ok-read.value) _ true starts no_more (sym c.if-has_numbers.true ∙ c.has_numbers.ensures))

pub returns : goal.returns
returns c = λ utf8.
    let text = c.in-Ok.ensures.cases in
    let starts : value 127 (tokens c.args.bytes.now) ≡ Some (value_view c.in-Ok-read.value, c.read.new.reader) = rw (← text.0, ← c.in-Ok-new.ensures.ok) c.in-Ok-read.ensures.ok in
    let no_more : c.read.new.reader ≡ [] = search rules in
    whole_value _ (value_view c.in-Ok-read.value) _ false starts no_more (sym c.if-has_numbers.false ∙ c.has_numbers.ensures)
