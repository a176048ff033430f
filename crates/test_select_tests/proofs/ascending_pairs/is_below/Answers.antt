use Rattle.std.proofs.Common.{rules, ◌≡◌, ◌∙◌, true, false, string_bytes}
use Rattle.std.specs.Ordering.{is_lt}
use Rattle.std.specs.Str.{bytes_eq}
use Rattle.list_facts.specs.Ascending.{text_cmp}
use Rattle.test_select_tests.proofs.AscendingFacts.{below_apart, below_same}
use Rattle.test_select_tests.proofs.ascending_pairs.is_below.Goals as goal

pub returns-then-eq : goal.returns-then-eq
returns-then-eq c =
    let one = c.args.one.now in
    let other = c.args.other.now in
    let same : bytes_eq (string_bytes one.0) (string_bytes other.0) ≡ true = search rules in
    let less : c.lt.result ≡ is_lt (text_cmp (string_bytes one.1) (string_bytes other.1)) = search rules in
    less ∙ below_same (string_bytes one.0) (string_bytes other.0) (string_bytes one.1) (string_bytes other.1) same

pub returns-else-eq : goal.returns-else-eq
returns-else-eq c =
    let one = c.args.one.now in
    let other = c.args.other.now in
    let apart : bytes_eq (string_bytes one.0) (string_bytes other.0) ≡ false = search rules in
    let less : c.lt-else-eq.result ≡ is_lt (text_cmp (string_bytes one.0) (string_bytes other.0)) = search rules in
    less ∙ below_apart (string_bytes one.0) (string_bytes other.0) (string_bytes one.1) (string_bytes other.1) apart
