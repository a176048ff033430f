use Rattle.std.proofs.Common.{◌≡◌, ◌∙◌, ◌++◌, drop, refl, sym}
use Rattle.std.specs.Char.{encode_utf8}
use Rattle.nextest_filter_matchers.proofs.CutFacts.{next_cut_at}
use Rattle.nextest_filter_matchers.proofs.glob_search.next_cut.Goals as goal

pub returns-clause-some : goal.returns-clause-some
returns-clause-some c =
    let front : drop c.args.at c.args.text.now ≡ encode_utf8 c.in_ok-c.c ++ c.next.new.self.rest.now = sym c.split_at.ensures.back ∙ sym c.chars.ensures.rest ∙ c.in_ok-c.ensures.steps.0 in
    let size = c.len_utf8.ensures in
    next_cut_at c.args.text.now c.next.new.self.rest.now c.args.at c.in_ok-c.c _ c.len_utf8.result c.utf8.text c.requires front size.value size.len size.lower_bound refl
