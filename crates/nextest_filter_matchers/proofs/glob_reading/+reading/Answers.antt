use Rattle.std.proofs.Common.{◌≡◌, ◌∙◌, ◌-◌, ◌∷◌, IfOk, length, take, drop, sym, ap, subst, arith}
use Rattle.std.proofs.lemmas.Grind.{common_steps}
use Rattle.nextest_filter_matchers.specs.GlobReading.{Reads, Alternates, alternates_after, read_part}
use Rattle.nextest_filter_matchers.specs.GlobViews.{glob_of}
use Rattle.nextest_filter_matchers.specs.ReadingViews.{outcome_of}
use Rattle.nextest_filter_matchers.proofs.ReadingFacts.{read_part-alternates}
use Rattle.nextest_filter_matchers.proofs.glob_reading.+reading.Goals as goal

pub alternates-returns-in-44 : goal.alternates-returns-in-44
alternates-returns-in-44 t c =
    let left = c.args.left - 1 in
    let rest = take (length c.in-Read.rest.now - 1) (drop 1 c.in-Read.rest.now) in
    let comma : c.in-Read.rest.now ≡ 44 ∷ rest = grind (arith, common_steps) in
    let first = sym c.in_ok-pattern.ensures ∙ ap outcome_of c.in-Read.is ∙ ap (λ xs. Reads (glob_of c.in-Read.pattern) xs) comma in
    let same = sym (read_part-alternates c.args.left c.args.text.now c.if-left-eq0.false ∙ ap (alternates_after (read_part left)) first) in
    subst (λ o. IfOk c.or_if_read.result (λ r. outcome_of r ≡ o)) same (c.or_if_read.ensures (read_part left Alternates rest) c.alternates-more.ensures)
