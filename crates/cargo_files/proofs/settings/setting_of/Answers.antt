use Rattle.std.proofs.Common.{rules, ◌≡◌, ◌+◌, sym, inl, inr, length, nat_eq, true}
use Rattle.std.proofs.lemmas.Result.{err_from_is_err_and}
use Rattle.cargo_files.specs.Heads.{head_at}
use Rattle.cargo_files.specs.declared.head.Head.TheVariants.{Name, Pair}
use Rattle.cargo_files.proofs.PrintedFacts.{is_name, is_pair, no_text}
use Rattle.cargo_files.proofs.settings.setting_of.Goals as goal

pub returns-in_err-name-in-Name-clause-refused : goal.returns-in_err-name-in-Name-clause-refused
returns-in_err-name-in-Name-clause-refused c =
    let p = err_from_is_err_and c.from_residual.result c.from_residual.ensures.1 in
    let line = c.args.line.now in
    let head : head_at line 0 ≡ Name c.in-Name.start c.in-Name.end = sym c.in-Name.ensures.value in
    let whole : nat_eq c.in-Name.end (length line) ≡ true = search rules in
    rw (p.1, p.2) (no_text line c.args.at _ _ _ (is_name line c.in-Name.start c.in-Name.end head whole) c.in_err-name-in-Name.ensures.refused (λ no. inl no))

pub returns-in_err-name-in-Pair-clause-refused : goal.returns-in_err-name-in-Pair-clause-refused
returns-in_err-name-in-Pair-clause-refused c =
    let p = err_from_is_err_and c.from_residual-in_err-name-in-Pair.result c.from_residual-in_err-name-in-Pair.ensures.1 in
    let line = c.args.line.now in
    let head : head_at line 0 ≡ Pair c.in-Pair.start c.in-Pair.end c.in-Pair.opens c.in-Pair.closes = sym c.in-Pair.ensures.value in
    let whole : nat_eq (c.in-Pair.closes + 1) (length line) ≡ true = search rules in
    rw (p.1, p.2) (no_text line c.args.at _ _ _ (is_pair line c.in-Pair.start c.in-Pair.end c.in-Pair.opens c.in-Pair.closes head whole) c.in_err-name-in-Pair.ensures.refused (λ no. inl no))

pub returns-in_err-text_of-in-Pair-clause-refused : goal.returns-in_err-text_of-in-Pair-clause-refused
returns-in_err-text_of-in-Pair-clause-refused c =
    let p = err_from_is_err_and c.from_residual-in_err-text_of-in-Pair.result c.from_residual-in_err-text_of-in-Pair.ensures.1 in
    let line = c.args.line.now in
    let head : head_at line 0 ≡ Pair c.in-Pair.start c.in-Pair.end c.in-Pair.opens c.in-Pair.closes = sym c.in-Pair.ensures.value in
    let whole : nat_eq (c.in-Pair.closes + 1) (length line) ≡ true = search rules in
    rw (p.1, p.2) (no_text line c.args.at _ _ _ (is_pair line c.in-Pair.start c.in-Pair.end c.in-Pair.opens c.in-Pair.closes head whole) c.in_err-text_of-in-Pair.ensures.refused (λ no. inr no))
