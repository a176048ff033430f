use Rattle.std.proofs.Common.{◌≡◌, ◌∙◌, string_bytes, rules}
use Rattle.test_select_files.proofs.VerdictFacts.{verdict_accepts, verdict_begun, verdict_denies}
use Rattle.test_select_files.proofs.verdicts.print_verdict_on.Goals as goal

pub returns-in_err-write_out-clause-prints : goal.returns-in_err-write_out-clause-prints
returns-in_err-write_out-clause-prints g c =
    let lent : c.as_bytes.result.now ≡ string_bytes c.in_ok-line.line = search rules in
    verdict_begun c.args.question.now c.args.account.now c.in_ok-verdict.verdict c.in_ok-verdict.ensures.verdict c.as_bytes.result.now (lent ∙ c.in_ok-line.ensures.text) _ _ _ c.from_residual-in_err-write_out.ensures.1 c.in_err-write_out.ensures.writes

pub returns-in-Accepted-clause-prints : goal.returns-in-Accepted-clause-prints
returns-in-Accepted-clause-prints g c =
    let lent : c.as_bytes.result.now ≡ string_bytes c.in_ok-line.line = search rules in
    verdict_accepts c.args.question.now c.args.account.now c.in_ok-verdict.verdict c.in_ok-verdict.ensures.verdict c.as_bytes.result.now (lent ∙ c.in_ok-line.ensures.text) _ _ c.in-Accepted.is c.in_ok-write_out.ensures.writes

pub returns-clause-prints : goal.returns-clause-prints
returns-clause-prints g c =
    let lent : c.as_bytes.result.now ≡ string_bytes c.in_ok-line.line = search rules in
    verdict_denies c.args.question.now c.args.account.now c.in_ok-verdict.verdict c.in_ok-verdict.ensures.verdict c.as_bytes.result.now (lent ∙ c.in_ok-line.ensures.text) _ _ c.in_default.not-Accepted c.in_ok-write_out.ensures.writes
