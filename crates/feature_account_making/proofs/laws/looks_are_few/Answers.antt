use Rattle.std.proofs.Common.{◌+◌, ◌*◌, ◌≤◌, ℕ, length, subst}
use Rattle.feature_account.proofs.CountFacts.{counts_what_is_on}
use Rattle.feature_account_making.proofs.laws.looks_are_few.Goals as goal

pub returns : goal.returns
returns c = λ rules account looks on lowest of_account members ascending.
    subst (λ (count : ℕ). looks ≤ (count + 1) * length rules) (counts_what_is_on rules account on lowest.valid members ascending) of_account.few
