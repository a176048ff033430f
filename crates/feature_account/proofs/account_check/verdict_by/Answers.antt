use Rattle.std.proofs.Common.{◌≡◌, IfNone, subst}
use Rattle.feature_account.specs.Accounts.{concludes, IsSound}
use Rattle.feature_account_rules.specs.Closed.{IsClosed}
use Rattle.feature_account_rules.specs.Found.{found_set}
use Rattle.feature_account.proofs.account_check.verdict_by.Goals as goal

pub returns-in-None-first_open : goal.returns-in-None-first_open
returns-in-None-first_open c =
    let rules = c.args.rules.now in
    let account = c.args.account.now in
    let found_is = subst (λ o. IfNone o (found_set c.first_fault.new.concluded ≡ concludes rules account)) c.in-None.is c.in_ok-fault.ensures.concluded in
    record {
      sound = subst (λ o. IfNone o (IsSound rules account)) c.in-None.is c.in_ok-fault.ensures.sound;
      closed = subst (IsClosed rules) found_is c.in-None-first_open.ensures.none;
    }
