use Rattle.std.proofs.Common.{subst, sym}
use Rattle.test_select_features.specs.Switching.{IsAccountFor, IsServed}
use Rattle.test_select_features.proofs.switching.account.Goals as goal

pub returns-in_ok-account_under-in-Ok : goal.returns-in_ok-account_under-in-Ok
returns-in_ok-account_under-in-Ok c =
    let choice = c.args.choice.now in
    let found = c.in_ok-account_under-in-Ok in
    let (same, served) = c.in-Ok.ensures.served in
    record {
      accounts = subst (λ w. IsAccountFor w choice c.args.table.now found.field-0) same (record {
        served = subst (λ w. IsServed w choice) (sym same) served;
        lowest = found.ensures.lowest;
        on = found.ensures.on;
        looks = found.ensures.looks;
      });
    }
