use Rattle.std.proofs.Common.{rules}
use Rattle.test_select_c.proofs.test_select_run.Goals as goal

pub returns-clause-ran : goal.returns-clause-ran
returns-clause-ran c = λ is_call. record {
  out = c.printed_by-printed.result.out.items;
  err = c.printed_by-printed.result.err.items;
  status = c.printed_by-printed.result.status;
  printed = c.printed_by-printed.ensures.prints is_call;
  out_length = search rules;
  err_length = search rules;
  out_held = search rules;
  err_held = search rules;
  is_status = search rules;
}
