use Rattle.test_select.proofs.ChangeFacts.{all_globs, no_glob}
use Rattle.test_select.proofs.changes.globs_of.Goals as goal

pub returns-in-Err-clause-reads : goal.returns-in-Err-clause-reads
returns-in-Err-clause-reads c =
    no_glob c.args.texts.now c.loop-text.text-index c.loop-text.globs.items c.loop-text.invariant _ c.loop-text-test.true _ c.in_ok-from_str.ensures.ok c.in_ok-glob.field-0 c.in_ok-glob.ensures c.in-Err.error c.in-Err.is

pub returns-clause-reads : goal.returns-clause-reads
returns-clause-reads c = all_globs c.args.texts.now c.loop-text.text-index c.loop-text.globs.items c.loop-text.invariant c.loop-text-test.false
