use Rattle.std.proofs.Common.{refl, length}
use Rattle.std.proofs.lemmas.Iterator.{YieldsList-from_chars}
use Rattle.std.proofs.lemmas.Iterator.Consumers.{YieldsList-turn, YieldsList-end}
use Rattle.std.proofs.lemmas.List.{length_push}
use Rattle.std.specs.Str.{chars}
use Rattle.nextest_filter_matchers.specs.GlobViews.{glob_of}
use Rattle.nextest_filter_matchers.proofs.WalkFacts.{first_step, further_step, walks_on, whole_text}
use Rattle.nextest_filter_matchers.proofs.glob_walk.leads_through.Goals as goal

pub loop-c-init : goal.loop-c-init
loop-c-init c =
    let s = first_step (chars c.args.text.now) (glob_of c.args.pattern.now) c.args.flags.now 47 c.requires.room c.requires.unset in
    walks_on _ _ _ _ _ _ _ _ _ c.requires.room c.step-is_led.ensures.led c.step-is_led.ensures.flags refl s

pub loop-c-preserved : goal.loop-c-preserved
loop-c-preserved c =
    let t = YieldsList-turn (YieldsList-from_chars c.args.text.now c.utf8.text cc) c.loop-c.yielded _ c.loop-c.yielded_by _ _ c.in-Some.c c.in-Some.is c.next.ensures.steps in
    let was = c.loop-c.invariant in
    let s = further_step (chars c.args.text.now) (glob_of c.args.pattern.now) c.loop-c.flags c.in-Some.c (length c.loop-c.yielded) was.fits t was.keeps in
    walks_on _ _ _ _ _ _ _ _ _ was.fits c.step.ensures.led c.step.ensures.flags (length_push c.loop-c.yielded c.in-Some.c) s

pub returns : goal.returns
returns c =
    let t = YieldsList-end (YieldsList-from_chars c.args.text.now c.utf8.text cc) c.loop-c.yielded _ c.loop-c.yielded_by _ _ c.in-None.is c.next.ensures.steps in
    whole_text _ _ _ _ t.1 c.loop-c.invariant.led
