use Rattle.std.proofs.Common.{take_all, sym, ap, subst, true≢false, refl}
use Rattle.list_facts.specs.Texts.{texts}
use Rattle.nextest_binaries.specs.Listings.{HasRepeat}
use Rattle.nextest_binaries.proofs.Repeats.{HoldsDistinct, holds_none, holds_more, repeat_of_texts, texts_more}
use Rattle.nextest_binaries.proofs.listing.finds_repeat.Goals as goal

pub loop-name-init : goal.loop-name-init
loop-name-init c = rw c.requires holds_none

pub returns-then-not-branch : goal.returns-then-not-branch
returns-then-not-branch c =
    let h = repeat_of_texts c.args.names.now c.loop-name.seen.keys c.loop-name.name-index c.name-item.result c.as_str.result c.in_ok-insert.field-0 c.loop-name.invariant c.loop-name-test.true c.name-item.is c.as_str.ensures.value c.in_ok-insert.ensures.added c.if-not-branch.true in
    (λ _. h, λ _. refl)

pub loop-name-preserved : goal.loop-name-preserved
loop-name-preserved c = rw (texts_more c.args.names.now c.loop-name.name-index c.name-item.result c.loop-name-test.true c.name-item.is, ← c.as_str.ensures.value) (holds_more _ _ _ c.as_str.result _ c.loop-name.invariant c.in_ok-insert.ensures.keys c.in_ok-insert.ensures.added c.if-not-branch.false)

pub returns : goal.returns
returns c =
    (λ h. absurd (true≢false (sym h)), λ h. absurd (HoldsDistinct.distinct c.loop-name.invariant (subst HasRepeat (ap texts (sym (take_all c.loop-name.name-index c.args.names.now c.loop-name-test.false))) h)))
