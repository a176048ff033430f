use Rattle.std.proofs.Common.{◌≡◌, ◌∙◌, sym, ap, subst, suc, None, not, slice_range, arith}
use Rattle.cargo_files.specs.Bytes.{after}
use Rattle.cargo_files.specs.Expressions.{constant_of, name_of, pair_of, not_of, joined_of, says}
use Rattle.cargo_files.specs.Grammar.{Reads, constant, name, pair, negated, group, closed, one}
use Rattle.cargo_files.proofs.ReadingFacts.{closes, closes_nothing, closes_there, follows_nothing, gathers_more, goes_on, group_inside, negation_inside}
use Rattle.cargo_files.proofs.reading.+reading.Goals as goal

pub each-returns-in-Some-clause-read : goal.each-returns-in-Some-clause-read
each-returns-in-Some-clause-read t c =
    c.loop-end.invariant.read (constant_of c.args.every) c.in-Some.end (closed (sym c.in-Some.ensures.value))

pub each-returns-in-Some-clause-only : goal.each-returns-in-Some-clause-only
each-returns-in-Some-clause-only t c x j r =
    closes c.args.text.now c.args.settings.now c.args.room c.args.every c.loop-end.place c.loop-end.value x j c.in-Some.end (sym c.in-Some.ensures.value) (c.loop-end.invariant.only x j r)

pub each-returns-in_err-item-clause-only : goal.each-returns-in_err-item-clause-only
each-returns-in_err-item-clause-only t c x j r =
    let none : after c.args.text.now c.loop-end.place 41 ≡ None = sym c.after.ensures.value ∙ c.in_default.is in
    let from = goes_on c.args.text.now c.args.settings.now c.args.room c.args.every c.loop-end.place c.loop-end.value x j none (c.loop-end.invariant.only x j r) in
    absurd (c.in_err-item.ensures.only from.first from.end from.reads)

pub each-returns-in_err-place-clause-only : goal.each-returns-in_err-place-clause-only
each-returns-in_err-place-clause-only t c x j r =
    let none : after c.args.text.now c.loop-end.place 41 ≡ None = sym c.after.ensures.value ∙ c.in_default.is in
    let from = goes_on c.args.text.now c.args.settings.now c.args.room c.args.every c.loop-end.place c.loop-end.value x j none (c.loop-end.invariant.only x j r) in
    let same = c.in_ok-item.ensures.only from.first from.end from.reads in
    absurd (follows_nothing c.args.text.now c.in_ok-item.next from.end from.next c.in_err-place.ensures.err same.1 from.follows)

pub each-loop-end-preserved : goal.each-loop-end-preserved
each-loop-end-preserved t c =
    let text = c.args.text.now in
    let before = c.loop-end.invariant in
    let item = c.in_ok-item.ensures in
    let next = c.in_ok-place.ensures in
    let none : after text c.loop-end.place 41 ≡ None = sym c.after.ensures.value ∙ c.in_default.is in
    record {
      rises = omega (arith, before.rises, item.rises, next.rises);
      end = next.end;
      read = λ x j r. before.read (joined_of c.args.every item.read.0 x) j (one none item.read.1 next.ok r);
      only = λ x j r.
          let from = goes_on text c.args.settings.now c.args.room c.args.every c.loop-end.place c.loop-end.value x j none (before.only x j r) in
          rw c.joined-value.ensures (gathers_more text c.args.settings.now c.args.room c.args.every c.loop-end.place c.loop-end.value x j c.in_ok-item.next c.in_ok-place.place c.in_ok-item.item from (item.only from.first from.end from.reads) next.ok);
    }

pub expression-returns-in_err-after-in-Not-clause-only : goal.expression-returns-in_err-after-in-Not-clause-only
expression-returns-in_err-after-in-Not-clause-only t c x j r =
    let from = negation_inside c.args.text.now c.args.room c.in_ok-inside-in-Not.inside c.args.at j c.in-Not.next x c.in_ok-inside-in-Not.ensures.ok c.in-Not.ensures.value r in
    let same = c.in_ok-value-in-Not.ensures.only from.0 from.1 from.3 in
    absurd (closes_nothing c.args.text.now c.in_ok-value-in-Not.end from.1 j c.in_err-after-in-Not.ensures.err same.1 from.4)

pub expression-returns-in-Constant-clause-read : goal.expression-returns-in-Constant-clause-read
expression-returns-in-Constant-clause-read t c =
    (constant_of c.in-Constant.value, constant (sym c.in-Constant.ensures.value))

pub expression-returns-in-Name-clause-read : goal.expression-returns-in-Name-clause-read
expression-returns-in-Name-clause-read t c =
    (name_of (slice_range c.args.text.now c.in-Name.start c.in-Name.end), name (sym c.in-Name.ensures.value))

pub expression-returns-in-Pair-clause-read : goal.expression-returns-in-Pair-clause-read
expression-returns-in-Pair-clause-read t c =
    (pair_of (slice_range c.args.text.now c.in-Pair.start c.in-Pair.end) (slice_range c.args.text.now c.in-Pair.opens c.in-Pair.closes), pair (sym c.in-Pair.ensures.value))

pub expression-returns-in_ok-after-in-Not-clause-read : goal.expression-returns-in_ok-after-in-Not-clause-read
expression-returns-in_ok-after-in-Not-clause-read t c =
    let inner = c.in_ok-value-in-Not.ensures.read in
    let whole : Reads c.args.text.now (suc c.in_ok-inside-in-Not.inside) c.args.at (not_of inner.0) c.in_ok-after-in-Not.after = negated (sym c.in-Not.ensures.value) inner.1 c.in_ok-after-in-Not.ensures.ok in
    (not_of inner.0, subst (λ d. Reads c.args.text.now d c.args.at (not_of inner.0) c.in_ok-after-in-Not.after) (sym c.in_ok-inside-in-Not.ensures.ok) whole)

pub expression-returns-in_ok-after-in-Not-clause-only : goal.expression-returns-in_ok-after-in-Not-clause-only
expression-returns-in_ok-after-in-Not-clause-only t c x j r =
    let from = negation_inside c.args.text.now c.args.room c.in_ok-inside-in-Not.inside c.args.at j c.in-Not.next x c.in_ok-inside-in-Not.ensures.ok c.in-Not.ensures.value r in
    let same = c.in_ok-value-in-Not.ensures.only from.0 from.1 from.3 in
    (ap not same.0 ∙ sym (ap (says c.args.settings.now) from.2), closes_there c.args.text.now c.in_ok-value-in-Not.end from.1 j c.in_ok-after-in-Not.after c.in_ok-after-in-Not.ensures.ok same.1 from.4)

pub expression-returns-in_ok-value-in-Group-clause-read : goal.expression-returns-in_ok-value-in-Group-clause-read
expression-returns-in_ok-value-in-Group-clause-read t c =
    let inner = c.in_ok-value-in-Group.ensures.read in
    let whole : Reads c.args.text.now (suc c.in_ok-inside-in-Group.inside) c.args.at inner.0 c.in_ok-value-in-Group.end = group (sym c.in-Group.ensures.value) inner.1 in
    (inner.0, subst (λ d. Reads c.args.text.now d c.args.at inner.0 c.in_ok-value-in-Group.end) (sym c.in_ok-inside-in-Group.ensures.ok) whole)

pub expression-returns-in_ok-value-in-Group-clause-only : goal.expression-returns-in_ok-value-in-Group-clause-only
expression-returns-in_ok-value-in-Group-clause-only t c x j r =
    c.in_ok-value-in-Group.ensures.only x j (group_inside c.args.text.now c.args.room c.in_ok-inside-in-Group.inside c.args.at j c.in-Group.next c.in-Group.every x c.in_ok-inside-in-Group.ensures.ok c.in-Group.ensures.value r)
