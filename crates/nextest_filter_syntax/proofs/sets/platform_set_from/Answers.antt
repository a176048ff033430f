use Rattle.std.proofs.Common.{◌≡◌, ◌∙◌, ◌+◌, ◌-◌, ◌≤◌, refl, sym, ap, subst, arith, length, string_bytes}
use Rattle.std.specs.Str.{trim}
use Rattle.nextest_binaries.specs.Platforms.{platform_text}
use Rattle.nextest_filter_tokens.specs.Bytes.{skip}
use Rattle.nextest_filter_tokens.specs.ReadingSteps.{IsClean}
use Rattle.nextest_filter_syntax.specs.LeafGrammar.{ReadsSome, Stands}
use Rattle.nextest_filter_syntax.proofs.ReadFacts.{some_is}
use Rattle.nextest_filter_syntax.proofs.LeafStepFacts.{fault_after, goes_both, goes_from, goes_up_to}
use Rattle.nextest_filter_syntax.proofs.sets.platform_set_from.Goals as goal

pub returns-in_default-clause-goes_on : goal.returns-in_default-clause-goes_on
returns-in_default-clause-goes_on c =
    let text = c.args.text.now in
    let start = c.skip_blanks-start.result in
    let rest = goes_both text start c.in_ok-name.end c.in_ok-after.after c.opened_after.new.faults c.some_text.new.faults c.closed_after.new.faults c.in_ok-name.ensures.goes_on c.in_ok-after.ensures.goes_on in
    let inner = goes_from text c.in_ok-inner.inner start c.in_ok-after.after c.opened_after.new.faults c.closed_after.new.faults c.skip_blanks-start.ensures.rises rest in
    goes_both text c.args.at c.in_ok-inner.inner c.in_ok-after.after c.args.faults.now c.opened_after.new.faults c.closed_after.new.faults c.in_ok-inner.ensures.goes_on inner

pub returns-in-Some-2-clause-goes_on : goal.returns-in-Some-2-clause-goes_on
returns-in-Some-2-clause-goes_on c =
    let text = c.args.text.now in
    let start = c.skip_blanks-start.result in
    let rest = goes_both text start c.in_ok-name.end c.in_ok-after.after c.opened_after.new.faults c.some_text.new.faults c.closed_after.new.faults c.in_ok-name.ensures.goes_on c.in_ok-after.ensures.goes_on in
    let inner = goes_from text c.in_ok-inner.inner start c.in_ok-after.after c.opened_after.new.faults c.closed_after.new.faults c.skip_blanks-start.ensures.rises rest in
    let name = c.in_ok-name.ensures.goes_on in
    let span_end = c.in_ok-inner.inner + (c.in_ok-name.end - c.in_ok-inner.inner) in
    let within : span_end ≤ length text = omega (arith, c.skip_blanks-start.ensures.rises, name.0, name.1) in
    goes_up_to text c.args.at c.in_ok-after.after span_end c.args.faults.now c.closed_after.new.faults c.platform_of.new.faults (goes_both text c.args.at c.in_ok-inner.inner c.in_ok-after.after c.args.faults.now c.opened_after.new.faults c.closed_after.new.faults c.in_ok-inner.ensures.goes_on inner) within c.in_ok-platform.ensures.grows

pub returns-clause-goes_on : goal.returns-clause-goes_on
returns-clause-goes_on c =
    let text = c.args.text.now in
    let start = c.skip_blanks-start.result in
    let rest = goes_both text start c.in_ok-name.end c.in_ok-after.after c.opened_after.new.faults c.some_text.new.faults c.closed_after.new.faults c.in_ok-name.ensures.goes_on c.in_ok-after.ensures.goes_on in
    let inner = goes_from text c.in_ok-inner.inner start c.in_ok-after.after c.opened_after.new.faults c.closed_after.new.faults c.skip_blanks-start.ensures.rises rest in
    let name = c.in_ok-name.ensures.goes_on in
    let span_end = c.in_ok-inner.inner + (c.in_ok-name.end - c.in_ok-inner.inner) in
    let within : span_end ≤ length text = omega (arith, c.skip_blanks-start.ensures.rises, name.0, name.1) in
    goes_up_to text c.args.at c.in_ok-after.after span_end c.args.faults.now c.closed_after.new.faults c.platform_of.new.faults (goes_both text c.args.at c.in_ok-inner.inner c.in_ok-after.after c.args.faults.now c.opened_after.new.faults c.closed_after.new.faults c.in_ok-inner.ensures.goes_on inner) within c.in_ok-platform.ensures.grows

pub returns-in_default-clause-spoils : goal.returns-in_default-clause-spoils
returns-in_default-clause-spoils c =
    let name = rw c.in_default.is at c.in_ok-name.ensures.spoils in
    (tt, fault_after c.some_text.new.faults c.closed_after.new.faults c.args.text.now c.in_ok-name.end c.in_ok-after.after name.1 c.in_ok-after.ensures.goes_on)

pub returns-in-Some-2-clause-spoils : goal.returns-in-Some-2-clause-spoils
returns-in-Some-2-clause-spoils c =
    let name = rw c.in-Some.is at c.in_ok-name.ensures.spoils in
    let platform = rw c.in-Some-2.is at c.in_ok-platform.ensures.spoils in
    (platform.0 ∙ c.in_ok-after.ensures.keeps ∙ name.0 ∙ c.in_ok-inner.ensures.keeps, tt)

pub returns-clause-spoils : goal.returns-clause-spoils
returns-clause-spoils c =
    let platform = rw c.in-None.is at c.in_ok-platform.ensures.spoils in
    (tt, platform.1)

pub returns-in-Some-2-clause-read : goal.returns-in-Some-2-clause-read
returns-in-Some-2-clause-read c clean =
    let text = c.args.text.now in
    let named : IsClean c.closed_after.new.faults = omega (arith, clean, c.in_ok-platform.ensures.grows.1) in
    let after : IsClean c.some_text.new.faults = omega (arith, named, c.in_ok-after.ensures.goes_on.2.1) in
    let opened : IsClean c.opened_after.new.faults = omega (arith, after, c.in_ok-name.ensures.goes_on.2.1) in
    let read = rw c.in-Some.is at c.in_ok-name.ensures.read after in
    let names = rw c.in-Some-2.is at c.in_ok-platform.ensures.read in
    record {
      platform = c.in-Some-2.platform;
      bytes = string_bytes c.in-Some.name;
      inner = c.in_ok-inner.inner;
      end = c.in_ok-name.end;
      opens = c.in_ok-inner.ensures.read opened;
      reads = subst (λ k. ReadsSome text k (string_bytes c.in-Some.name) c.in_ok-name.end) c.skip_blanks-start.ensures.value read;
      names = subst (λ xs. trim xs ≡ platform_text c.in-Some-2.platform) c.as_str.ensures.value names;
      closes = c.in_ok-after.ensures.read named;
      is = refl;
    }

pub some_text-requires-clause-faults : goal.some_text-requires-clause-faults
some_text-requires-clause-faults c =
    c.in_ok-inner.ensures.goes_on.2.2

pub closed_after-requires-clause-faults : goal.closed_after-requires-clause-faults
closed_after-requires-clause-faults c =
    c.in_ok-name.ensures.goes_on.2.2

pub returns-in-Some-2-clause-only : goal.returns-in-Some-2-clause-only
returns-in-Some-2-clause-only c clean leaf j from =
    let text = c.args.text.now in
    let opened = c.in_ok-inner.ensures.only clean from.inner from.opens in
    let place = ap (skip text) (sym opened.0) ∙ sym c.skip_blanks-start.ensures.value in
    let reads = subst (λ k. ReadsSome text k from.bytes from.end) place from.reads in
    let name = c.in_ok-name.ensures.only opened.1 from.bytes from.end reads in
    let closes = subst (λ k. Stands text k 41 j) (sym name.0) from.closes in
    let after = c.in_ok-after.ensures.only name.1 j closes in
    let read = rw c.in-Some.is at c.in_ok-name.ensures.read name.1 in
    let same = some_is text read.0 reads in
    let names = subst (λ xs. trim xs ≡ platform_text from.platform) (sym (c.as_str.ensures.value ∙ same.0)) from.names in
    (after.0, c.in_ok-platform.ensures.only after.1 from.platform names)

pub returns-in_default-clause-only : goal.returns-in_default-clause-only
returns-in_default-clause-only c clean leaf j from =
    let text = c.args.text.now in
    let opened = c.in_ok-inner.ensures.only clean from.inner from.opens in
    let place = ap (skip text) (sym opened.0) ∙ sym c.skip_blanks-start.ensures.value in
    let reads = subst (λ k. ReadsSome text k from.bytes from.end) place from.reads in
    let name = c.in_ok-name.ensures.only opened.1 from.bytes from.end reads in
    let spoiled = rw c.in_default.is at c.in_ok-name.ensures.spoils in
    absurd (omega (arith, name.1, spoiled.1.1))

pub returns-clause-only : goal.returns-clause-only
returns-clause-only c clean leaf j from =
    let text = c.args.text.now in
    let opened = c.in_ok-inner.ensures.only clean from.inner from.opens in
    let place = ap (skip text) (sym opened.0) ∙ sym c.skip_blanks-start.ensures.value in
    let reads = subst (λ k. ReadsSome text k from.bytes from.end) place from.reads in
    let name = c.in_ok-name.ensures.only opened.1 from.bytes from.end reads in
    let closes = subst (λ k. Stands text k 41 j) (sym name.0) from.closes in
    let after = c.in_ok-after.ensures.only name.1 j closes in
    let read = rw c.in-Some.is at c.in_ok-name.ensures.read name.1 in
    let same = some_is text read.0 reads in
    let names = subst (λ xs. trim xs ≡ platform_text from.platform) (sym (c.as_str.ensures.value ∙ same.0)) from.names in
    (after.0, c.in_ok-platform.ensures.only after.1 from.platform names)
