use Rattle.std.proofs.Common.{◌<◌, ◌≤◌, ◌||◌, false, ap, length, get_or, refl, sym, ◌∙◌, arith}
use Rattle.std.proofs.lemmas.List.{take_all}
use Rattle.std.proofs.lemmas.Option.{slice_get-get_or, slice_get_read}
use Rattle.workspace_record.specs.Features.{feature_eq}
use Rattle.feature_account_rules.specs.Closed.{has_premises}
use Rattle.feature_account_rules.specs.Found.{found_set}
use Rattle.feature_account.proofs.AccountFacts.{begins, repeated_at, unsupported_at, reads_on, sound_at_end, found_at_end}
use Rattle.feature_account.proofs.soundness.first_fault.Goals as goal

pub loop-place-init : goal.loop-place-init
loop-place-init c = begins c.args.rules.now c.args.entries.now c.args.concluded.now c.requires

pub returns-then-contains-clause-fault : goal.returns-then-contains-clause-fault
returns-then-contains-clause-fault c =
    let entries = c.args.entries.now in
    let rules = c.args.rules.now in
    let place = c.loop-place.place in
    let n = get_or entries place 0 in
    let found = c.in-Some.ensures.lookup in
    let within : place < length entries = omega arith in
    repeated_at rules entries place n _ c.loop-place.invariant (slice_get-get_or entries place 0 within) c.in-Some.rule.now (slice_get_read rules (length rules) n c.in-Some.rule.now refl found.3.0 found.1) (ap (found_set c.loop-place.concluded) (sym c.conclusion-conclusion.ensures.conclusion) ∙ sym c.contains.ensures.answer ∙ c.if-contains.true)

pub returns-then-not-has_premises-clause-fault : goal.returns-then-not-has_premises-clause-fault
returns-then-not-has_premises-clause-fault c =
    let entries = c.args.entries.now in
    let rules = c.args.rules.now in
    let place = c.loop-place.place in
    let n = get_or entries place 0 in
    let r = c.in-Some.rule.now in
    let found = c.in-Some.ensures.lookup in
    let within : place < length entries = omega arith in
    unsupported_at rules entries place n _ c.loop-place.invariant (slice_get-get_or entries place 0 within) r (slice_get_read rules (length rules) n r refl found.3.0 found.1) (ap (found_set c.loop-place.concluded) (sym c.conclusion-conclusion.ensures.conclusion) ∙ sym c.contains.ensures.answer ∙ c.if-contains.false) (ap (has_premises (found_set c.loop-place.concluded)) (sym c.premises.ensures.premises) ∙ sym c.has_premises.ensures.answer ∙ c.if-not-has_premises.true)

pub loop-place-preserved : goal.loop-place-preserved
loop-place-preserved c =
    let entries = c.args.entries.now in
    let rules = c.args.rules.now in
    let place = c.loop-place.place in
    let n = get_or entries place 0 in
    let r = c.in-Some.rule.now in
    let found = c.in-Some.ensures.lookup in
    let within : place < length entries = omega arith in
    reads_on rules entries place n _ c.loop-place.invariant (slice_get-get_or entries place 0 within) r (slice_get_read rules (length rules) n r refl found.3.0 found.1) (ap (found_set c.loop-place.concluded) (sym c.conclusion-conclusion.ensures.conclusion) ∙ sym c.contains.ensures.answer ∙ c.if-contains.false) (ap (has_premises (found_set c.loop-place.concluded)) (sym c.premises.ensures.premises) ∙ sym c.has_premises.ensures.answer ∙ c.if-not-has_premises.false) (found_set c.insert.new.found) (λ f. c.in_ok-insert.ensures.found f ∙ ap (λ g. found_set c.loop-place.concluded f || (feature_eq f g || false)) c.conclusion-conclusion.ensures.conclusion)

pub returns-clause-sound : goal.returns-clause-sound
returns-clause-sound c =
    let past : length c.args.entries.now ≤ c.loop-place.place = omega arith in
    sound_at_end c.args.rules.now c.args.entries.now c.loop-place.place (found_set c.loop-place.concluded) c.loop-place.invariant (take_all c.loop-place.place c.args.entries.now past)

pub returns-clause-concluded : goal.returns-clause-concluded
returns-clause-concluded c =
    let past : length c.args.entries.now ≤ c.loop-place.place = omega arith in
    found_at_end c.args.rules.now c.args.entries.now c.loop-place.place (found_set c.loop-place.concluded) c.loop-place.invariant (take_all c.loop-place.place c.args.entries.now past)
