use Rattle.std.proofs.Common.{◌+◌, ◌*◌, ◌<◌, length, Some, refl, sym, ap, ◌∙◌, subst, get_or, nat_eq, arith}
use Rattle.std.specs.Cmp.{unsigned_Decides}
use Rattle.list_facts.proofs.Quantifiers.{list_any-from_Contains}
use Rattle.std.proofs.lemmas.List.{get_or_default}
use Rattle.std.proofs.lemmas.Option.{slice_get-get_or}
use Rattle.feature_account.specs.Accounts.{conclusions}
use Rattle.feature_account_making.specs.Waiting.{size, waiting_at}
use Rattle.feature_account_making.proofs.ConclusionFacts.{left_out}
use Rattle.feature_account_making.proofs.FoundFacts.{found_rule, woken_rule}
use Rattle.feature_account_making.proofs.SearchFacts.{Keeps, search_begins, passes_over, goes_on, looks_end, is_lowest, concludes_what_is_on, looks_are}
use Rattle.feature_account_making.proofs.making.look_at_each.Goals as goal

pub loop-number-init : goal.loop-number-init
loop-number-init c = search_begins c.args.rules.now c.args.ready.now c.args.found.now c.new-account.result.items c.new-account.ensures.items c.requires.ready c.requires.found

pub loop-number-preserved : goal.loop-number-preserved
loop-number-preserved c =
    let rules = c.args.rules.now in
    let n = c.in-Some.number in
    let rule = c.index-rules-number.result in
    let before = c.loop-number.invariant in
    passes_over rules c.loop-number.ready c.take_least.new.self c.loop-number.found c.loop-number.account.items c.loop-number.looks n rule before (slice_get-get_or rules n rule (before.known n c.in-Some.ensures.least.member) ∙ ap Some (sym c.index-rules-number.is)) c.in-Some.ensures.least (sym c.is_open.ensures.answer ∙ c.if-is_open.false)

pub loop-number-preserved-in-Continue-branch-3 : goal.loop-number-preserved-in-Continue-branch-3
loop-number-preserved-in-Continue-branch-3 c =
    let rules = c.args.rules.now in
    let n = c.in-Some.number in
    let rule = c.index-rules-number.result in
    let before = c.loop-number.invariant in
    let account = c.loop-number.account.items in
    let on = goes_on rules c.loop-number.ready c.take_least.new.self c.loop-number.found account c.loop-number.looks n rule before (slice_get-get_or rules n rule (before.known n c.in-Some.ensures.least.member) ∙ ap Some (sym c.index-rules-number.is)) c.in-Some.ensures.least (sym c.is_open.ensures.answer ∙ c.if-is_open.true) c.args.waiting.now c.requires.waiting c.wake.new.self c.insert.new.found (found_rule rule.conclusion c.conclusion-conclusion.result.now c.conclusion-conclusion.ensures.conclusion c.loop-number.found c.insert.new.found c.in_ok-insert.ensures.found) (woken_rule rule.conclusion c.conclusion-conclusion.result.now c.conclusion-conclusion.ensures.conclusion c.args.waiting.now c.take_least.new.self c.wake.new.self c.in_ok-wake.ensures) in
    subst (λ xs. Keeps rules c.wake.new.self c.insert.new.found xs (c.loop-number.looks + 1)) (sym c.in_ok-push.ensures.items) on

pub loop-number-smaller-in-Continue-branch-3 : goal.loop-number-smaller-in-Continue-branch-3
loop-number-smaller-in-Continue-branch-3 c =
    let rules = c.args.rules.now in
    let n = c.in-Some.number in
    let rule = c.index-rules-number.result in
    let before = c.loop-number.invariant in
    let account = c.loop-number.account.items in
    let fewer = looks_end rules c.loop-number.ready c.take_least.new.self c.loop-number.found account c.loop-number.looks n rule before (slice_get-get_or rules n rule (before.known n c.in-Some.ensures.least.member) ∙ ap Some (sym c.index-rules-number.is)) c.in-Some.ensures.least (sym c.is_open.ensures.answer ∙ c.if-is_open.true) c.args.waiting.now c.requires.waiting c.wake.new.self c.insert.new.found (found_rule rule.conclusion c.conclusion-conclusion.result.now c.conclusion-conclusion.ensures.conclusion c.loop-number.found c.insert.new.found c.in_ok-insert.ensures.found) (woken_rule rule.conclusion c.conclusion-conclusion.result.now c.conclusion-conclusion.ensures.conclusion c.args.waiting.now c.take_least.new.self c.wake.new.self c.in_ok-wake.ensures) in
    subst (λ xs. left_out rules (conclusions rules xs) * (length rules + 1) + size c.wake.new.self < left_out rules (conclusions rules account) * (length rules + 1) + size c.loop-number.ready) (sym c.in_ok-push.ensures.items) fewer

pub returns-clause-lowest : goal.returns-clause-lowest
returns-clause-lowest c =
    let empty = c.in_default.ensures.none in
    is_lowest c.args.rules.now c.loop-number.ready c.loop-number.found c.loop-number.account.items c.loop-number.looks c.loop-number.invariant empty

pub returns-clause-on : goal.returns-clause-on
returns-clause-on c = λ f.
    let empty = c.in_default.ensures.none in
    concludes_what_is_on c.args.rules.now c.loop-number.ready c.loop-number.found c.loop-number.account.items c.loop-number.looks c.loop-number.invariant empty f

pub returns-clause-looks : goal.returns-clause-looks
returns-clause-looks c =
    let empty = c.in_default.ensures.none in
    looks_are c.args.rules.now c.loop-number.ready c.loop-number.found c.loop-number.account.items c.loop-number.looks c.loop-number.invariant empty

pub wake-requires-clause-known : goal.wake-requires-clause-known
wake-requires-clause-known c k d lt =
    let waits = c.requires.waiting in
    let f = c.conclusion-conclusion.result.now in
    let numbers = waiting_at c.args.waiting.now f in
    let n = get_or numbers k d in
    let inside = list_any-from_Contains (nat_eq n) numbers n (k, lt, get_or_default numbers k n d lt) ((unsigned_Decides n n).1 refl) in
    let below = waits.known n f inside in
    let all = c.in-Some.ensures.least.count_is ∙ c.loop-number.invariant.count_is in
    omega (arith, below, all)
