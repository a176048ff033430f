use Rattle.std.proofs.Common.{◌≡◌, ◌+◌, ◌-◌, ◌<◌, ◌||◌, [], ◌∷◌, length, take, drop, get_or, reverse, sym, ap, ◌∙◌, subst, arith}
use Rattle.std.proofs.lemmas.List.{reverse-append}
use Rattle.feature_account_rules.specs.Closed.{is_premise}
use Rattle.feature_account_rules.specs.Found.{found_set}
use Rattle.feature_account.proofs.ExplanationFacts.{number_known}
use Rattle.feature_account_making.proofs.Selecting.{Selects, skip_step, keep_step}
use Rattle.feature_account_making.proofs.explaining.entries_by.Goals as goal

pub rule_of-rule-requires : goal.rule_of-rule-requires
rule_of-rule-requires c = record {
  known = number_known c.args.rules.now c.args.account.now (c.loop-place.place - 1) c.requires.sound (omega arith);
}

pub loop-place-preserved : goal.loop-place-preserved
loop-place-preserved c =
    let account = c.args.account.now in
    let place = c.loop-place.place in
    let p = place - 1 in
    let next : place ≡ p + 1 = omega arith in
    let inside : p < length account = omega arith in
    skip_step c.args.rules.now c.args.goal.now account p place (reverse c.loop-place.entries.items) (found_set c.loop-place.needed) c.rule_of-rule.result.now c.rule_of-rule.ensures.stands next inside c.requires.sound c.loop-place.invariant (ap (found_set c.loop-place.needed) (sym c.conclusion.ensures.conclusion) ∙ sym c.contains.ensures.answer ∙ c.if-contains.false)

pub loop-place-preserved-in-Continue-branch-3 : goal.loop-place-preserved-in-Continue-branch-3
loop-place-preserved-in-Continue-branch-3 c =
    let account = c.args.account.now in
    let place = c.loop-place.place in
    let p = place - 1 in
    let entries = c.loop-place.entries.items in
    let n = get_or account p 0 in
    let more = found_set c.insert_premises.new.found in
    let next : place ≡ p + 1 = omega arith in
    let inside : p < length account = omega arith in
    let kept_is : reverse c.push.new.self.items ≡ n ∷ reverse entries = ap reverse c.in_ok-push.ensures.items ∙ reverse-append entries (n ∷ []) in
    subst (λ kept. Selects c.args.rules.now c.args.goal.now (take p account) (drop p account) kept more) (sym kept_is) (keep_step c.args.rules.now c.args.goal.now account p place (reverse entries) (found_set c.loop-place.needed) c.rule_of-rule.result.now c.rule_of-rule.ensures.stands next inside c.requires.sound c.loop-place.invariant more (ap (found_set c.loop-place.needed) (sym c.conclusion.ensures.conclusion) ∙ sym c.contains.ensures.answer ∙ c.if-contains.true) (λ f. c.in_ok-insert_premises.ensures.found f ∙ ap (λ q. is_premise q f || found_set c.loop-place.needed f) c.premises.ensures.premises))
