use Rattle.std.proofs.Common.{◌≡◌, ◌+◌, ◌-◌, ◌<◌, ◌||◌, ap, length, drop, inl, inr, sym, ◌∙◌, subst, arith}
use Rattle.workspace_record.specs.Features.{FeatureValue}
use Rattle.feature_account_rules.specs.Closed.{is_premise}
use Rattle.feature_account_rules.specs.Found.{found_set}
use Rattle.feature_account.proofs.ExplanationFacts.{UsedFrom, number_known, used_step, unused_step}
use Rattle.feature_account.proofs.explanation_check.first_unneeded.Goals as goal
use Rattle.feature_account.proofs.explanation_check.first_unneeded.Goals.{then-place-entries+then-not-contains, else-place-entries, else-place-entries-via-then-place-entries+else-not-contains, else-place-entries-via-else-place-entries}

pub rule_of-rule-requires : goal.rule_of-rule-requires
rule_of-rule-requires c = record {
  known = number_known c.args.rules.now c.args.entries.now (c.loop-place.place - 1) c.requires.sound (omega arith);
}

pub loop-place-preserved : goal.loop-place-preserved
loop-place-preserved c =
    let rules = c.args.rules.now in
    let entries = c.args.entries.now in
    let place = c.loop-place.place in
    let p = place - 1 in
    let needed = found_set c.loop-place.needed in
    let more = found_set c.insert_premises.new.found in
    let unused = c.loop-place.unused in
    let r = c.rule_of-rule.result.now in
    let next : place ≡ p + 1 = omega arith in
    let within : p < length entries = omega arith in
    let before = c.loop-place.invariant in
    let grown : (f : FeatureValue) → more f ≡ (is_premise r.premises f || needed f) = λ f. c.in_ok-insert_premises.ensures.found f ∙ ap (λ p. is_premise p f || needed f) c.premises.ensures.premises in
    let known = c.rule_of-rule.ensures.stands in
    elim c.if-place-entries.branch [ then-place-entries+then-not-contains w ↦ subst (UsedFrom rules (drop p entries) p more) (sym w.unused-is) (unused_step rules entries p place needed more unused r known next within before grown (omega (arith, w.if-place-entries.true)) (ap needed (sym w.conclusion.ensures.conclusion) ∙ sym w.contains.ensures.answer ∙ w.if-not-contains.true)) | else-place-entries w ↦ subst (UsedFrom rules (drop p entries) p more) (sym w.unused-is) (used_step rules entries p place needed more unused r known next within before grown (elim w.else-place-entries.branch [ else-place-entries-via-then-place-entries+else-not-contains w' ↦ inr (ap needed (sym w'.conclusion.ensures.conclusion) ∙ sym w'.contains.ensures.answer ∙ w'.if-not-contains.false) | else-place-entries-via-else-place-entries w' ↦ inl (omega (arith, w'.if-place-entries.false)) ])) ]
