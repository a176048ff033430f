use Rattle.std.proofs.Common.{length, ◌∙◌, refl, sym}
use Rattle.std.proofs.lemmas.Bool.{ltb-false}
use Rattle.workspace_record.specs.Features.{feature_eq, features_decide}
use Rattle.std.proofs.lemmas.Option.{slice_get_read, slice_get_past}
use Rattle.feature_account.proofs.ExplanationFacts.{ends_unknown, ends_known}
use Rattle.feature_account.proofs.explanation_check.ends_in.Goals as goal

pub returns-in-None-get : goal.returns-in-None-get
returns-in-None-get c =
    let rules = c.args.rules.now in
    let n = c.in-Some.number.now in
    (λ h. cc, λ ends. absurd (ends_unknown rules c.args.goal.now c.args.entries.now c.in-Some.field-0-1.now n c.in-Some.ensures.cases.0 (slice_get_past rules n (ltb-false _ _ (sym c.in-None-get.ensures.lookup.0))) ends))

pub returns-in-Some-get : goal.returns-in-Some-get
returns-in-Some-get c =
    let rules = c.args.rules.now in
    let n = c.in-Some.number.now in
    let r = c.in-Some-get.rule.now in
    let found = c.in-Some-get.ensures.lookup in
    let iff = ends_known rules c.args.goal.now c.args.entries.now c.in-Some.field-0-1.now n r c.in-Some.ensures.cases.0 (slice_get_read rules (length rules) n r refl found.3.0 found.1) in
    let decided = features_decide r.conclusion c.args.goal.now in
    let same = c.eq.ensures ∙ (λ i. feature_eq (c.conclusion.ensures.conclusion i) (c.of.ensures.lent i)) in
    (λ h. iff.1 (decided.0 (sym same ∙ h)), λ ends. same ∙ decided.1 (iff.0 ends))
