use Rattle.std.proofs.Common.{◌≡◌, ◌++◌, [], ◌∷◌, ◌∙◌, ap, append-nil, get_or, is_some, sym}
use Rattle.std.proofs.lemmas.Bool.{ltb-false, ltb-true}
use Rattle.workspace_record.specs.Features.{FeatureValue}
use Rattle.feature_account.specs.Accounts.{conclusions}
use Rattle.feature_account_making.proofs.OnFacts.{conclusion_of, conclusions_more, no_conclusion}
use Rattle.feature_account_making.proofs.concluding.concluded.Goals as goal
use Rattle.feature_account_making.proofs.concluding.concluded.Goals.{in-Some+in_ok-copy+in_ok-push, in_default}

pub loop-number-preserved : goal.loop-number-preserved
loop-number-preserved c =
    let rules = c.args.rules.now in
    let entries = c.args.entries.now in
    let i = c.loop-number.number-index in
    let n = get_or entries i 0 in
    let before = c.loop-number.features.items in
    let more : c.match-get.features.items ≡ before ++ conclusions rules (n ∷ []) = elim c.match-get.branch [
      | in-Some+in_ok-copy+in_ok-push w ↦ ap (λ v. v.items) w.features-is ∙ w.in_ok-push.ensures.items ∙ ap (λ (f : FeatureValue). before ++ f ∷ []) w.in_ok-copy.ensures ∙ ap (λ fs. before ++ fs) (sym (conclusion_of rules n w.in-Some.rule.now (ltb-true _ _ (sym w.in-Some.ensures.lookup.0)) w.in-Some.ensures.lookup.1))
      | in_default w ↦ ap (λ v. v.items) w.features-is ∙ sym (append-nil before) ∙ ap (λ fs. before ++ fs) (sym (no_conclusion rules n (ltb-false _ _ (sym c.get.ensures.lookup.0 ∙ ap is_some w.in_default.is))))
    ] in
    more ∙ ap (λ xs. xs ++ conclusions rules (n ∷ [])) c.loop-number.invariant ∙ sym (conclusions_more rules entries i 0 c.loop-number-test.true)
