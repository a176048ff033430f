use Rattle.std.proofs.Common.{[], ◌∷◌, ◌∙◌, refl, sym}
use Rattle.std.proofs.lemmas.Result.{err_from_is_err_and}
use Rattle.guppy_package_rules.specs.Rules.{first_broken}
use Rattle.guppy_package_rules.specs.declared.record_rule.RecordRule.TheVariants.{LinkEnds, LinkLines, LinkNames}
use Rattle.guppy_package_rules.proofs.FaultFacts.{names_next, names_rule, none_next}
use Rattle.guppy_package_rules.proofs.package_rules.test_links.Goals as goal

pub returns-in_err-test-clause-refused : goal.returns-in_err-test-clause-refused
returns-in_err-test-clause-refused c =
    let p = err_from_is_err_and c.from_residual-in_err-test.result c.from_residual-in_err-test.ensures.1 in
    rw (p.1, p.2) (λ w. let broken = first_broken c.args.packages.now c.args.links.now w in names_rule broken LinkEnds (LinkNames ∷ (LinkLines ∷ [])) _ _ c.in_ok-first_unknown_end.ensures c.in_err-test.ensures.refused)

pub returns-in_err-test-2-clause-refused : goal.returns-in_err-test-2-clause-refused
returns-in_err-test-2-clause-refused c =
    let p = err_from_is_err_and c.from_residual-in_err-test-2.result c.from_residual-in_err-test-2.ensures.1 in
    rw (p.1, p.2) (λ w. let broken = first_broken c.args.packages.now c.args.links.now w in names_next broken LinkEnds (LinkNames ∷ (LinkLines ∷ [])) _ (sym c.in_ok-first_unknown_end.ensures ∙ c.in_ok-test.ensures.kept) (names_rule broken LinkNames (LinkLines ∷ []) _ _ c.in_ok-first_repeated_link.ensures c.in_err-test-2.ensures.refused))

pub returns-in_err-test-3-clause-refused : goal.returns-in_err-test-3-clause-refused
returns-in_err-test-3-clause-refused c =
    let p = err_from_is_err_and c.from_residual-in_err-test-3.result c.from_residual-in_err-test-3.ensures.1 in
    rw (p.1, p.2) (λ w. let broken = first_broken c.args.packages.now c.args.links.now w in names_next broken LinkEnds (LinkNames ∷ (LinkLines ∷ [])) _ (sym c.in_ok-first_unknown_end.ensures ∙ c.in_ok-test.ensures.kept) (names_next broken LinkNames (LinkLines ∷ []) _ (sym c.in_ok-first_repeated_link.ensures ∙ c.in_ok-test-2.ensures.kept) (names_rule broken LinkLines [] _ _ c.first_empty_link.ensures c.in_err-test-3.ensures.refused)))

pub returns-clause-kept : goal.returns-clause-kept
returns-clause-kept c w = let broken = first_broken c.args.packages.now c.args.links.now w in none_next broken LinkEnds (LinkNames ∷ (LinkLines ∷ [])) (sym c.in_ok-first_unknown_end.ensures ∙ c.in_ok-test.ensures.kept) (none_next broken LinkNames (LinkLines ∷ []) (sym c.in_ok-first_repeated_link.ensures ∙ c.in_ok-test-2.ensures.kept) (none_next broken LinkLines [] (sym c.first_empty_link.ensures ∙ c.in_ok-test-3.ensures.kept) refl))
