use Rattle.std.proofs.Common.{◌++◌, ◌∷◌, ◌∙◌, refl, sym}
use Rattle.std.proofs.lemmas.Result.{err_from_is_err_and}
use Rattle.guppy_package_rules.specs.Rules.{first_broken, link_rules, member_rules}
use Rattle.guppy_package_rules.specs.declared.record_rule.RecordRule.TheVariants.{PackageIds, Requirements, Versions}
use Rattle.guppy_package_rules.proofs.FaultFacts.{names_first, names_later, names_next, names_rule, none_next, passed, refusal}
use Rattle.guppy_package_rules.proofs.KeptFacts.{kept_iff}
use Rattle.guppy_package_rules.proofs.ReadingFacts.{requirements_read, versions_read}
use Rattle.guppy_package_rules.proofs.package_rules.read_rows.Goals as goal

pub returns-in_err-test-clause-refused : goal.returns-in_err-test-clause-refused
returns-in_err-test-clause-refused c =
    let broken = first_broken c.args.packages.now c.args.links.now c.args.workspace.now in
    let after = Requirements ∷ member_rules in
    let p = err_from_is_err_and c.from_residual-in_err-test.result c.from_residual-in_err-test.ensures.1 in
    rw (p.1, p.2) (refusal c.args.packages.now c.args.links.now c.args.workspace.now _ (names_rule broken PackageIds (Versions ∷ (link_rules ++ after)) _ _ c.in_ok-first_repeated_id.ensures c.in_err-test.ensures.refused))

pub returns-in_err-versions-clause-refused : goal.returns-in_err-versions-clause-refused
returns-in_err-versions-clause-refused c =
    let broken = first_broken c.args.packages.now c.args.links.now c.args.workspace.now in
    let after = Requirements ∷ member_rules in
    let p = err_from_is_err_and c.from_residual-in_err-versions.result c.from_residual-in_err-versions.ensures.1 in
    rw (p.1, p.2) (refusal c.args.packages.now c.args.links.now c.args.workspace.now _ (names_next broken PackageIds (Versions ∷ (link_rules ++ after)) _ (sym c.in_ok-first_repeated_id.ensures ∙ c.in_ok-test.ensures.kept) (names_rule broken Versions (link_rules ++ after) _ _ refl c.in_err-versions.ensures.refused)))

pub returns-in_err-test_links-clause-refused : goal.returns-in_err-test_links-clause-refused
returns-in_err-test_links-clause-refused c =
    let broken = first_broken c.args.packages.now c.args.links.now c.args.workspace.now in
    let after = Requirements ∷ member_rules in
    let versions = versions_read c.args.packages.now _ c.in_ok-versions.ensures.read in
    let p = err_from_is_err_and c.from_residual-in_err-test_links.result c.from_residual-in_err-test_links.ensures.1 in
    rw (p.1, p.2) (refusal c.args.packages.now c.args.links.now c.args.workspace.now _ (names_next broken PackageIds (Versions ∷ (link_rules ++ after)) _ (sym c.in_ok-first_repeated_id.ensures ∙ c.in_ok-test.ensures.kept) (names_next broken Versions (link_rules ++ after) _ versions (names_first broken link_rules after _ (c.in_err-test_links.ensures.refused c.args.workspace.now)))))

pub returns-in_err-requirements-clause-refused : goal.returns-in_err-requirements-clause-refused
returns-in_err-requirements-clause-refused c =
    let broken = first_broken c.args.packages.now c.args.links.now c.args.workspace.now in
    let after = Requirements ∷ member_rules in
    let versions = versions_read c.args.packages.now _ c.in_ok-versions.ensures.read in
    let links = c.in_ok-test_links.ensures.kept c.args.workspace.now in
    let p = err_from_is_err_and c.from_residual-in_err-requirements.result c.from_residual-in_err-requirements.ensures.1 in
    rw (p.1, p.2) (refusal c.args.packages.now c.args.links.now c.args.workspace.now _ (names_next broken PackageIds (Versions ∷ (link_rules ++ after)) _ (sym c.in_ok-first_repeated_id.ensures ∙ c.in_ok-test.ensures.kept) (names_next broken Versions (link_rules ++ after) _ versions (names_later broken link_rules after _ links (names_rule broken Requirements member_rules _ _ refl c.in_err-requirements.ensures.refused)))))

pub returns-in_err-test_members-clause-refused : goal.returns-in_err-test_members-clause-refused
returns-in_err-test_members-clause-refused c =
    let broken = first_broken c.args.packages.now c.args.links.now c.args.workspace.now in
    let after = Requirements ∷ member_rules in
    let versions = versions_read c.args.packages.now _ c.in_ok-versions.ensures.read in
    let links = c.in_ok-test_links.ensures.kept c.args.workspace.now in
    let requirements = requirements_read c.args.links.now _ c.in_ok-requirements.ensures.read in
    let p = err_from_is_err_and c.from_residual-in_err-test_members.result c.from_residual-in_err-test_members.ensures.1 in
    rw (p.1, p.2) (refusal c.args.packages.now c.args.links.now c.args.workspace.now _ (names_next broken PackageIds (Versions ∷ (link_rules ++ after)) _ (sym c.in_ok-first_repeated_id.ensures ∙ c.in_ok-test.ensures.kept) (names_next broken Versions (link_rules ++ after) _ versions (names_later broken link_rules after _ links (names_next broken Requirements member_rules _ requirements (c.in_err-test_members.ensures.refused c.args.links.now))))))

pub returns-clause-kept : goal.returns-clause-kept
returns-clause-kept c =
    let broken = first_broken c.args.packages.now c.args.links.now c.args.workspace.now in
    let after = Requirements ∷ member_rules in
    let versions = versions_read c.args.packages.now _ c.in_ok-versions.ensures.read in
    let links = c.in_ok-test_links.ensures.kept c.args.workspace.now in
    let requirements = requirements_read c.args.links.now _ c.in_ok-requirements.ensures.read in
    let members = c.in_ok-test_members.ensures.kept c.args.links.now in
    (kept_iff c.args.packages.now c.args.links.now c.args.workspace.now).0 (none_next broken PackageIds (Versions ∷ (link_rules ++ after)) (sym c.in_ok-first_repeated_id.ensures ∙ c.in_ok-test.ensures.kept) (none_next broken Versions (link_rules ++ after) versions (passed broken link_rules after links ∙ none_next broken Requirements member_rules requirements members)))
