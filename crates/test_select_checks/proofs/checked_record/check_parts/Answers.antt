use Rattle.std.proofs.Common.{◌∙◌, subst}
use Rattle.test_select_checks.specs.Compiling.{ChecksFilters}
use Rattle.test_select_checks.proofs.CheckedFacts.{checked_as_filters, further_first}
use Rattle.test_select_checks.proofs.checked_record.check_parts.Goals as goal

pub returns-in-Some : goal.returns-in-Some
returns-in-Some c = further_first c.args.index.now c.in_ok-rule.field-0 c.requires.kept c.in_ok-rule.ensures.first ∙ c.in-Some.is

pub returns : goal.returns
returns c =
    checked_as_filters c.args.index.now c.check_filters.result (further_first c.args.index.now c.in_ok-rule.field-0 c.requires.kept c.in_ok-rule.ensures.first ∙ c.in_default.is) (subst (λ w. ChecksFilters w c.check_filters.result) c.record.ensures.value c.check_filters.ensures)
