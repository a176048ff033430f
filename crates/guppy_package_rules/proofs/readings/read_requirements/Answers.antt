use Rattle.std.proofs.Common.{map, not, sym, ◌∙◌, ap}
use Rattle.std.proofs.lemmas.Result.{err_from_is_err_and}
use Rattle.semver.specs.Identifiers.{comparator_view}
use Rattle.semver.specs.Parse.{req_of}
use Rattle.guppy_package_rules.specs.Rules.{is_requirement}
use Rattle.guppy_package_rules.specs.declared.record_rule.RecordRule.TheVariants.{Requirements}
use Rattle.guppy_package_rules.proofs.Positions.{position_at}
use Rattle.guppy_package_rules.proofs.ReadingFacts.{names_place, none_unread}
use Rattle.guppy_package_rules.proofs.readings.read_requirements.Goals as goal

pub returns-in_err-read_requirement-clause-refused : goal.returns-in_err-read_requirement-clause-refused
returns-in_err-read_requirement-clause-refused c =
    let p = err_from_is_err_and c.from_residual-in_err-read_requirement.result c.from_residual-in_err-read_requirement.ensures.1 in
    let none = none_unread (λ l. req_of l.requirement) (λ r. map comparator_view r.comparators.items) _ _ c.loop-place.invariant in
    rw (p.1, p.2) (names_place c.in_err-read_requirement.field-0.0 Requirements c.loop-place.place _ (λ other. let both = c.in_err-read_requirement.ensures.refused other in (
      both.0,
      position_at (λ l. not (is_requirement l.requirement)) c.args.links.now c.loop-place.place c.index-links-place.result c.loop-place-test.true none (ap (λ l. not (is_requirement l.requirement)) (sym c.index-links-place.is) ∙ ap not both.1),
    )))
