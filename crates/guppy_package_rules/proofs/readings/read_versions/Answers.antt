use Rattle.std.proofs.Common.{not, sym, ◌∙◌, ap}
use Rattle.std.proofs.lemmas.Result.{err_from_is_err_and}
use Rattle.semver.specs.Identifiers.{parts_of}
use Rattle.semver.specs.Parse.{version_parts}
use Rattle.guppy_package_rules.specs.Rules.{is_version}
use Rattle.guppy_package_rules.specs.declared.record_rule.RecordRule.TheVariants.{Versions}
use Rattle.guppy_package_rules.proofs.Positions.{position_at}
use Rattle.guppy_package_rules.proofs.ReadingFacts.{names_place, none_unread}
use Rattle.guppy_package_rules.proofs.readings.read_versions.Goals as goal

pub returns-in_err-read_version-clause-refused : goal.returns-in_err-read_version-clause-refused
returns-in_err-read_version-clause-refused c =
    let p = err_from_is_err_and c.from_residual-in_err-read_version.result c.from_residual-in_err-read_version.ensures.1 in
    let none = none_unread (λ p. version_parts p.version) parts_of _ _ c.loop-place.invariant in
    rw (p.1, p.2) (names_place c.in_err-read_version.field-0.0 Versions c.loop-place.place _ (λ other. let both = c.in_err-read_version.ensures.refused other in (
      both.0,
      position_at (λ p. not (is_version p.version)) c.args.packages.now c.loop-place.place c.index-packages-place.result c.loop-place-test.true none (ap (λ p. not (is_version p.version)) (sym c.index-packages-place.is) ∙ ap not both.1),
    )))
