-- What contracts see of rules with their sources.
use Rattle.feature_account_making.specs.Sources.{Source, Sourced, Chosen, OfPackage, OfEntry, OfLine}
use Rattle.feature_account_making.specs.declared.rule_source.RuleSource.{RuleSource}
use Rattle.feature_account_making.specs.declared.rule_source.RuleSource.TheVariants as code
use Rattle.feature_account_making.specs.declared.sourced_rule.SourcedRule.{SourcedRule}

abbrev pub source_view : RuleSource → Source
source_view code.Choice = Chosen
source_view code.Package = OfPackage
source_view (code.Entry owner feature entry) = OfEntry owner.now feature.now entry.now
source_view (code.Line owner name) = OfLine owner.now name.now

abbrev pub sourced_view : SourcedRule → Sourced
sourced_view r = record { source = source_view r.source; rule = r.rule }
