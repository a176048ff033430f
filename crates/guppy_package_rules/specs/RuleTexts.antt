-- What rules of records print.
use Rattle.std.specs.Prelude.{codes}
use Rattle.workspace_record.specs.Records.{Text}
use Rattle.guppy_package_rules.specs.declared.record_rule.RecordRule.{RecordRule}
use Rattle.guppy_package_rules.specs.declared.record_rule.RecordRule.TheVariants.{PackageIds, Versions, LinkEnds, LinkNames, LinkLines, Requirements, Members, MemberNames, MemberPaths, DefaultMembers, Targets, OptionalLines, FeatureNames, BinaryIds, BinaryIdTexts, RequiredFeatures, Groups, Filters}

-- the code of a rule
abbrev pub rule_text : RecordRule → Text
rule_text PackageIds = codes "K1"
rule_text Versions = codes "K2"
rule_text LinkEnds = codes "K3"
rule_text LinkNames = codes "K4"
rule_text LinkLines = codes "K5"
rule_text Requirements = codes "K6"
rule_text Members = codes "K7"
rule_text MemberNames = codes "K8"
rule_text MemberPaths = codes "K9"
rule_text DefaultMembers = codes "K10"
rule_text Targets = codes "K11"
rule_text OptionalLines = codes "K12"
rule_text FeatureNames = codes "K13"
rule_text BinaryIds = codes "K14"
rule_text BinaryIdTexts = codes "K15"
rule_text RequiredFeatures = codes "K16"
rule_text Groups = codes "K17"
rule_text Filters = codes "K18"
