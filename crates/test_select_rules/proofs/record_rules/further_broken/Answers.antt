use Rattle.std.proofs.Common.{sym, ◌∙◌, ap, position, Bool}
use Rattle.std.specs.List.{list_any}
use Rattle.test_select_rules.specs.Binaries.{Binary}
use Rattle.test_select_rules.specs.BinaryView.{binary_view}
use Rattle.test_select_rules.specs.RecordRules.{is_blank}
use Rattle.guppy_package_rules.proofs.Positions.{position-map}
use Rattle.test_select_rules.proofs.record_rules.further_broken.Goals as goal

abbrev has_blank : Binary → Bool
has_blank b = list_any is_blank b.id

pub returns-in-BinaryIdTexts : goal.returns-in-BinaryIdTexts
returns-in-BinaryIdTexts c =
    rw c.in-BinaryIdTexts.is (c.first_blank_binary.ensures ∙ sym (position-map has_blank binary_view c.args.all.now) ∙ ap (position has_blank) c.requires)
