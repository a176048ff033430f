use Rattle.std.proofs.Common.{map, take}
use Rattle.list_facts.specs.Texts.{texts}
use Rattle.nextest_filter_matchers.specs.Matchers.{tokens_of}
use Rattle.test_select_changes.specs.Listings.{AreNamesAround}
use Rattle.test_select_changes.proofs.collecting.changed_among.Given as goal

abbrev pub invariant-loop-path : goal.invariant-loop-path
invariant-loop-path l = AreNamesAround l.folders (map (λ glob. tokens_of glob) l.ignored) (take l.path-index (map (λ path. path.now) l.paths)) (texts l.names.items)
