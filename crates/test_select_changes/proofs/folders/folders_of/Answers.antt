use Rattle.std.proofs.Common.{rules}
use Rattle.std.specs.Ordering.{is_lt}
use Rattle.std.proofs.lemmas.Fn.{always_returns_same}
use Rattle.std.proofs.lemmas.List.Sorted.{ranks_by}
use Rattle.test_select_changes.specs.Folders.{NamedFolder}
use Rattle.test_select_changes.specs.PartViews.{parts_cmp}
use Rattle.test_select_changes.proofs.FolderFacts.{folders_moved}
use Rattle.test_select_changes.proofs.RangeFacts.{parts_total}
use Rattle.test_select_changes.proofs.folders.folders_of.Goals as goal

pub returns-clause-folders : goal.returns-clause-folders
returns-clause-folders c = folders_moved _ _ _ c.sort_unstable_by.new.self.items c.sort_unstable_by.ensures.permutation c.in_ok-folders.ensures

pub returns-clause-ordered : goal.returns-clause-ordered
returns-clause-ordered c =
    c.sort_unstable_by.ensures.sorted (λ (a b : NamedFolder). is_lt (parts_cmp a.parts b.parts)) (ranks_by parts_total (λ (f : NamedFolder). f.parts)) (always_returns_same _ _ _ (λ a r next called. (search rules, search rules)))
