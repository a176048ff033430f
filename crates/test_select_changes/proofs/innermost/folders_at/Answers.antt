use Rattle.std.proofs.Common.{◌≤◌, rules}
use Rattle.std.specs.Ordering.{is_le, is_lt}
use Rattle.std.proofs.lemmas.List.Sorted.{IsPartitionPoint-from_clause}
use Rattle.test_select_changes.specs.Folders.{NamedFolder}
use Rattle.test_select_changes.specs.PartViews.{lent_parts, parts_cmp}
use Rattle.test_select_changes.proofs.RangeFacts.{below_first, in_order, range_members, upto_first}
use Rattle.test_select_changes.proofs.innermost.folders_at.Goals as goal

pub slice_bounds-result-count : goal.slice_bounds-result-count
slice_bounds-result-count c =
    let folders = c.args.folders.now in
    let key = lent_parts c.args.parts.now in
    let below = IsPartitionPoint-from_clause (λ (f : NamedFolder). is_lt (parts_cmp f.parts key)) folders c.partition_point-first.result c.partition_point-first.ensures.partitioned (below_first folders c.requires key) (λ a r next called. (search rules, search rules)) in
    let upto = IsPartitionPoint-from_clause (λ (f : NamedFolder). is_le (parts_cmp f.parts key)) folders c.partition_point-end.result c.partition_point-end.ensures.partitioned (upto_first folders c.requires key) (λ a r next called. (search rules, search rules)) in
    in_order folders c.requires key c.partition_point-first.result c.partition_point-end.result c.partition_point-first.ensures.bound c.partition_point-end.ensures.bound below upto

pub slice_bounds-result-start : goal.slice_bounds-result-start
slice_bounds-result-start c =
    let folders = c.args.folders.now in
    let key = lent_parts c.args.parts.now in
    let below = IsPartitionPoint-from_clause (λ (f : NamedFolder). is_lt (parts_cmp f.parts key)) folders c.partition_point-first.result c.partition_point-first.ensures.partitioned (below_first folders c.requires key) (λ a r next called. (search rules, search rules)) in
    let upto = IsPartitionPoint-from_clause (λ (f : NamedFolder). is_le (parts_cmp f.parts key)) folders c.partition_point-end.result c.partition_point-end.ensures.partitioned (upto_first folders c.requires key) (λ a r next called. (search rules, search rules)) in
    let le : c.partition_point-first.result ≤ c.partition_point-end.result = in_order folders c.requires key c.partition_point-first.result c.partition_point-end.result c.partition_point-first.ensures.bound c.partition_point-end.ensures.bound below upto in
    search (rules, le)

pub returns : goal.returns
returns c =
    let folders = c.args.folders.now in
    let key = lent_parts c.args.parts.now in
    let below = IsPartitionPoint-from_clause (λ (f : NamedFolder). is_lt (parts_cmp f.parts key)) folders c.partition_point-first.result c.partition_point-first.ensures.partitioned (below_first folders c.requires key) (λ a r next called. (search rules, search rules)) in
    let upto = IsPartitionPoint-from_clause (λ (f : NamedFolder). is_le (parts_cmp f.parts key)) folders c.partition_point-end.result c.partition_point-end.ensures.partitioned (upto_first folders c.requires key) (λ a r next called. (search rules, search rules)) in
    range_members folders c.requires key c.partition_point-first.result c.partition_point-end.result c.partition_point-first.ensures.bound c.partition_point-end.ensures.bound below upto
