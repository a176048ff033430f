-- What contracts see of a partition.
use Rattle.std.specs.Prelude.{ℕ}
use Rattle.test_select_tests.specs.declared.partition.Partition.{Partition}

-- which part, and of how many
abbrev pub partition_view : Partition → ℕ × ℕ
partition_view partition = (partition.part, partition.parts)
