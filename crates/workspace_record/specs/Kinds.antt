-- The kinds by their places in the source's order.
use Rattle.std.specs.Prelude.{◌≡◌, ℕ, zero, suc, refl, nat_eq}
use Rattle.std.specs.Ordering.{on}
use Rattle.std.specs.Cmp.{unsigned_Decides}
use Rattle.workspace_record.specs.Equality.{DecidesEquality, decide_by}
use Rattle.workspace_record.specs.declared.kinds.TargetKind.{TargetKind}
use Rattle.workspace_record.specs.declared.kinds.TargetKind.TheVariants.{Lib, ProcMacro, Test, Bench, Bin, Example, BuildScript}
use Rattle.workspace_record.specs.declared.kinds.LineKind.{LineKind}
use Rattle.workspace_record.specs.declared.kinds.LineKind.TheVariants.{Normal, Build, Dev}

abbrev pub target_kind_index : TargetKind → ℕ
target_kind_index Lib = 0
target_kind_index ProcMacro = 1
target_kind_index Test = 2
target_kind_index Bench = 3
target_kind_index Bin = 4
target_kind_index Example = 5
target_kind_index BuildScript = 6

abbrev pub line_kind_index : LineKind → ℕ
line_kind_index Normal = 0
line_kind_index Build = 1
line_kind_index Dev = 2

abbrev target_kind_at : ℕ → TargetKind
target_kind_at zero = Lib
target_kind_at (suc zero) = ProcMacro
target_kind_at (suc (suc zero)) = Test
target_kind_at (suc (suc (suc zero))) = Bench
target_kind_at (suc (suc (suc (suc zero)))) = Bin
target_kind_at (suc (suc (suc (suc (suc zero))))) = Example
target_kind_at (suc (suc (suc (suc (suc (suc n)))))) = BuildScript

abbrev line_kind_at : ℕ → LineKind
line_kind_at zero = Normal
line_kind_at (suc zero) = Build
line_kind_at (suc (suc n)) = Dev

target_kind_at-index : (k : TargetKind) → target_kind_at (target_kind_index k) ≡ k
target_kind_at-index Lib = refl
target_kind_at-index ProcMacro = refl
target_kind_at-index Test = refl
target_kind_at-index Bench = refl
target_kind_at-index Bin = refl
target_kind_at-index Example = refl
target_kind_at-index BuildScript = refl

line_kind_at-index : (k : LineKind) → line_kind_at (line_kind_index k) ≡ k
line_kind_at-index Normal = refl
line_kind_at-index Build = refl
line_kind_at-index Dev = refl

pub target_kinds_decide : DecidesEquality (on target_kind_index nat_eq)
target_kinds_decide = decide_by target_kind_index target_kind_at target_kind_at-index unsigned_Decides

pub line_kinds_decide : DecidesEquality (on line_kind_index nat_eq)
line_kinds_decide = decide_by line_kind_index line_kind_at line_kind_at-index unsigned_Decides
