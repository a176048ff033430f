-- Numbers in binary.
use Rattle.std.specs.Prelude.{ℕ, zero, suc, ◌^◌, ◌==◌, if◌then◌else◌}

-- how many binary digits a number has, none for 0: one more at each power of two
abbrev pub digits : ℕ → ℕ
digits zero = 0
digits (suc n) = if suc n == 2 ^ digits n then suc (digits n) else digits n
