-- Faults copied one by one.
use Rattle.std.specs.Prelude.{List, [], ◌∷◌}
use Rattle.nextest_filter_tokens.specs.Copies.{SameFault}
use Rattle.nextest_filter_tokens.specs.declared.parse_error.ParseSingleError.{ParseSingleError}

-- the same faults in the same order, but for where their texts lie in memory
abbrev pub AreSame : List ParseSingleError → List ParseSingleError → Type 0
AreSame [] [] = Unit {0}
AreSame (fault ∷ faults) (copy ∷ copies) = SameFault fault copy × AreSame faults copies
AreSame _ _ = ⊥
