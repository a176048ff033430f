-- When faults are the same.
use Rattle.std.specs.Prelude.{◌≡◌, string_bytes}
use Rattle.nextest_filter_matchers.specs.Copies.{SameError}
use Rattle.nextest_filter_tokens.specs.declared.parse_error.ParseSingleError.{ParseSingleError}
use Rattle.nextest_filter_tokens.specs.declared.parse_error.ParseSingleError.TheVariants.{InvalidRegex, InvalidGlob}

-- the same fault, but for where its text lies in memory
abbrev pub SameFault : ParseSingleError → ParseSingleError → Type 0
SameFault (InvalidRegex span a) (InvalidRegex other b) = (span ≡ other) × (string_bytes a ≡ string_bytes b)
SameFault (InvalidGlob span a) (InvalidGlob other b) = (span ≡ other) × SameError a b
SameFault a b = a ≡ b
