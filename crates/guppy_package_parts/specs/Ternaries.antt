-- Whether something is on, where that may be unknown: the order of the three answers.
use Rattle.std.specs.Prelude.{ℕ, Bool, true, false, List, [], ◌∷◌, Option, Some, None, nat_le, if◌then◌else◌}
use Rattle.guppy_package_parts.specs.declared.enabled_ternary.EnabledTernary.{EnabledTernary}
use Rattle.guppy_package_parts.specs.declared.enabled_ternary.EnabledTernary.TheVariants.{Disabled, Unknown, Enabled}

-- the place in the order Disabled, Unknown, Enabled
abbrev pub rank_of : EnabledTernary → ℕ
rank_of Disabled = 0
rank_of Unknown = 1
rank_of Enabled = 2

-- the one of the lower rank (from guppy's `EnabledTernary`)
abbrev pub lesser : EnabledTernary → EnabledTernary → EnabledTernary
lesser a b = if nat_le (rank_of a) (rank_of b) then a else b

-- the one of the higher rank (from guppy's `EnabledTernary`)
abbrev pub greater : EnabledTernary → EnabledTernary → EnabledTernary
greater a b = if nat_le (rank_of a) (rank_of b) then b else a

-- the one of the highest rank, and Disabled where there is none (from guppy's `EnabledTernary`)
abbrev pub greatest : List EnabledTernary → EnabledTernary
greatest [] = Disabled
greatest (x ∷ xs) = greater x (greatest xs)

-- what an answer says
abbrev pub ternary_of : Option Bool → EnabledTernary
ternary_of (Some true) = Enabled
ternary_of (Some false) = Disabled
ternary_of None = Unknown
