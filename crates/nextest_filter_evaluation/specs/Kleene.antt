-- Values that may be unknown.
use Rattle.std.specs.Prelude.{◌≡◌, Bool, true, false, not, Option, Some, None}
use Rattle.nextest_filter_evaluation.specs.declared.known_by_part.KnownByPart.{KnownByPart}

-- a known value is the only one that is given, and an unknown one is each
abbrev pub Tells : Option Bool → (Bool → Type 0) → Type 0
Tells (Some v) gives = gives v × (gives (not v) → ⊥)
Tells None gives = gives true × gives false

-- the values that may be given
abbrev pub may_be : Option Bool → Bool → Type 0
may_be (Some v) x = v ≡ x
may_be None x = Unit {0}

abbrev pub known_not : Option Bool → Option Bool
known_not (Some v) = Some (not v)
known_not None = None

abbrev pub known_either : Option Bool → Option Bool → Option Bool
known_either (Some true) b = Some true
known_either (Some false) b = b
known_either None (Some true) = Some true
known_either None (Some false) = None
known_either None None = None

abbrev pub known_both : Option Bool → Option Bool → Option Bool
known_both (Some false) b = Some false
known_both (Some true) b = b
known_both None (Some false) = Some false
known_both None (Some true) = None
known_both None None = None

-- what is known of the whole, where this is known of the part
abbrev pub known_at : KnownByPart → Option Bool → Option Bool
known_at whole (Some true) = whole.if_true
known_at whole (Some false) = whole.if_false
known_at whole None = whole.if_unknown
