-- Which filters read back from what is printed of them.
use Rattle.std.specs.Prelude.{◌≡◌, ℕ, zero, suc, ◌<◌, Bool, true, false, ◌&&◌, ◌||◌, not, List, [], ◌∷◌, length, nat_eq}
use Rattle.std.specs.Str.{chars}
use Rattle.nextest_filter_matchers.specs.Matchers.{Matcher, Equal, Contains, Glob, Regex}
use Rattle.nextest_filter_tokens.specs.declared.heads.Predicate.{Predicate}
use Rattle.nextest_filter_syntax.specs.declared.signs.Style.{Style}
use Rattle.nextest_filter_syntax.specs.declared.signs.Style.TheVariants as style
use Rattle.nextest_filter_syntax.specs.Leaves.{Leaf, Named, Platform, Default, All, None}
use Rattle.nextest_filter_syntax.specs.LeafGrammar.{default_style}
use Rattle.nextest_filter_syntax.specs.Trees.{Tree, not_of, union_of, intersection_of, difference_of, parens_of, set_of}

-- a space, `=`, `~` or `#`
abbrev pub is_sign : ℕ → Bool
is_sign c = nat_eq c 32 || nat_eq c 61 || nat_eq c 126 || nat_eq c 35

-- the first of the characters is a space or a sign
abbrev pub begins_signed : List ℕ → Bool
begins_signed [] = false
begins_signed (c ∷ text) = is_sign c

-- a text is not empty; one without a sign is of its leaf's default sort, and begins with none
pub record IsPrintableText (style : Style) (predicate : Predicate) (text : List ℕ) (implicit : Bool) : Type 0 where
  pub some : 0 < length text
  pub default : implicit ≡ true → style ≡ default_style predicate
  pub plain : implicit ≡ true → begins_signed (chars text) ≡ false

-- a slash stands straight after a backslash that escapes it; the first character is escaped or not
abbrev pub has_escaped_slash : Bool → List ℕ → Bool
has_escaped_slash escaped [] = false
has_escaped_slash escaped (c ∷ pattern) = (nat_eq c 47 && escaped) || has_escaped_slash (nat_eq c 92 && not escaped) pattern

-- the last of the characters is a backslash
abbrev pub ends_in_backslash : List ℕ → Bool
ends_in_backslash [] = false
ends_in_backslash (c ∷ []) = nat_eq c 92
ends_in_backslash (c ∷ (d ∷ pattern)) = ends_in_backslash (d ∷ pattern)

-- it does not end in a backslash and has no slash straight after one that escapes
pub record IsPrintablePattern (pattern : List ℕ) : Type 0 where
  pub slashes : has_escaped_slash false (chars pattern) ≡ false
  pub last : ends_in_backslash (chars pattern) ≡ false

-- without a sign it is of its leaf's default sort and begins with no space and no sign
abbrev pub IsPrintableMatcher : Predicate → Matcher → Type 0
IsPrintableMatcher predicate (Equal text implicit) = IsPrintableText style.Equal predicate text implicit
IsPrintableMatcher predicate (Contains text implicit) = IsPrintableText style.Contains predicate text implicit
IsPrintableMatcher predicate (Glob text tokens implicit) = IsPrintableText style.Glob predicate text implicit
IsPrintableMatcher predicate (Regex pattern) = IsPrintablePattern pattern

abbrev pub IsPrintableLeaf : {S : Type 0} → Leaf S → Type 0
IsPrintableLeaf (Named predicate matcher span) = IsPrintableMatcher predicate matcher
IsPrintableLeaf (Platform platform span) = Unit {0}
IsPrintableLeaf (Default span) = Unit {0}
IsPrintableLeaf All = Unit {0}
IsPrintableLeaf None = Unit {0}

abbrev pub is_union : {S : Type 0} → Tree S → Bool
is_union (union_of op x y) = true
is_union _ = false

-- a union, an intersection or a difference
abbrev pub is_joined : {S : Type 0} → Tree S → Bool
is_joined (union_of op x y) = true
is_joined (intersection_of op x y) = true
is_joined (difference_of x y) = true
is_joined _ = false

-- as many parentheses and negations may stand inside each other as there is room for
abbrev pub IsPrintableIn : {S : Type 0} → ℕ → Tree S → Type 0
IsPrintableIn zero (not_of op x) = ⊥
IsPrintableIn (suc room) (not_of op x) = (is_joined x ≡ false) × IsPrintableIn room x
IsPrintableIn room (union_of op x y) = (is_union y ≡ false) × IsPrintableIn room x × IsPrintableIn room y
IsPrintableIn room (intersection_of op x y) =
    (is_union x ≡ false) × (is_joined y ≡ false) × IsPrintableIn room x × IsPrintableIn room y
IsPrintableIn room (difference_of x y) =
    (is_union x ≡ false) × (is_joined y ≡ false) × IsPrintableIn room x × IsPrintableIn room y
IsPrintableIn zero (parens_of x) = ⊥
IsPrintableIn (suc room) (parens_of x) = IsPrintableIn room x
IsPrintableIn room (set_of leaf) = IsPrintableLeaf leaf

-- there is room for 256
abbrev pub IsPrintable : {S : Type 0} → Tree S → Type 0
IsPrintable tree = IsPrintableIn 256 tree
