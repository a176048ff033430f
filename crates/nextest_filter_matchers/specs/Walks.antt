-- A walk over a text, place by place: what is known of the places before it, as flags for the tokens of a glob.
use Rattle.std.specs.Prelude.{ℕ, ◌+◌, Bool, true, false, ◌&&◌, ◌||◌, List, [], ◌∷◌, Option, Some, None, nat_eq, nat_le, slice_index_or, slice_set}
use Rattle.nextest_filter_matchers.specs.Globs.{Glob, Token, CharacterSet, Empty, Single, Then, Either, One, AnyText, LeadingDirectories, InnerDirectories, TrailingDirectories, Character, is_in_set}

abbrev pub flag_at : List Bool → ℕ → Bool
flag_at flags i = slice_index_or flags i false

-- how many flags a token has: a slash before further characters has one of its own
abbrev pub token_room : Token → ℕ
token_room (One set) = 1
token_room AnyText = 1
token_room LeadingDirectories = 1
token_room InnerDirectories = 2
token_room TrailingDirectories = 2

-- how many flags tokens have, one after another
abbrev pub tokens_room : List Token → ℕ
tokens_room [] = 0
tokens_room (token ∷ tokens) = token_room token + tokens_room tokens

-- how many flags a glob has
abbrev pub room : Glob → ℕ
room Empty = 0
room (Single token) = token_room token
room (Then a b) = room a + room b
room (Either a b) = room a + room b

-- the glob has so many flags, which are set aside for it, or none is told
abbrev pub has_room : Option ℕ → Glob → Bool
has_room (Some count) glob = nat_le (room glob) count && nat_le count 65536
has_room None glob = true

-- whether a part ends at a place, and the flags there
pub record Step : Type 0 where
  pub is_led : Bool
  pub flags : List Bool

-- one character, from the place before alone
abbrev pub one_step : CharacterSet → ℕ → Bool → List Bool → ℕ → Step
one_step set c given flags at = record {
  is_led = flag_at flags at && is_in_set set c;
  flags = slice_set flags at given;
}

-- any characters, from this place or one before
abbrev pub text_step : Bool → List Bool → ℕ → Step
text_step given flags at = record {
  is_led = flag_at flags at || given;
  flags = slice_set flags at (flag_at flags at || given);
}

-- nothing, from this place, or any characters and a slash, from one before
abbrev pub directories_step : ℕ → Bool → List Bool → ℕ → Step
directories_step c given flags at = record {
  is_led = given || (flag_at flags at && nat_eq c 47);
  flags = slice_set flags at (flag_at flags at || given);
}

-- the step of a token, whose flags begin at a number, behind the character, where the token is begun at this place or not
abbrev pub token_step : Token → ℕ → Bool → List Bool → ℕ → Step
token_step (One set) c given flags at = one_step set c given flags at
token_step AnyText c given flags at = text_step given flags at
token_step LeadingDirectories c given flags at = directories_step c given flags at
token_step InnerDirectories c given flags at =
    let slash = one_step (Character 47) c given flags at in directories_step c slash.is_led slash.flags (at + 1)
token_step TrailingDirectories c given flags at =
    let slash = one_step (Character 47) c given flags at in text_step slash.is_led slash.flags (at + 1)

-- the step of a glob
abbrev pub glob_step : Glob → ℕ → Bool → List Bool → ℕ → Step
glob_step Empty c given flags at = record { is_led = given; flags = flags }
glob_step (Single token) c given flags at = token_step token c given flags at
glob_step (Then a b) c given flags at =
    let s = glob_step a c given flags at in glob_step b c s.is_led s.flags (at + room a)
glob_step (Either a b) c given flags at =
    let s = glob_step a c given flags at in
    let t = glob_step b c given s.flags (at + room a) in
    record { is_led = s.is_led || t.is_led; flags = t.flags }
