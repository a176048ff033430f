-- What a room of bytes holds after a text was written into it.
use Rattle.std.specs.Prelude.{◌≡◌, ◌++◌, List, drop, length, take, ℕ}

-- as much of the text as fits, and behind it what was there
abbrev pub fitted : List ℕ → List ℕ → List ℕ
fitted text room = take (length room) text ++ drop (length text) room

-- a text of this length was written into the room
abbrev pub Holds : ℕ → List ℕ → List ℕ → Type 0
Holds size old new = (text : List ℕ) × (length text ≡ size) × (new ≡ fitted text old)
