-- The grammar of specs, between two places of a text.
use Rattle.std.specs.Prelude.{◌≡◌, ℕ, suc, ◌+◌, Bool, List, slice_range, Option, Some, None}
use Rattle.cargo_files.specs.Bytes.{after}
use Rattle.cargo_files.specs.Heads.{head_at}
use Rattle.cargo_files.specs.Expressions.{Cfg, constant_of, name_of, pair_of, not_of, joined_of}
use Rattle.cargo_files.specs.declared.head.Head.TheVariants.{Group, Not, Constant, Name, Pair}

-- where an expression of a group may be followed by the next: behind a comma
abbrev pub next_by : List ℕ → ℕ → Option ℕ → Option ℕ → Option ℕ
next_by text i (Some k) closing = Some k
next_by text i None (Some j) = Some i
next_by text i None None = None

-- the place after the comma behind an expression, or that of the parenthesis that closes its group
unfoldable pub next_place : List ℕ → ℕ → Option ℕ
next_place text i = next_by text i (after text i 44) (after text i 41)

-- expressions, and those of a group up to its parenthesis; they nest as deep as there is room for
mutual
  pub data Reads (text : List ℕ) : ℕ → ℕ → Cfg → ℕ → Type 0 where
    constant : {room i j : ℕ} {b : Bool} → head_at text i ≡ Constant b j → Reads text room i (constant_of b) j
    name : {room i s j : ℕ} → head_at text i ≡ Name s j → Reads text room i (name_of (slice_range text s j)) j
    pair : {room i s e q c : ℕ} → head_at text i ≡ Pair s e q c → Reads text room i (pair_of (slice_range text s e) (slice_range text q c)) (c + 1)
    negated : {room i m k j : ℕ} {x : Cfg} → head_at text i ≡ Not m → Reads text room m x k → after text k 41 ≡ Some j → Reads text (suc room) i (not_of x) j
    group : {room i m j : ℕ} {every : Bool} {x : Cfg} → head_at text i ≡ Group every m → ReadsEach text room every m x j → Reads text (suc room) i x j

  pub data ReadsEach (text : List ℕ) : ℕ → Bool → ℕ → Cfg → ℕ → Type 0 where
    closed : {room i j : ℕ} {every : Bool} → after text i 41 ≡ Some j → ReadsEach text room every i (constant_of every) j
    one : {room i m k j : ℕ} {every : Bool} {x y : Cfg} → after text i 41 ≡ None → Reads text room i x m → next_place text m ≡ Some k → ReadsEach text room every k y j → ReadsEach text room every i (joined_of every x y) j
