-- Of what is read, the token of the front of a glob stands nowhere but in front.
use Rattle.std.proofs.Common.{◌≡◌, ℕ, zero, suc, Bool, true, false, not, ◌&&◌, ◌||◌, List, [], ◌∷◌, codes, drop, length, if◌then◌else◌, nat_eq, refl, sym, subst, Ok, ◌+◌, ◌*◌}
use Rattle.std.proofs.lemmas.Bool.{and_parts, and_from, false≢true, not_from_false}
use Rattle.std.specs.List.{list_any, starts_with}
use Rattle.nextest_filter_matchers.specs.Globs.{Glob, Token, Empty, Single, Then, Either, One, AnyText, LeadingDirectories, InnerDirectories, TrailingDirectories, tokens_then}
use Rattle.nextest_filter_matchers.specs.GlobReading.{Piece, Ends, Stands, Opens, Separates, Closes, Fails, ClassOutcome, Closed, BadClass, Outcome, Reads, Refuses, Part, Tokens, Alternates, after_alternates, alternates_after, class_at, class_of, class_piece, first_piece, glob_from, or_read, then_read, past_directories, piece_of, read_glob, read_part, tokens_from}
use Rattle.nextest_filter_matchers.specs.GlobViews.{glob_of}
use Rattle.nextest_filter_matchers.specs.declared.glob_pattern.Pattern.{Pattern}
use Rattle.nextest_filter_matchers.proofs.SequenceFacts.{begins_with_token, not_token}
use Rattle.nextest_filter_matchers.specs.Sequences.{is_leading, leads_first, stands_in_front, stands_nowhere}

abbrev lacks : Piece → Bool
lacks (Stands token text) = not (is_leading token)
lacks piece = true

if_lacks : (b : Bool) (p q : Piece) → lacks p ≡ true → lacks q ≡ true → lacks (if b then p else q) ≡ true
if_lacks true p q h k = h
if_lacks false p q h k = k

class_lacks : (is_complement : Bool) (o : ClassOutcome) → lacks (class_piece is_complement o) ≡ true
class_lacks is_complement (Closed ranges text) = refl
class_lacks is_complement (BadClass error) = refl

class_at_lacks : (text : List ℕ) → lacks (class_at text) ≡ true
class_at_lacks [] = refl
class_at_lacks (c ∷ text) = if_lacks (nat_eq c 33 || nat_eq c 94) _ _ (class_lacks true (class_of text)) (class_lacks false (class_of (c ∷ text)))

first_lacks : (text : List ℕ) → lacks (first_piece text) ≡ true
first_lacks [] = refl
first_lacks (c ∷ text) = if_lacks (nat_eq c 63) _ _ refl (if_lacks (nat_eq c 42) _ _ refl (if_lacks (nat_eq c 91) _ _ (class_at_lacks text) (if_lacks (nat_eq c 123) _ _ refl (if_lacks (nat_eq c 125) _ _ refl (if_lacks (nat_eq c 44) _ _ refl refl)))))

later_lacks : (text : List ℕ) → lacks (piece_of false text) ≡ true
later_lacks text = if_lacks (starts_with nat_eq text (codes "/**/")) _ _ refl (if_lacks (nat_eq (length text) 3 && starts_with nat_eq text (codes "/**")) _ _ refl (first_lacks text))

abbrev nowhere : Outcome → Bool
nowhere (Reads glob text) = stands_nowhere glob
nowhere (Refuses error) = true

abbrev in_front : Outcome → Bool
in_front (Reads glob text) = stands_in_front glob
in_front (Refuses error) = true

then_nowhere : (glob : Glob) (o : Outcome) → stands_nowhere glob ≡ true → nowhere o ≡ true → nowhere (then_read glob o) ≡ true
then_nowhere glob (Reads more text) h k = and_from _ _ h k
then_nowhere glob (Refuses error) h k = refl

or_nowhere : (glob : Glob) (o : Outcome) → stands_nowhere glob ≡ true → nowhere o ≡ true → nowhere (or_read glob o) ≡ true
or_nowhere glob (Reads more text) h k = and_from _ _ h k
or_nowhere glob (Refuses error) h k = refl

module _ (next : Part → List ℕ → Outcome) (tokens : (inside : Bool) (text : List ℕ) → nowhere (next (Tokens false inside) text) ≡ true) (alternates : (text : List ℕ) → nowhere (next Alternates text) ≡ true) where
  after_nowhere : (inside : Bool) (o : Outcome) → nowhere o ≡ true → nowhere (after_alternates next inside o) ≡ true
  after_nowhere inside (Reads glob text) h = then_nowhere glob (next (Tokens false inside) text) h (tokens inside text)
  after_nowhere inside (Refuses error) h = refl

  from_nowhere : (inside : Bool) (whole : List ℕ) (piece : Piece) → lacks piece ≡ true → nowhere (tokens_from next inside whole piece) ≡ true
  from_nowhere true whole Ends h = refl
  from_nowhere false whole Ends h = refl
  from_nowhere inside whole (Stands token text) h = then_nowhere (Single token) (next (Tokens false inside) text) h (tokens inside text)
  from_nowhere inside whole (Opens text) h = after_nowhere inside (next Alternates text) (alternates text)
  from_nowhere true whole (Separates text) h = refl
  from_nowhere false whole (Separates text) h = then_nowhere _ (next (Tokens false false) text) refl (tokens false text)
  from_nowhere true whole (Closes text) h = refl
  from_nowhere false whole (Closes text) h = refl
  from_nowhere inside whole (Fails error) h = refl

  more_nowhere : (o : Outcome) → nowhere o ≡ true → nowhere (alternates_after next o) ≡ true
  more_nowhere (Reads glob []) h = refl
  more_nowhere (Reads glob (c ∷ text)) h =
      elim (nat_eq c 44) as (λ b. nowhere (if b then or_read glob (next Alternates text) else Reads glob text) ≡ true) [
        | true ↦ or_nowhere glob (next Alternates text) h (alternates text)
        | false ↦ h
      ]
  more_nowhere (Refuses error) h = refl

part_nowhere : (n : ℕ) → ((inside : Bool) (text : List ℕ) → nowhere (read_part n (Tokens false inside) text) ≡ true) × ((text : List ℕ) → nowhere (read_part n Alternates text) ≡ true)
part_nowhere zero = (λ inside text. refl, λ text. refl)
part_nowhere (suc n) =
    let before = part_nowhere n in (
      λ inside text. from_nowhere (read_part n) before.0 before.1 inside text (piece_of false text) (later_lacks text),
      λ text. more_nowhere (read_part n) before.0 before.1 (read_part n (Tokens false true) text) (before.0 true text),
    )

nowhere_front : (glob : Glob) → stands_nowhere glob ≡ true → stands_in_front glob ≡ true
nowhere_front Empty h = h
nowhere_front (Single token) h = h
nowhere_front (Either a b) h = h
nowhere_front (Then (Single LeadingDirectories) more) h = absurd (false≢true h)
nowhere_front (Then (Single (One set)) more) h = h
nowhere_front (Then (Single AnyText) more) h = h
nowhere_front (Then (Single InnerDirectories) more) h = h
nowhere_front (Then (Single TrailingDirectories) more) h = h
nowhere_front (Then Empty more) h = h
nowhere_front (Then (Then a b) more) h = h
nowhere_front (Then (Either a b) more) h = h

outcome_front : (o : Outcome) → nowhere o ≡ true → in_front o ≡ true
outcome_front (Reads glob text) h = nowhere_front glob h
outcome_front (Refuses error) h = refl

leading_front : (o : Outcome) → nowhere o ≡ true → in_front (then_read (Single LeadingDirectories) o) ≡ true
leading_front (Reads glob text) h = h
leading_front (Refuses error) h = refl

front_of : (n : ℕ) (text : List ℕ) → in_front (read_part n (Tokens true false) text) ≡ true
front_of zero text = refl
front_of (suc n) text =
    let before = part_nowhere n in
    elim (starts_with nat_eq text (codes "**/")) as (λ b. in_front (tokens_from (read_part n) false text (if b then Stands LeadingDirectories (past_directories (drop 3 text)) else piece_of false text)) ≡ true) [
      | true ↦ leading_front (read_part n (Tokens false false) (past_directories (drop 3 text))) (before.0 false (past_directories (drop 3 text)))
      | false ↦ outcome_front (tokens_from (read_part n) false text (piece_of false text)) (from_nowhere (read_part n) before.0 before.1 false text (piece_of false text) (later_lacks text))
    ]

from_front : (o : Outcome) (glob : Glob) → in_front o ≡ true → glob_from o ≡ Ok glob → stands_in_front glob ≡ true
from_front (Reads read text) glob h e = let same : read ≡ glob = cc in subst (λ g. stands_in_front g ≡ true) same h
from_front (Refuses error) glob h e = cc

-- so it is in a glob that a text reads as
pub read_in_front : (text : List ℕ) (glob : Glob) → read_glob text ≡ Ok glob → stands_in_front glob ≡ true
read_in_front text glob e = from_front (read_part (2 * length text + 1) (Tokens true false) text) glob (front_of (2 * length text + 1) text) e

-- and in tokens one after another
nowhere_in : (tokens : List Token) (more : Glob) → stands_nowhere (tokens_then tokens more) ≡ true → list_any is_leading tokens ≡ false
nowhere_in [] more h = refl
nowhere_in (One set ∷ tokens) more h = nowhere_in tokens more h
nowhere_in (AnyText ∷ tokens) more h = nowhere_in tokens more h
nowhere_in (LeadingDirectories ∷ tokens) more h = absurd (false≢true h)
nowhere_in (InnerDirectories ∷ tokens) more h = nowhere_in tokens more h
nowhere_in (TrailingDirectories ∷ tokens) more h = nowhere_in tokens more h

pub front_tokens : (tokens : List Token) (more : Glob) → stands_in_front (tokens_then tokens more) ≡ true → leads_first tokens ≡ true
front_tokens [] more h = refl
front_tokens (One set ∷ tokens) more h = not_from_false _ (nowhere_in tokens more h)
front_tokens (AnyText ∷ tokens) more h = not_from_false _ (nowhere_in tokens more h)
front_tokens (LeadingDirectories ∷ tokens) more h = not_from_false _ (nowhere_in tokens more h)
front_tokens (InnerDirectories ∷ tokens) more h = not_from_false _ (nowhere_in tokens more h)
front_tokens (TrailingDirectories ∷ tokens) more h = not_from_false _ (nowhere_in tokens more h)

nowhere_more : (tokens : List Token) (more : Glob) → stands_nowhere (tokens_then tokens more) ≡ true → stands_nowhere more ≡ true
nowhere_more [] more h = h
nowhere_more (token ∷ tokens) more h = nowhere_more tokens more (and_parts _ _ h).1

front_more : (tokens : List Token) (a b : Glob) → begins_with_token (Then a b) ≡ false → stands_in_front (tokens_then tokens (Then a b)) ≡ true → stands_nowhere (Then a b) ≡ true
front_more [] (Single token) b first h = absurd (false≢true (sym first))
front_more [] Empty b first h = h
front_more [] (Then a c) b first h = h
front_more [] (Either a c) b first h = h
front_more (One set ∷ tokens) a b first h = nowhere_more tokens (Then a b) h
front_more (AnyText ∷ tokens) a b first h = nowhere_more tokens (Then a b) h
front_more (LeadingDirectories ∷ tokens) a b first h = nowhere_more tokens (Then a b) h
front_more (InnerDirectories ∷ tokens) a b first h = nowhere_more tokens (Then a b) h
front_more (TrailingDirectories ∷ tokens) a b first h = nowhere_more tokens (Then a b) h

-- and in what stands in braces behind tokens
pub front_parts : (tokens : List Token) (group more : Pattern) → stands_in_front (tokens_then tokens (Then (glob_of group) (glob_of more))) ≡ true → (leads_first tokens ≡ true) × (stands_nowhere (glob_of group) ≡ true) × (stands_nowhere (glob_of more) ≡ true)
front_parts tokens group more h =
    let w = and_parts _ _ (front_more tokens (glob_of group) (glob_of more) (not_token group (glob_of more)) h) in
    (front_tokens tokens (Then (glob_of group) (glob_of more)) h, w.0, w.1)
