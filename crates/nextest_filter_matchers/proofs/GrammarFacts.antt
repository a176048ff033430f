-- What is read of a glob's text is what the text may be, and nothing else.
use Rattle.std.proofs.Common.{◌≡◌, ◌∙◌, ℕ, zero, suc, ◌+◌, ◌*◌, ◌≤◌, ◌<◌, ◌⊎◌, ◌↔◌, inl, inr, Bool, true, false, ◌&&◌, ◌||◌, List, [], ◌∷◌, ◌++◌, codes, drop, length, if◌then◌else◌, nat_eq, nat_lt, refl, sym, ap, subst, arith, Ok, Err}
use Rattle.std.proofs.lemmas.Bool.{cases_eq, eq-eqb, ne_eqb}
use Rattle.std.proofs.lemmas.List.{length-drop}
use Rattle.std.specs.List.{starts_with}
use Rattle.nextest_filter_matchers.specs.Globs.{Glob, Token, Empty, Single, Then, Either, One, Character}
use Rattle.nextest_filter_matchers.specs.GlobGrammar.{EndsTokens, IsFault, IsRefused, IsToken, ReadsGlob}
use Rattle.nextest_filter_matchers.specs.GlobReading.{Piece, Ends, Stands, Opens, Separates, Closes, Fails, ClassOutcome, Closed, BadClass, Outcome, Reads, Refuses, Part, Tokens, Alternates, after_alternates, alternates_after, class_at, class_of, class_piece, class_rest, first_piece, glob_from, or_read, past_directories, piece_of, read_glob, read_part, then_read, tokens_from}
use Rattle.nextest_filter_matchers.specs.declared.glob_error.GlobError.{GlobError}
use Rattle.nextest_filter_matchers.specs.declared.glob_error.GlobError.TheVariants.{InvalidRange}

-- what follows a piece is shorter than the text that it begins
abbrev IsShorter : Piece → ℕ → Type 0
IsShorter Ends n = Unit {0}
IsShorter (Stands token text) n = length text < n
IsShorter (Opens text) n = length text < n
IsShorter (Separates text) n = length text < n
IsShorter (Closes text) n = length text < n
IsShorter (Fails error) n = Unit {0}

if_shorter : (b : Bool) (p q : Piece) (n : ℕ) → IsShorter p n → IsShorter q n → IsShorter (if b then p else q) n
if_shorter true p q n h k = h
if_shorter false p q n h k = k

past_shorter : (text : List ℕ) → length (past_directories text) ≤ length text
past_shorter [] = omega arith
past_shorter (a ∷ []) = omega arith
past_shorter (a ∷ (b ∷ [])) = omega arith
past_shorter (a ∷ (b ∷ (c ∷ text))) =
    elim (nat_eq a 42 && nat_eq b 42 && nat_eq c 47) as (λ t. length (if t then past_directories text else a ∷ (b ∷ (c ∷ text))) ≤ length (a ∷ (b ∷ (c ∷ text)))) [
      | true ↦ omega (arith, past_shorter text)
      | false ↦ omega arith
    ]

abbrev IsRestShorter : ClassOutcome → ℕ → Type 0
IsRestShorter (Closed ranges rest) n = length rest < n
IsRestShorter (BadClass error) n = Unit {0}

more_room : (o : ClassOutcome) (n : ℕ) → IsRestShorter o n → IsRestShorter o (suc n)
more_room (Closed ranges rest) n h = omega (arith, h)
more_room (BadClass error) n h = tt

if_rest : (b : Bool) (p q : ClassOutcome) (n : ℕ) → IsRestShorter p n → IsRestShorter q n → IsRestShorter (if b then p else q) n
if_rest true p q n h k = h
if_rest false p q n h k = k

rest_shorter : (text : List ℕ) (ranges : List (ℕ × ℕ)) (low high : ℕ) (drawn : Bool) → IsRestShorter (class_rest ranges low high drawn text) (length text)
rest_shorter [] ranges low high drawn = tt
rest_shorter (c ∷ text) ranges low high drawn =
    let n = length text in
    if_rest (nat_eq c 93) _ _ (suc n) (omega arith) (if_rest drawn _ _ (suc n) (if_rest (nat_lt c low) (BadClass InvalidRange) _ (suc n) tt (more_room _ n (rest_shorter text ranges low c false))) (if_rest (nat_eq c 45) _ _ (suc n) (more_room _ n (rest_shorter text ranges low high true)) (more_room _ n (rest_shorter text (ranges ++ (low, high) ∷ []) c c false))))

class_shorter : (is_complement : Bool) (o : ClassOutcome) (n : ℕ) → IsRestShorter o n → IsShorter (class_piece is_complement o) n
class_shorter is_complement (Closed ranges rest) n h = h
class_shorter is_complement (BadClass error) n h = tt

class_of_shorter : (text : List ℕ) → IsRestShorter (class_of text) (length text)
class_of_shorter [] = tt
class_of_shorter (c ∷ text) = more_room (class_rest [] c c false text) (length text) (rest_shorter text [] c c false)

class_at_shorter : (text : List ℕ) → IsShorter (class_at text) (suc (length text))
class_at_shorter [] = tt
class_at_shorter (c ∷ text) =
    if_shorter (nat_eq c 33 || nat_eq c 94) _ _ _ (class_shorter true (class_of text) _ (more_room (class_of text) _ (more_room (class_of text) _ (class_of_shorter text)))) (class_shorter false (class_of (c ∷ text)) _ (more_room (class_of (c ∷ text)) _ (class_of_shorter (c ∷ text))))

first_shorter : (text : List ℕ) → IsShorter (first_piece text) (length text)
first_shorter [] = tt
first_shorter (c ∷ text) =
    let n = suc (length text) in
    let next : length text < n = omega arith in
    if_shorter (nat_eq c 63) _ _ n next (if_shorter (nat_eq c 42) _ _ n next (if_shorter (nat_eq c 91) _ _ n (class_at_shorter text) (if_shorter (nat_eq c 123) _ _ n next (if_shorter (nat_eq c 125) _ _ n next (if_shorter (nat_eq c 44) _ _ n next next)))))

piece_shorter : (front : Bool) (text : List ℕ) → IsShorter (piece_of front text) (length text)
piece_shorter true [] = tt
piece_shorter false [] = tt
piece_shorter front (c ∷ text) =
    let whole = c ∷ text in
    let n = length whole in
    if_shorter (front && starts_with nat_eq whole (codes "**/")) _ _ n (omega (arith, past_shorter (drop 3 whole), length-drop 3 whole))
    (if_shorter (starts_with nat_eq whole (codes "/**/")) _ _ n (omega (arith, past_shorter (drop 4 whole), length-drop 4 whole))
    (if_shorter (nat_eq (length whole) 3 && starts_with nat_eq whole (codes "/**")) _ _ n (omega arith) (first_shorter whole)))

token_shorter : (front inside : Bool) (text next : List ℕ) (token : Token) → IsToken inside (piece_of front text) token next → length next < length text
token_shorter front inside text next token (inl same) = subst (λ p. IsShorter p (length text)) same (piece_shorter front text)
token_shorter front inside text next token (inr w) = subst (λ p. IsShorter p (length text)) w.2 (piece_shorter front text)

brace_shorter : (front : Bool) (text inner : List ℕ) → piece_of front text ≡ Opens inner → length inner < length text
brace_shorter front text inner same = subst (λ p. IsShorter p (length text)) same (piece_shorter front text)

ends_shorter : (inside : Bool) (piece : Piece) (text rest : List ℕ) → EndsTokens inside piece text rest → length rest ≤ length text
ends_shorter false Ends text rest h = omega (arith, ap length h)
ends_shorter false (Stands token next) text rest h = absurd h
ends_shorter false (Opens next) text rest h = absurd h
ends_shorter false (Separates next) text rest h = absurd h
ends_shorter false (Closes next) text rest h = absurd h
ends_shorter false (Fails error) text rest h = absurd h
ends_shorter true Ends text rest h = absurd h
ends_shorter true (Stands token next) text rest h = absurd h
ends_shorter true (Opens next) text rest h = absurd h
ends_shorter true (Separates next) text rest h = omega (arith, ap length h)
ends_shorter true (Closes next) text rest h = omega (arith, ap length h)
ends_shorter true (Fails error) text rest h = absurd h

reads_shorter : (glob : Glob) (part : Part) (text rest : List ℕ) → ReadsGlob glob part text rest → length rest ≤ length text
reads_shorter Empty (Tokens front inside) text rest h = ends_shorter inside (piece_of front text) text rest h
reads_shorter Empty Alternates text rest h = omega (arith, ends_shorter true (piece_of false text) text (h.0 ∷ rest) h.2)
reads_shorter (Single token) part text rest h = absurd h
reads_shorter (Then (Single token) more) (Tokens front inside) text rest h =
    omega (arith, token_shorter front inside text h.0 token h.1, reads_shorter more (Tokens false inside) h.0 rest h.2)
reads_shorter (Then (Single token) more) Alternates text rest h =
    omega (arith, token_shorter false true text h.2.0 token h.2.1, reads_shorter more (Tokens false true) h.2.0 (h.0 ∷ rest) h.2.2)
reads_shorter (Then group more) (Tokens front inside) text rest h =
    omega (arith, brace_shorter front text h.0 h.1, reads_shorter group Alternates h.0 h.2.0 h.2.1, reads_shorter more (Tokens false inside) h.2.0 rest h.2.2)
reads_shorter (Then group more) Alternates text rest h =
    omega (arith, brace_shorter false text h.2.0 h.2.1, reads_shorter group Alternates h.2.0 h.2.2.0 h.2.2.1, reads_shorter more (Tokens false true) h.2.2.0 (h.0 ∷ rest) h.2.2.2)
reads_shorter (Either one others) (Tokens front inside) text rest h = absurd h
reads_shorter (Either one others) Alternates text rest h =
    omega (arith, reads_shorter one (Tokens false true) text (44 ∷ h.0) h.1, reads_shorter others Alternates h.0 rest h.2)

-- the cases of a relation put together
ends_reads : (front inside : Bool) (text rest : List ℕ) (piece : Piece) → piece_of front text ≡ piece → EndsTokens inside piece text rest → ReadsGlob Empty (Tokens front inside) text rest
ends_reads front inside text rest piece same h = subst (λ p. EndsTokens inside p text rest) (sym same) h

group_reads : (group more : Glob) (front inside : Bool) (text inner next rest : List ℕ) → piece_of front text ≡ Opens inner → ReadsGlob group Alternates inner next → ReadsGlob more (Tokens false inside) next rest → ReadsGlob (Then group more) (Tokens front inside) text rest
group_reads (Single token) more front inside text inner next rest same g m = absurd g
group_reads Empty more front inside text inner next rest same g m = (inner, same, (next, g, m))
group_reads (Then a b) more front inside text inner next rest same g m = (inner, same, (next, g, m))
group_reads (Either a b) more front inside text inner next rest same g m = (inner, same, (next, g, m))

last_reads : (glob : Glob) (text rest : List ℕ) (c : ℕ) → (c ≡ 44 → ⊥) → ReadsGlob glob (Tokens false true) text (c ∷ rest) → ReadsGlob glob Alternates text rest
last_reads Empty text rest c other h = (c, other, h)
last_reads (Single token) text rest c other h = absurd h
last_reads (Then (Single token) more) text rest c other h = (c, other, h)
last_reads (Then Empty more) text rest c other h = (c, other, h)
last_reads (Then (Then a b) more) text rest c other h = (c, other, h)
last_reads (Then (Either a b) more) text rest c other h = (c, other, h)
last_reads (Either one others) text rest c other h = absurd h

then_is : (glob : Glob) (o : Outcome) (whole : Glob) (rest : List ℕ) → then_read glob o ≡ Reads whole rest → (more : Glob) × (o ≡ Reads more rest) × (whole ≡ Then glob more)
then_is glob (Reads more text) whole rest e = (more, cc, cc)
then_is glob (Refuses error) whole rest e = absurd cc

or_is : (glob : Glob) (o : Outcome) (whole : Glob) (rest : List ℕ) → or_read glob o ≡ Reads whole rest → (more : Glob) × (o ≡ Reads more rest) × (whole ≡ Either glob more)
or_is glob (Reads more text) whole rest e = (more, cc, cc)
or_is glob (Refuses error) whole rest e = absurd cc

-- what is read is what the text may be
abbrev pub ReadsTo : ℕ → Type 0
ReadsTo n = (part : Part) (text : List ℕ) (glob : Glob) (rest : List ℕ) → read_part n part text ≡ Reads glob rest → ReadsGlob glob part text rest

after_to : (n : ℕ) → ReadsTo n → (front inside : Bool) (text inner : List ℕ) → piece_of front text ≡ Opens inner → (o : Outcome) → read_part n Alternates inner ≡ o → (glob : Glob) (rest : List ℕ) → after_alternates (read_part n) inside o ≡ Reads glob rest → ReadsGlob glob (Tokens front inside) text rest
after_to n reads front inside text inner same (Reads group next) is glob rest e =
    let w = then_is group (read_part n (Tokens false inside) next) glob rest e in
    subst (λ g. ReadsGlob g (Tokens front inside) text rest) (sym w.2) (group_reads group w.0 front inside text inner next rest same (reads Alternates inner group next is) (reads (Tokens false inside) next w.0 rest w.1))
after_to n reads front inside text inner same (Refuses error) is glob rest e = absurd cc

tokens_to : (n : ℕ) → ReadsTo n → (front inside : Bool) (text : List ℕ) (piece : Piece) → piece_of front text ≡ piece → (glob : Glob) (rest : List ℕ) → tokens_from (read_part n) inside text piece ≡ Reads glob rest → ReadsGlob glob (Tokens front inside) text rest
tokens_to n reads front true text Ends same glob rest e = absurd cc
tokens_to n reads front false text Ends same glob rest e =
    let g : Empty ≡ glob = cc in
    let r : [] ≡ rest = cc in
    subst (λ x. ReadsGlob x (Tokens front false) text rest) g (ends_reads front false text rest Ends same (sym r))
tokens_to n reads front inside text (Stands token next) same glob rest e =
    let w = then_is (Single token) (read_part n (Tokens false inside) next) glob rest e in
    subst (λ g. ReadsGlob g (Tokens front inside) text rest) (sym w.2) (next, inl same, reads (Tokens false inside) next w.0 rest w.1)
tokens_to n reads front inside text (Opens inner) same glob rest e = after_to n reads front inside text inner same (read_part n Alternates inner) refl glob rest e
tokens_to n reads front true text (Separates next) same glob rest e =
    let g : Empty ≡ glob = cc in
    let r : text ≡ rest = cc in
    subst (λ x. ReadsGlob x (Tokens front true) text rest) g (ends_reads front true text rest (Separates next) same (sym r))
tokens_to n reads front false text (Separates next) same glob rest e =
    let w = then_is (Single (One (Character 44))) (read_part n (Tokens false false) next) glob rest e in
    subst (λ g. ReadsGlob g (Tokens front false) text rest) (sym w.2) (next, inr (refl, refl, same), reads (Tokens false false) next w.0 rest w.1)
tokens_to n reads front true text (Closes next) same glob rest e =
    let g : Empty ≡ glob = cc in
    let r : text ≡ rest = cc in
    subst (λ x. ReadsGlob x (Tokens front true) text rest) g (ends_reads front true text rest (Closes next) same (sym r))
tokens_to n reads front false text (Closes next) same glob rest e = absurd cc
tokens_to n reads front inside text (Fails error) same glob rest e = absurd cc

alternates_to : (n : ℕ) → ReadsTo n → (text : List ℕ) (o : Outcome) → read_part n (Tokens false true) text ≡ o → (glob : Glob) (rest : List ℕ) → alternates_after (read_part n) o ≡ Reads glob rest → ReadsGlob glob Alternates text rest
alternates_to n reads text (Refuses error) is glob rest e = absurd cc
alternates_to n reads text (Reads one []) is glob rest e = absurd cc
alternates_to n reads text (Reads one (c ∷ next)) is glob rest e =
    elim (cases_eq c 44) [
      | inl comma ↦
          let first = subst (λ d. ReadsGlob one (Tokens false true) text (d ∷ next)) comma (reads (Tokens false true) text one (c ∷ next) is) in
          let f : (if nat_eq c 44 then or_read one (read_part n Alternates next) else Reads one next) ≡ or_read one (read_part n Alternates next) = rw (eq-eqb c 44 comma) refl in
          let w = or_is one (read_part n Alternates next) glob rest (sym f ∙ e) in
          subst (λ g. ReadsGlob g Alternates text rest) (sym w.2) (next, first, reads Alternates next w.0 rest w.1)
      | inr other ↦
          let f : (if nat_eq c 44 then or_read one (read_part n Alternates next) else Reads one next) ≡ Reads one next = rw (ne_eqb c 44 other) refl in
          let all : Reads one next ≡ Reads glob rest = sym f ∙ e in
          let g : one ≡ glob = cc in
          let r : next ≡ rest = cc in
          subst (λ x. ReadsGlob x Alternates text rest) g (subst (λ t. ReadsGlob one Alternates text t) r (last_reads one text next c other (reads (Tokens false true) text one (c ∷ next) is)))
    ]

pub reads_to : (n : ℕ) → ReadsTo n
reads_to zero part text glob rest e = absurd cc
reads_to (suc n) (Tokens front inside) text glob rest e = tokens_to n (reads_to n) front inside text (piece_of front text) refl glob rest e
reads_to (suc n) Alternates text glob rest e = alternates_to n (reads_to n) text (read_part n (Tokens false true) text) refl glob rest e

-- what the text may be is what is read, with parts enough
abbrev IsEnough : Part → List ℕ → ℕ → Type 0
IsEnough (Tokens front inside) text n = 2 * length text + 1 ≤ n
IsEnough Alternates text n = 2 * length text + 2 ≤ n

ends_back : (next : Part → List ℕ → Outcome) (inside : Bool) (piece : Piece) (text rest : List ℕ) → EndsTokens inside piece text rest → tokens_from next inside text piece ≡ Reads Empty rest
ends_back next false Ends text rest h = ap (Reads Empty) (sym h)
ends_back next false (Stands token t) text rest h = absurd h
ends_back next false (Opens t) text rest h = absurd h
ends_back next false (Separates t) text rest h = absurd h
ends_back next false (Closes t) text rest h = absurd h
ends_back next false (Fails error) text rest h = absurd h
ends_back next true Ends text rest h = absurd h
ends_back next true (Stands token t) text rest h = absurd h
ends_back next true (Opens t) text rest h = absurd h
ends_back next true (Separates t) text rest h = ap (Reads Empty) (sym h)
ends_back next true (Closes t) text rest h = ap (Reads Empty) (sym h)
ends_back next true (Fails error) text rest h = absurd h

token_back : (next : Part → List ℕ → Outcome) (inside : Bool) (text : List ℕ) (piece : Piece) (token : Token) (t : List ℕ) → IsToken inside piece token t → tokens_from next inside text piece ≡ then_read (Single token) (next (Tokens false inside) t)
token_back next inside text piece token t (inl same) = ap (tokens_from next inside text) same
token_back next inside text piece token t (inr w) =
    ap (tokens_from next inside text) w.2 ∙ ap (λ b. tokens_from next b text (Separates t)) w.0
    ∙ ap (λ x. then_read (Single x) (next (Tokens false false) t)) (sym w.1) ∙ ap (λ b. then_read (Single token) (next (Tokens false b) t)) (sym w.0)

single_case : (n : ℕ) (front inside : Bool) (token : Token) (text next : List ℕ) (o : Outcome) → IsToken inside (piece_of front text) token next → read_part n (Tokens false inside) next ≡ o → read_part (suc n) (Tokens front inside) text ≡ then_read (Single token) o
single_case n front inside token text next o is e = token_back (read_part n) inside text (piece_of front text) token next is ∙ ap (then_read (Single token)) e

group_case : (n : ℕ) (front inside : Bool) (text inner : List ℕ) (o : Outcome) → piece_of front text ≡ Opens inner → read_part n Alternates inner ≡ o → read_part (suc n) (Tokens front inside) text ≡ after_alternates (read_part n) inside o
group_case n front inside text inner o same e = ap (tokens_from (read_part n) inside text) same ∙ ap (after_alternates (read_part n) inside) e

last_case : (n : ℕ) (text rest : List ℕ) (glob : Glob) (c : ℕ) → (c ≡ 44 → ⊥) → read_part n (Tokens false true) text ≡ Reads glob (c ∷ rest) → read_part (suc n) Alternates text ≡ Reads glob rest
last_case n text rest glob c other e = ap (alternates_after (read_part n)) e ∙ rw (ne_eqb c 44 other) refl

comma_case : (n : ℕ) (text next : List ℕ) (one : Glob) (o : Outcome) → read_part n (Tokens false true) text ≡ Reads one (44 ∷ next) → read_part n Alternates next ≡ o → read_part (suc n) Alternates text ≡ or_read one o
comma_case n text next one o first e = ap (alternates_after (read_part n)) first ∙ ap (or_read one) e

pub reads_back : (glob : Glob) (part : Part) (text rest : List ℕ) → ReadsGlob glob part text rest → (n : ℕ) → IsEnough part text n → read_part n part text ≡ Reads glob rest
reads_back Empty (Tokens front inside) text rest h zero le = absurd (omega (arith, le))
reads_back Empty (Tokens front inside) text rest h (suc n) le = ends_back (read_part n) inside (piece_of front text) text rest h
reads_back Empty Alternates text rest h zero le = absurd (omega (arith, le))
reads_back Empty Alternates text rest h (suc zero) le = absurd (omega (arith, le))
reads_back Empty Alternates text rest h (suc (suc n)) le = last_case (suc n) text rest Empty h.0 h.1 (ends_back (read_part n) true (piece_of false text) text (h.0 ∷ rest) h.2)
reads_back (Single token) part text rest h n le = absurd h
reads_back (Then (Single token) more) (Tokens front inside) text rest h zero le = absurd (omega (arith, le))
reads_back (Then (Single token) more) (Tokens front inside) text rest h (suc n) le =
    single_case n front inside token text h.0 (Reads more rest) h.1 (reads_back more (Tokens false inside) h.0 rest h.2 n (omega (arith, le, token_shorter front inside text h.0 token h.1)))
reads_back (Then (Single token) more) Alternates text rest h zero le = absurd (omega (arith, le))
reads_back (Then (Single token) more) Alternates text rest h (suc zero) le = absurd (omega (arith, le))
reads_back (Then (Single token) more) Alternates text rest h (suc (suc n)) le =
    last_case (suc n) text rest (Then (Single token) more) h.0 h.1
    (single_case n false true token text h.2.0 (Reads more (h.0 ∷ rest)) h.2.1 (reads_back more (Tokens false true) h.2.0 (h.0 ∷ rest) h.2.2 n (omega (arith, le, token_shorter false true text h.2.0 token h.2.1))))
reads_back (Then group more) (Tokens front inside) text rest h zero le = absurd (omega (arith, le))
reads_back (Then group more) (Tokens front inside) text rest h (suc n) le =
    let short = brace_shorter front text h.0 h.1 in
    group_case n front inside text h.0 (Reads group h.2.0) h.1 (reads_back group Alternates h.0 h.2.0 h.2.1 n (omega (arith, le, short)))
    ∙ ap (then_read group) (reads_back more (Tokens false inside) h.2.0 rest h.2.2 n (omega (arith, le, short, reads_shorter group Alternates h.0 h.2.0 h.2.1)))
reads_back (Then group more) Alternates text rest h zero le = absurd (omega (arith, le))
reads_back (Then group more) Alternates text rest h (suc zero) le = absurd (omega (arith, le))
reads_back (Then group more) Alternates text rest h (suc (suc n)) le =
    let short = brace_shorter false text h.2.0 h.2.1 in
    last_case (suc n) text rest (Then group more) h.0 h.1
    (group_case n false true text h.2.0 (Reads group h.2.2.0) h.2.1 (reads_back group Alternates h.2.0 h.2.2.0 h.2.2.1 n (omega (arith, le, short)))
    ∙ ap (then_read group) (reads_back more (Tokens false true) h.2.2.0 (h.0 ∷ rest) h.2.2.2 n (omega (arith, le, short, reads_shorter group Alternates h.2.0 h.2.2.0 h.2.2.1))))
reads_back (Either one others) (Tokens front inside) text rest h n le = absurd h
reads_back (Either one others) Alternates text rest h zero le = absurd (omega (arith, le))
reads_back (Either one others) Alternates text rest h (suc n) le =
    comma_case n text h.0 one (Reads others rest) (reads_back one (Tokens false true) text (44 ∷ h.0) h.1 n (omega (arith, le)))
    (reads_back others Alternates h.0 rest h.2 n (omega (arith, le, reads_shorter one (Tokens false true) text (44 ∷ h.0) h.1)))

-- a refusal has one reason, at one place
fault_refused : (front inside : Bool) (text : List ℕ) (piece : Piece) (error : GlobError) → piece_of front text ≡ piece → IsFault inside piece error → IsRefused Empty (Tokens front inside) text error
fault_refused front inside text piece error same h = subst (λ p. IsFault inside p error) (sym same) h

group_refused : (group more : Glob) (front inside : Bool) (text inner : List ℕ) (error : GlobError) → piece_of front text ≡ Opens inner → (IsRefused group Alternates inner error ⊎ ((next : List ℕ) × ReadsGlob group Alternates inner next × IsRefused more (Tokens false inside) next error)) → IsRefused (Then group more) (Tokens front inside) text error
group_refused (Single token) more front inside text inner error same (inl h) = absurd h
group_refused (Single token) more front inside text inner error same (inr h) = absurd h.1
group_refused Empty more front inside text inner error same h = (inner, same, h)
group_refused (Then a b) more front inside text inner error same h = (inner, same, h)
group_refused (Either a b) more front inside text inner error same h = (inner, same, h)

last_refused : (glob : Glob) (text : List ℕ) (error : GlobError) → IsRefused glob (Tokens false true) text error → IsRefused glob Alternates text error
last_refused Empty text error h = h
last_refused (Single token) text error h = absurd h
last_refused (Then (Single token) more) text error h = h
last_refused (Then Empty more) text error h = h
last_refused (Then (Then a b) more) text error h = h
last_refused (Then (Either a b) more) text error h = h
last_refused (Either one others) text error h = absurd h

then_refuses : (glob : Glob) (o : Outcome) (error : GlobError) → then_read glob o ≡ Refuses error → o ≡ Refuses error
then_refuses glob (Reads more text) error e = absurd cc
then_refuses glob (Refuses other) error e = cc

or_refuses : (glob : Glob) (o : Outcome) (error : GlobError) → or_read glob o ≡ Refuses error → o ≡ Refuses error
or_refuses glob (Reads more text) error e = absurd cc
or_refuses glob (Refuses other) error e = cc

-- inside braces something follows what is read
ends_inside : (piece : Piece) (text : List ℕ) → (text ≡ [] → piece ≡ Ends) → EndsTokens true piece text [] → ⊥
ends_inside Ends text none h = h
ends_inside (Stands token t) text none h = h
ends_inside (Opens t) text none h = h
ends_inside (Separates t) text none h = let e = none (sym h) in cc
ends_inside (Closes t) text none h = let e = none (sym h) in cc
ends_inside (Fails error) text none h = h

nothing_ends : (front : Bool) → piece_of front [] ≡ Ends
nothing_ends true = refl
nothing_ends false = refl

inside_rest : (glob : Glob) (front : Bool) (text : List ℕ) → ReadsGlob glob (Tokens front true) text [] → ⊥
inside_rest Empty front text h = ends_inside (piece_of front text) text (λ e. ap (piece_of front) e ∙ nothing_ends front) h
inside_rest (Single token) front text h = h
inside_rest (Then (Single token) more) front text h = inside_rest more false h.0 h.2
inside_rest (Then group more) front text h = inside_rest more false h.2.0 h.2.2
inside_rest (Either one others) front text h = h

abbrev Refused : Part → List ℕ → GlobError → Type 0
Refused part text error = (before : Glob) × IsRefused before part text error

abbrev RefusesTo : ℕ → Type 0
RefusesTo n = (part : Part) (text : List ℕ) (error : GlobError) → IsEnough part text n → read_part n part text ≡ Refuses error → Refused part text error

after_refuses : (n : ℕ) → RefusesTo n → (front inside : Bool) (text inner : List ℕ) → piece_of front text ≡ Opens inner → 2 * length text ≤ n → (o : Outcome) → read_part n Alternates inner ≡ o → (error : GlobError) → after_alternates (read_part n) inside o ≡ Refuses error → Refused (Tokens front inside) text error
after_refuses n refuses front inside text inner same le (Reads group next) is error e =
    let short = brace_shorter front text inner same in
    let g = reads_to n Alternates inner group next is in
    let w = refuses (Tokens false inside) next error (omega (arith, le, short, reads_shorter group Alternates inner next g)) (then_refuses group (read_part n (Tokens false inside) next) error e) in
    (Then group w.0, group_refused group w.0 front inside text inner error same (inr (next, g, w.1)))
after_refuses n refuses front inside text inner same le (Refuses other) is error e =
    let w = refuses Alternates inner error (omega (arith, le, brace_shorter front text inner same)) (is ∙ e) in
    (Then w.0 Empty, group_refused w.0 Empty front inside text inner error same (inl w.1))

tokens_refuse : (n : ℕ) → RefusesTo n → (front inside : Bool) (text : List ℕ) (piece : Piece) → piece_of front text ≡ piece → 2 * length text ≤ n → (error : GlobError) → tokens_from (read_part n) inside text piece ≡ Refuses error → Refused (Tokens front inside) text error
tokens_refuse n refuses front true text Ends same le error e = (Empty, fault_refused front true text Ends error same cc)
tokens_refuse n refuses front false text Ends same le error e = absurd cc
tokens_refuse n refuses front inside text (Stands token next) same le error e =
    let is : IsToken inside (piece_of front text) token next = inl same in
    let w = refuses (Tokens false inside) next error (omega (arith, le, token_shorter front inside text next token is)) (then_refuses (Single token) (read_part n (Tokens false inside) next) error e) in
    (Then (Single token) w.0, (next, is, w.1))
tokens_refuse n refuses front inside text (Opens inner) same le error e = after_refuses n refuses front inside text inner same le (read_part n Alternates inner) refl error e
tokens_refuse n refuses front true text (Separates next) same le error e = absurd cc
tokens_refuse n refuses front false text (Separates next) same le error e =
    let is : IsToken false (piece_of front text) (One (Character 44)) next = inr (refl, refl, same) in
    let w = refuses (Tokens false false) next error (omega (arith, le, token_shorter front false text next (One (Character 44)) is)) (then_refuses (Single (One (Character 44))) (read_part n (Tokens false false) next) error e) in
    (Then (Single (One (Character 44))) w.0, (next, is, w.1))
tokens_refuse n refuses front true text (Closes next) same le error e = absurd cc
tokens_refuse n refuses front false text (Closes next) same le error e = (Empty, fault_refused front false text (Closes next) error same cc)
tokens_refuse n refuses front true text (Fails fault) same le error e = (Empty, fault_refused front true text (Fails fault) error same cc)
tokens_refuse n refuses front false text (Fails fault) same le error e = (Empty, fault_refused front false text (Fails fault) error same cc)

alternates_refuse : (n : ℕ) → RefusesTo n → (text : List ℕ) → 2 * length text + 1 ≤ n → (o : Outcome) → read_part n (Tokens false true) text ≡ o → (error : GlobError) → alternates_after (read_part n) o ≡ Refuses error → Refused Alternates text error
alternates_refuse n refuses text le (Refuses other) is error e =
    let w = refuses (Tokens false true) text error le (is ∙ e) in
    (w.0, last_refused w.0 text error w.1)
alternates_refuse n refuses text le (Reads one []) is error e = absurd (inside_rest one false text (reads_to n (Tokens false true) text one [] is))
alternates_refuse n refuses text le (Reads one (c ∷ next)) is error e =
    elim (cases_eq c 44) [
      | inl comma ↦
          let first = subst (λ d. ReadsGlob one (Tokens false true) text (d ∷ next)) comma (reads_to n (Tokens false true) text one (c ∷ next) is) in
          let f : (if nat_eq c 44 then or_read one (read_part n Alternates next) else Reads one next) ≡ or_read one (read_part n Alternates next) = rw (eq-eqb c 44 comma) refl in
          let short = reads_shorter one (Tokens false true) text (44 ∷ next) first in
          let w = refuses Alternates next error (omega (arith, le, short)) (or_refuses one (read_part n Alternates next) error (sym f ∙ e)) in
          (Either one w.0, (next, first, w.1))
      | inr other ↦
          let f : (if nat_eq c 44 then or_read one (read_part n Alternates next) else Reads one next) ≡ Reads one next = rw (ne_eqb c 44 other) refl in
          let all : Reads one next ≡ Refuses error = sym f ∙ e in
          absurd cc
    ]

refuses_to : (n : ℕ) → RefusesTo n
refuses_to zero (Tokens front inside) text error le e = absurd (omega (arith, le))
refuses_to zero Alternates text error le e = absurd (omega (arith, le))
refuses_to (suc n) (Tokens front inside) text error le e = tokens_refuse n (refuses_to n) front inside text (piece_of front text) refl (omega (arith, le)) error e
refuses_to (suc n) Alternates text error le e = alternates_refuse n (refuses_to n) text (omega (arith, le)) (read_part n (Tokens false true) text) refl error e

fault_back : (next : Part → List ℕ → Outcome) (inside : Bool) (piece : Piece) (text : List ℕ) (error : GlobError) → IsFault inside piece error → tokens_from next inside text piece ≡ Refuses error
fault_back next true Ends text error h = ap Refuses (sym h)
fault_back next true (Stands token t) text error h = absurd h
fault_back next true (Opens t) text error h = absurd h
fault_back next true (Separates t) text error h = absurd h
fault_back next true (Closes t) text error h = absurd h
fault_back next true (Fails fault) text error h = ap Refuses (sym h)
fault_back next false Ends text error h = absurd h
fault_back next false (Stands token t) text error h = absurd h
fault_back next false (Opens t) text error h = absurd h
fault_back next false (Separates t) text error h = absurd h
fault_back next false (Closes t) text error h = ap Refuses (sym h)
fault_back next false (Fails fault) text error h = ap Refuses (sym h)

-- the first of some alternates refuses them
last_fails : (n : ℕ) (text : List ℕ) (error : GlobError) → read_part n (Tokens false true) text ≡ Refuses error → read_part (suc n) Alternates text ≡ Refuses error
last_fails n text error e = ap (alternates_after (read_part n)) e

refuses_back : (glob : Glob) (part : Part) (text : List ℕ) (error : GlobError) → IsRefused glob part text error → (n : ℕ) → IsEnough part text n → read_part n part text ≡ Refuses error
refuses_back Empty (Tokens front inside) text error h zero le = absurd (omega (arith, le))
refuses_back Empty (Tokens front inside) text error h (suc n) le = fault_back (read_part n) inside (piece_of front text) text error h
refuses_back Empty Alternates text error h zero le = absurd (omega (arith, le))
refuses_back Empty Alternates text error h (suc zero) le = absurd (omega (arith, le))
refuses_back Empty Alternates text error h (suc (suc n)) le = last_fails (suc n) text error (fault_back (read_part n) true (piece_of false text) text error h)
refuses_back (Single token) part text error h n le = absurd h
refuses_back (Then (Single token) more) (Tokens front inside) text error h zero le = absurd (omega (arith, le))
refuses_back (Then (Single token) more) (Tokens front inside) text error h (suc n) le =
    single_case n front inside token text h.0 (Refuses error) h.1 (refuses_back more (Tokens false inside) h.0 error h.2 n (omega (arith, le, token_shorter front inside text h.0 token h.1)))
refuses_back (Then (Single token) more) Alternates text error h zero le = absurd (omega (arith, le))
refuses_back (Then (Single token) more) Alternates text error h (suc zero) le = absurd (omega (arith, le))
refuses_back (Then (Single token) more) Alternates text error h (suc (suc n)) le =
    last_fails (suc n) text error (single_case n false true token text h.0 (Refuses error) h.1 (refuses_back more (Tokens false true) h.0 error h.2 n (omega (arith, le, token_shorter false true text h.0 token h.1))))
refuses_back (Then group more) (Tokens front inside) text error h zero le = absurd (omega (arith, le))
refuses_back (Then group more) (Tokens front inside) text error h (suc n) le =
    let short = brace_shorter front text h.0 h.1 in
    elim h.2 [
      | inl g ↦ group_case n front inside text h.0 (Refuses error) h.1 (refuses_back group Alternates h.0 error g n (omega (arith, le, short)))
      | inr w ↦
          group_case n front inside text h.0 (Reads group w.0) h.1 (reads_back group Alternates h.0 w.0 w.1 n (omega (arith, le, short)))
          ∙ ap (then_read group) (refuses_back more (Tokens false inside) w.0 error w.2 n (omega (arith, le, short, reads_shorter group Alternates h.0 w.0 w.1)))
    ]
refuses_back (Then group more) Alternates text error h zero le = absurd (omega (arith, le))
refuses_back (Then group more) Alternates text error h (suc zero) le = absurd (omega (arith, le))
refuses_back (Then group more) Alternates text error h (suc (suc n)) le =
    let short = brace_shorter false text h.0 h.1 in
    last_fails (suc n) text error (elim h.2 [
      | inl g ↦ group_case n false true text h.0 (Refuses error) h.1 (refuses_back group Alternates h.0 error g n (omega (arith, le, short)))
      | inr w ↦
          group_case n false true text h.0 (Reads group w.0) h.1 (reads_back group Alternates h.0 w.0 w.1 n (omega (arith, le, short)))
          ∙ ap (then_read group) (refuses_back more (Tokens false true) w.0 error w.2 n (omega (arith, le, short, reads_shorter group Alternates h.0 w.0 w.1)))
    ])
refuses_back (Either one others) (Tokens front inside) text error h n le = absurd h
refuses_back (Either one others) Alternates text error h zero le = absurd (omega (arith, le))
refuses_back (Either one others) Alternates text error h (suc n) le =
    comma_case n text h.0 one (Refuses error) (reads_back one (Tokens false true) text (44 ∷ h.0) h.1 n (omega (arith, le)))
    (refuses_back others Alternates h.0 error h.2 n (omega (arith, le, reads_shorter one (Tokens false true) text (44 ∷ h.0) h.1)))

-- nothing is left of a glob's text
ends_outside : (piece : Piece) (text rest : List ℕ) → EndsTokens false piece text rest → rest ≡ []
ends_outside Ends text rest h = h
ends_outside (Stands token t) text rest h = absurd h
ends_outside (Opens t) text rest h = absurd h
ends_outside (Separates t) text rest h = absurd h
ends_outside (Closes t) text rest h = absurd h
ends_outside (Fails error) text rest h = absurd h

outside_rest : (glob : Glob) (front : Bool) (text rest : List ℕ) → ReadsGlob glob (Tokens front false) text rest → rest ≡ []
outside_rest Empty front text rest h = ends_outside (piece_of front text) text rest h
outside_rest (Single token) front text rest h = absurd h
outside_rest (Then (Single token) more) front text rest h = outside_rest more false h.0 rest h.2
outside_rest (Then group more) front text rest h = outside_rest more false h.2.0 rest h.2.2
outside_rest (Either one others) front text rest h = absurd h

glob_to : (text : List ℕ) (o : Outcome) → read_part (2 * length text + 1) (Tokens true false) text ≡ o → (glob : Glob) → glob_from o ≡ Ok glob → ReadsGlob glob (Tokens true false) text []
glob_to text (Reads read rest) is glob e =
    let h = reads_to (2 * length text + 1) (Tokens true false) text read rest is in
    let same : read ≡ glob = cc in
    subst (λ g. ReadsGlob g (Tokens true false) text []) same (subst (λ r. ReadsGlob read (Tokens true false) text r) (outside_rest read true text rest h) h)
glob_to text (Refuses error) is glob e = absurd cc

error_to : (text : List ℕ) (o : Outcome) → read_part (2 * length text + 1) (Tokens true false) text ≡ o → (error : GlobError) → glob_from o ≡ Err error → Refused (Tokens true false) text error
error_to text (Reads read rest) is error e = absurd cc
error_to text (Refuses fault) is error e =
    let same : Refuses fault ≡ Refuses error = cc in
    refuses_to (2 * length text + 1) (Tokens true false) text error (omega arith) (is ∙ same)

pub glob_reads : (text : List ℕ) (glob : Glob) → (read_glob text ≡ Ok glob) ↔ ReadsGlob glob (Tokens true false) text []
glob_reads text glob = (
  λ e. glob_to text (read_part (2 * length text + 1) (Tokens true false) text) refl glob e,
  λ h. ap glob_from (reads_back glob (Tokens true false) text [] h (2 * length text + 1) (omega arith)),
)

pub glob_refused : (text : List ℕ) (error : GlobError) → (read_glob text ≡ Err error) ↔ ((before : Glob) × IsRefused before (Tokens true false) text error)
glob_refused text error = (
  λ e. error_to text (read_part (2 * length text + 1) (Tokens true false) text) refl error e,
  λ w. ap glob_from (refuses_back w.0 (Tokens true false) text error w.1 (2 * length text + 1) (omega arith)),
)
