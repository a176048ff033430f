-- What a glob's tokens are read as, a token at a time.
use Rattle.std.proofs.Common.{◌≡◌, ℕ, zero, suc, ◌-◌, Bool, true, false, ◌&&◌, List, [], ◌∷◌, ◌++◌, length, take, drop, codes, nat_eq, refl, ◌∙◌, ap, sym, arith}
use Rattle.std.proofs.lemmas.Grind.{common_steps}
use Rattle.std.specs.List.{starts_with}
use Rattle.nextest_filter_matchers.specs.Globs.{Glob, Token, Single, Then, InnerDirectories, tokens_then}
use Rattle.nextest_filter_matchers.specs.GlobReading.{Alternates, Outcome, Reads, Refuses, Stands, Tokens, alternates_after, then_read, first_piece, past_directories, piece_of, tokens_from, read_part}
use Rattle.nextest_filter_matchers.specs.ReadingViews.{RunStop, end_outcome, prefixed}

pub read_part-more : (n : ℕ) (front inside : Bool) (text : List ℕ) → (n ≡ 0 → ⊥) → read_part n (Tokens front inside) text ≡ tokens_from (read_part (n - 1)) inside text (piece_of front text)
read_part-more zero front inside text h = absurd (h refl)
read_part-more (suc n) front inside text h =
    let same : n ≡ suc n - 1 = omega arith in
    ap (λ k. tokens_from (read_part k) inside text (piece_of front text)) same

pub read_part-alternates : (n : ℕ) (text : List ℕ) → (n ≡ 0 → ⊥) → read_part n Alternates text ≡ alternates_after (read_part (n - 1)) (read_part (n - 1) (Tokens false true) text)
read_part-alternates zero text h = absurd (h refl)
read_part-alternates (suc n) text h =
    let same : n ≡ suc n - 1 = omega arith in
    ap (λ k. alternates_after (read_part k) (read_part k (Tokens false true) text)) same

pub and_left : (a b : Bool) → a ≡ false → (a && b) ≡ false
and_left a b e = rw e refl

pub and_right : (a b : Bool) → b ≡ false → (a && b) ≡ false
and_right true b e = e
and_right false b e = refl

rest_after : (n : ℕ) (text : List ℕ) → take (length text - n) (drop n text) ≡ drop n text
rest_after n text = grind (arith, common_steps)

-- what begins a text, by the tests of its beginning
pub piece_inner : (front : Bool) (text rest : List ℕ) → (front && starts_with nat_eq text (codes "**/")) ≡ false → starts_with nat_eq text (codes "/**/") ≡ true → rest ≡ past_directories (take (length text - 4) (drop 4 text)) → Stands InnerDirectories rest ≡ piece_of front text
piece_inner front text rest a b e = rw (a, b) (ap (Stands InnerDirectories) (e ∙ ap past_directories (rest_after 4 text)))

pub piece_first : (front : Bool) (text : List ℕ) → (front && starts_with nat_eq text (codes "**/")) ≡ false → starts_with nat_eq text (codes "/**/") ≡ false → (nat_eq (length text) 3 && starts_with nat_eq text (codes "/**")) ≡ false → piece_of front text ≡ first_piece text
piece_first front text a b c = rw (a, b, c) refl

-- a token behind others
pub tokens_then_push : (tokens : List Token) (token : Token) (more : Glob) → tokens_then (tokens ++ token ∷ []) more ≡ tokens_then tokens (Then (Single token) more)
tokens_then_push [] token more = refl
tokens_then_push (first ∷ tokens) token more = ap (Then (Single first)) (tokens_then_push tokens token more)

pub prefixed_none : (o : Outcome) → prefixed [] o ≡ o
prefixed_none (Reads glob text) = refl
prefixed_none (Refuses error) = refl

pub prefixed_push : (tokens : List Token) (token : Token) (o : Outcome) → prefixed (tokens ++ token ∷ []) o ≡ prefixed tokens (then_read (Single token) o)
prefixed_push tokens token (Reads glob text) = ap (λ g. Reads g text) (tokens_then_push tokens token glob)
prefixed_push tokens token (Refuses error) = refl

-- what is read where a token stands
pub run_on : (n : ℕ) (front inside : Bool) (text rest : List ℕ) (tokens pushed : List Token) (token : Token) (whole : Outcome) → (n ≡ 0 → ⊥) → tokens_from (read_part (n - 1)) inside text (piece_of front text) ≡ then_read (Single token) (read_part (n - 1) (Tokens false inside) rest) → pushed ≡ tokens ++ token ∷ [] → prefixed tokens (read_part n (Tokens front inside) text) ≡ whole → prefixed pushed (read_part (n - 1) (Tokens false inside) rest) ≡ whole
run_on n front inside text rest tokens pushed token whole some piece e was =
    ap (λ ts. prefixed ts (read_part (n - 1) (Tokens false inside) rest)) e ∙ prefixed_push tokens token (read_part (n - 1) (Tokens false inside) rest) ∙ ap (prefixed tokens) (sym piece ∙ sym (read_part-more n front inside text some)) ∙ was

-- where the run ends
pub run_ends : (n : ℕ) (front inside : Bool) (text : List ℕ) (tokens : List Token) (stop : RunStop) (whole : Outcome) → (n ≡ 0 → ⊥) → end_outcome (read_part (n - 1)) inside stop ≡ tokens_from (read_part (n - 1)) inside text (piece_of front text) → prefixed tokens (read_part n (Tokens front inside) text) ≡ whole → prefixed tokens (end_outcome (read_part (n - 1)) inside stop) ≡ whole
run_ends n front inside text tokens stop whole some piece was =
    ap (prefixed tokens) (piece ∙ sym (read_part-more n front inside text some)) ∙ was
