-- Tokens one after another.
use Rattle.std.proofs.Common.{Vec, Global, ◌≡◌, ◌∙◌, ℕ, ◌+◌, ◌↔◌, inl, inr, Bool, true, false, not, ◌&&◌, ◌||◌, List, [], ◌∷◌, Option, Some, None, IfNone, IfSome, drop, nat_eq, slice_index_or, refl, sym, ap, subst, arith}
use Rattle.std.proofs.lemmas.Bool.{false≢true, not-true, eqb-true}
use Rattle.std.proofs.Math.Bool.{and-false, and-true, and_assoc}
use Rattle.std.specs.Cmp.Lexicographic.{pointwise}
use Rattle.std.specs.List.{list_any}
use Rattle.nextest_filter_matchers.specs.Globs.{Glob, Token, Empty, Single, Then, Either, One, AnyText, LeadingDirectories, InnerDirectories, TrailingDirectories, tokens_then}
use Rattle.nextest_filter_matchers.specs.GlobViews.{glob_of, token_of, tokens_in}
use Rattle.nextest_filter_matchers.specs.Identities.{glob_eq, token_eq}
use Rattle.nextest_filter_matchers.specs.Matchers.{same_token}
use Rattle.nextest_filter_matchers.specs.Sequences.{IsBehind, IsFewer, Stop, End, Gap, SuitsStop, SuitsTokens, is_leading, leads_first, stop_in}
use Rattle.nextest_filter_matchers.specs.StopViews.{SuitsRest, has_leading, stop_of}
use Rattle.nextest_filter_matchers.specs.Walks.{room, tokens_room}
use Rattle.nextest_filter_matchers.specs.declared.glob_pattern.Pattern.{Pattern, Sequence, Grouped', Either'}
use Rattle.nextest_filter_matchers.specs.declared.glob_pattern.Token.{Token as code_Token}
use Rattle.nextest_filter_matchers.specs.declared.glob_sequence.Stop.{Stop as code_Stop}
use Rattle.nextest_filter_matchers.specs.declared.glob_sequence.Stop.TheVariants as code

pub room_then : (tokens : List Token) (more : Glob) → room (tokens_then tokens more) ≡ tokens_room tokens + room more
room_then [] more = omega arith
room_then (token ∷ tokens) more = omega (arith, room_then tokens more)

-- the tokens behind the gap may stand at the stop of these tokens in a text, or later
abbrev Follows : List Token → List ℕ → Type 0
Follows [] text = Unit {0}
Follows (One set ∷ tokens) text = Follows tokens (drop 1 text)
Follows (AnyText ∷ tokens) text = IsBehind false true (SuitsTokens tokens) text
Follows (LeadingDirectories ∷ tokens) text = Unit {0}
Follows (InnerDirectories ∷ tokens) text = IsBehind true (nat_eq (slice_index_or text 0 0) 47) (SuitsTokens tokens) (drop 1 text)
Follows (TrailingDirectories ∷ tokens) text = IsBehind false true (SuitsTokens tokens) (drop 1 text)

-- where they stand, they follow
follows_here : (tokens : List Token) (text : List ℕ) → SuitsTokens tokens text → Follows tokens text
follows_here [] text h = tt
follows_here (One set ∷ tokens) [] h = absurd h
follows_here (One set ∷ tokens) (c ∷ text) h = follows_here tokens text h.1
follows_here (AnyText ∷ tokens) text h = h
follows_here (LeadingDirectories ∷ tokens) text h = tt
follows_here (InnerDirectories ∷ tokens) [] h = absurd h
follows_here (InnerDirectories ∷ tokens) (c ∷ text) h = subst (λ b. IsBehind true b (SuitsTokens tokens) text) (sym h.0) h.1
follows_here (TrailingDirectories ∷ tokens) [] h = absurd h
follows_here (TrailingDirectories ∷ tokens) (c ∷ text) h = h.1

-- where they follow, they do so too with one more character in front
follows_more : (tokens : List Token) (c : ℕ) (text : List ℕ) → Follows tokens text → Follows tokens (c ∷ text)
follows_more [] c text h = tt
follows_more (One set ∷ tokens) c [] h = h
follows_more (One set ∷ tokens) c (d ∷ text) h = follows_more tokens d text h
follows_more (AnyText ∷ tokens) c text h = inr h
follows_more (LeadingDirectories ∷ tokens) c text h = tt
follows_more (InnerDirectories ∷ tokens) c [] h = absurd (false≢true h.0)
follows_more (InnerDirectories ∷ tokens) c (d ∷ text) h = inr h
follows_more (TrailingDirectories ∷ tokens) c [] h = h
follows_more (TrailingDirectories ∷ tokens) c (d ∷ text) h = inr h

follows_behind : (tokens : List Token) (of_folders here : Bool) (text : List ℕ) → IsBehind of_folders here (SuitsTokens tokens) text → Follows tokens text
follows_behind tokens of_folders here [] h = follows_here tokens [] h.1
follows_behind tokens of_folders here (c ∷ text) (inl h) = follows_here tokens (c ∷ text) h.1
follows_behind tokens of_folders here (c ∷ text) (inr h) = follows_more tokens c text (follows_behind tokens of_folders (not of_folders || nat_eq c 47) text h)

may_be_here : (of_folders here : Bool) (Such : List ℕ → Type 0) (text : List ℕ) → IsBehind of_folders here Such text → IsBehind of_folders true Such text
may_be_here of_folders here Such [] h = (refl, h.1)
may_be_here of_folders here Such (c ∷ text) (inl h) = inl (refl, h.1)
may_be_here of_folders here Such (c ∷ text) (inr h) = inr h

follows_stop : (tokens : List Token) (text : List ℕ) → list_any is_leading tokens ≡ false → Follows tokens text → SuitsStop (stop_in tokens text)
follows_stop [] text lacks h = tt
follows_stop (One set ∷ tokens) text lacks h = follows_stop tokens (drop 1 text) lacks h
follows_stop (AnyText ∷ tokens) text lacks h = h
follows_stop (LeadingDirectories ∷ tokens) text lacks h = absurd (false≢true (sym lacks))
follows_stop (InnerDirectories ∷ tokens) text lacks h = may_be_here true (nat_eq (slice_index_or text 0 0) 47) (SuitsTokens tokens) (drop 1 text) h
follows_stop (TrailingDirectories ∷ tokens) text lacks h = h

-- behind a gap the first place at which the tokens can stand is as good as any
pub first_is_best : (of_folders here : Bool) (tokens : List Token) (text : List ℕ) (stop : Stop) → list_any is_leading tokens ≡ false → stop ≡ stop_in tokens text → IsBehind of_folders here (SuitsTokens tokens) text → SuitsStop stop
first_is_best of_folders here tokens text stop lacks e h = subst SuitsStop (sym e) (follows_stop tokens text lacks (follows_behind tokens of_folders here text h))

-- it is one of those behind the gap
pub is_here : (of_folders here : Bool) (Such : List ℕ → Type 0) (text : List ℕ) → here ≡ true → Such text → IsBehind of_folders here Such text
is_here of_folders here Such [] e h = (e, h)
is_here of_folders here Such (c ∷ text) e h = inl (e, h)

-- what suits tokens suits what is left of them at the stop
pub suits_left : (tokens : List Token) (text : List ℕ) → SuitsTokens tokens text → SuitsStop (stop_in tokens text)
suits_left [] text h = tt
suits_left (One set ∷ tokens) [] h = absurd h
suits_left (One set ∷ tokens) (c ∷ text) h = suits_left tokens text h.1
suits_left (AnyText ∷ tokens) text h = h
suits_left (LeadingDirectories ∷ tokens) text h = h
suits_left (InnerDirectories ∷ tokens) [] h = absurd h
suits_left (InnerDirectories ∷ tokens) (c ∷ text) h = h.1
suits_left (TrailingDirectories ∷ tokens) [] h = absurd h
suits_left (TrailingDirectories ∷ tokens) (c ∷ text) h = h.1

further : (token : Token) (tokens : List Token) (stop : Stop) → IsFewer tokens stop → IsFewer (token ∷ tokens) stop
further token tokens End h = tt
further token tokens (Gap of_folders more text) h = (omega (arith, h.0), h.1)

-- fewer tokens are left there
pub stop_lacks : (tokens : List Token) (text : List ℕ) → list_any is_leading tokens ≡ false → IsFewer tokens (stop_in tokens text)
stop_lacks [] text lacks = tt
stop_lacks (One set ∷ tokens) text lacks = further (One set) tokens (stop_in tokens (drop 1 text)) (stop_lacks tokens (drop 1 text) lacks)
stop_lacks (AnyText ∷ tokens) text lacks = (omega arith, lacks)
stop_lacks (LeadingDirectories ∷ tokens) text lacks = absurd (false≢true (sym lacks))
stop_lacks (InnerDirectories ∷ tokens) text lacks = (omega arith, lacks)
stop_lacks (TrailingDirectories ∷ tokens) text lacks = (omega arith, lacks)

pub stop_fewer : (tokens : List Token) (text : List ℕ) → leads_first tokens ≡ true → IsFewer tokens (stop_in tokens text)
stop_fewer [] text lacks = tt
stop_fewer (One set ∷ tokens) text lacks = further (One set) tokens (stop_in tokens (drop 1 text)) (stop_lacks tokens (drop 1 text) (not-true _ lacks))
stop_fewer (AnyText ∷ tokens) text lacks = (omega arith, not-true _ lacks)
stop_fewer (LeadingDirectories ∷ tokens) text lacks = (omega arith, not-true _ lacks)
stop_fewer (InnerDirectories ∷ tokens) text lacks = (omega arith, not-true _ lacks)
stop_fewer (TrailingDirectories ∷ tokens) text lacks = (omega arith, not-true _ lacks)

-- the token that is a slash and a gap behind it
abbrev pub slash_token : Bool → Token
slash_token true = InnerDirectories
slash_token false = TrailingDirectories

slash_first : (of_folders : Bool) (more : List Token) (text : List ℕ) → SuitsTokens (slash_token of_folders ∷ more) text → (rest : List ℕ) × (text ≡ 47 ∷ rest) × SuitsStop (Gap of_folders more rest)
slash_first true more [] h = absurd h
slash_first true more (c ∷ text) h = (text, ap (λ d. d ∷ text) (eqb-true _ _ h.0), h.1)
slash_first false more [] h = absurd h
slash_first false more (c ∷ text) h = (text, ap (λ d. d ∷ text) (eqb-true _ _ h.0), h.1)

slash_stop : (of_folders : Bool) (more : List Token) (rest : List ℕ) → (SuitsStop (Gap of_folders more rest) → SuitsTokens (slash_token of_folders ∷ more) (47 ∷ rest)) × (Gap of_folders more rest ≡ stop_in (slash_token of_folders ∷ more) (47 ∷ rest))
slash_stop true more rest = (λ h. (refl, h), refl)
slash_stop false more rest = (λ h. (refl, h), refl)

module _ {X : Type 0} (stop_of : X → Stop) (of_folders : Bool) (tokens more : List Token) (text : List ℕ) (e : tokens ≡ slash_token of_folders ∷ more) (found : Option X) (whole : List Token) (all : List ℕ) where
  pub slash_none : ((rest : List ℕ) → IfNone found (text ≡ 47 ∷ rest → ⊥)) → (SuitsTokens whole all → SuitsTokens tokens text) → IfNone found (SuitsTokens whole all → ⊥)
  slash_none none left =
      elim found as (λ f. ((rest : List ℕ) → IfNone f (text ≡ 47 ∷ rest → ⊥)) → IfNone f (SuitsTokens whole all → ⊥)) [
        | None ↦ λ n h. let w = slash_first of_folders more text (subst (λ t. SuitsTokens t text) e (left h)) in n w.0 w.1
        | Some s ↦ λ _. tt
      ] none

  pub slash_some : IfSome found (λ s. (rest : List ℕ) × (text ≡ 47 ∷ rest) × (stop_of s ≡ Gap of_folders more rest)) → (SuitsTokens tokens text → SuitsTokens whole all) → stop_in tokens text ≡ stop_in whole all → IfSome found (λ s. (SuitsStop (stop_of s) → SuitsTokens whole all) × (stop_of s ≡ stop_in whole all))
  slash_some some back same =
      elim found as (λ f. IfSome f (λ s. (rest : List ℕ) × (text ≡ 47 ∷ rest) × (stop_of s ≡ Gap of_folders more rest)) → IfSome f (λ s. (SuitsStop (stop_of s) → SuitsTokens whole all) × (stop_of s ≡ stop_in whole all))) [
        | None ↦ λ _. tt
        | Some s ↦ λ w.
            let k = slash_stop of_folders more w.0 in (
              λ h. back (subst (λ t. SuitsTokens t text) (sym e) (subst (λ t. SuitsTokens (slash_token of_folders ∷ more) t) (sym w.1) (k.0 (subst SuitsStop w.2 h)))),
              w.2 ∙ k.1 ∙ ap (λ t. stop_in (slash_token of_folders ∷ more) t) (sym w.1) ∙ ap (λ t. stop_in t text) (sym e) ∙ same,
            )
      ] some

lacks_leading : (tokens : List Token) (stop : code_Stop) → IsFewer tokens (stop_of stop) → has_leading (Some stop) ≡ false
lacks_leading tokens code.End h = refl
lacks_leading tokens (code.Gap of_folders more text) h = h.1

-- what is left at the first stop
pub first_stop : (found : Option code_Stop) (tokens : List Token) (text : List ℕ) → leads_first tokens ≡ true → IfNone found (SuitsTokens tokens text → ⊥) → IfSome found (λ s. (SuitsStop (stop_of s) → SuitsTokens tokens text) × (stop_of s ≡ stop_in tokens text)) → (SuitsRest found ↔ SuitsTokens tokens text) × (has_leading found ≡ false)
first_stop None tokens text lacks none some = ((λ h. absurd h, none), refl)
first_stop (Some stop) tokens text lacks none some = (
  (some.0, λ h. subst SuitsStop (sym some.1) (suits_left tokens text h)),
  lacks_leading tokens stop (subst (IsFewer tokens) (sym some.1) (stop_fewer tokens text lacks)),
)

-- whether a glob begins with a token
abbrev pub begins_with_token : Glob → Bool
begins_with_token (Then (Single token) more) = true
begins_with_token glob = false

no_token : (glob : Glob) (token : Token) (more : Glob) → begins_with_token glob ≡ false → glob_eq glob (Then (Single token) more) ≡ false
no_token Empty token more h = refl
no_token (Single other) token more h = refl
no_token (Either a b) token more h = refl
no_token (Then (Single other) b) token more h = absurd (false≢true (sym h))
no_token (Then Empty b) token more h = refl
no_token (Then (Then a c) b) token more h = refl
no_token (Then (Either a c) b) token more h = refl

token_no : (token : Token) (more glob : Glob) → begins_with_token glob ≡ false → glob_eq (Then (Single token) more) glob ≡ false
token_no token more Empty h = refl
token_no token more (Single other) h = refl
token_no token more (Either a b) h = refl
token_no token more (Then (Single other) b) h = absurd (false≢true (sym h))
token_no token more (Then Empty b) h = refl
token_no token more (Then (Then a c) b) h = refl
token_no token more (Then (Either a c) b) h = refl

-- tokens are compared one after another, and then what stands behind them
pub tokens_eq : (tokens others : List code_Token) (more other : Glob) → begins_with_token more ≡ false → begins_with_token other ≡ false → glob_eq (tokens_then (tokens_in tokens) more) (tokens_then (tokens_in others) other) ≡ (pointwise same_token tokens others && glob_eq more other)
tokens_eq [] [] more other h k = refl
tokens_eq [] (token ∷ others) more other h k = no_token more (token_of token) (tokens_then (tokens_in others) other) h
tokens_eq (token ∷ tokens) [] more other h k = token_no (token_of token) (tokens_then (tokens_in tokens) more) other k
tokens_eq (token ∷ tokens) (same ∷ others) more other h k =
    ap (λ b. token_eq (token_of token) (token_of same) && b) (tokens_eq tokens others more other h k) ∙ sym (and_assoc (token_eq (token_of token) (token_of same)) (pointwise same_token tokens others) (glob_eq more other))

pub not_token : (pattern : Pattern) (more : Glob) → begins_with_token (Then (glob_of pattern) more) ≡ false
not_token (Sequence tokens) more = elim tokens.items as (λ ts. begins_with_token (Then (tokens_then (tokens_in ts) Empty) more) ≡ false) [ [] ↦ refl | t ∷ ts ↦ refl ]
not_token (Grouped' tokens p a q b) more = elim tokens.items as (λ ts. begins_with_token (Then (tokens_then (tokens_in ts) (Then (glob_of a) (glob_of b))) more) ≡ false) [ [] ↦ refl | t ∷ ts ↦ refl ]
not_token (Either' p a q b) more = refl

-- tokens alone
pub sequences_eq : (tokens others : List code_Token) → glob_eq (tokens_then (tokens_in tokens) Empty) (tokens_then (tokens_in others) Empty) ≡ pointwise same_token tokens others
sequences_eq tokens others = tokens_eq tokens others Empty Empty refl refl ∙ and-true (pointwise same_token tokens others)

-- tokens and what stands in braces behind them
pub groups_eq : (tokens others : List code_Token) (a b c d : Pattern) → glob_eq (tokens_then (tokens_in tokens) (Then (glob_of a) (glob_of b))) (tokens_then (tokens_in others) (Then (glob_of c) (glob_of d))) ≡ (pointwise same_token tokens others && (glob_eq (glob_of a) (glob_of c) && glob_eq (glob_of b) (glob_of d)))
groups_eq tokens others a b c d = tokens_eq tokens others (Then (glob_of a) (glob_of b)) (Then (glob_of c) (glob_of d)) (not_token a (glob_of b)) (not_token c (glob_of d))

tokens_either : (tokens : List Token) (a b : Glob) (more : Glob) → glob_eq more (Either a b) ≡ false → glob_eq (tokens_then tokens more) (Either a b) ≡ false
tokens_either [] a b more h = h
tokens_either (token ∷ tokens) a b more h = refl

either_tokens : (tokens : List Token) (a b : Glob) (more : Glob) → glob_eq (Either a b) more ≡ false → glob_eq (Either a b) (tokens_then tokens more) ≡ false
either_tokens [] a b more h = h
either_tokens (token ∷ tokens) a b more h = refl

abbrev pub is_grouped : Pattern → Bool
is_grouped (Grouped' tokens p a q b) = true
is_grouped pattern = false

abbrev pub is_either : Pattern → Bool
is_either (Either' p a q b) = true
is_either pattern = false

-- patterns of different variants
pub sequence_unlike : (tokens : Vec code_Token Global) (other : Pattern) → ((others : Vec code_Token Global) → other ≡ Sequence others → ⊥) → glob_eq (glob_of (Sequence tokens)) (glob_of other) ≡ false
sequence_unlike tokens (Sequence others) h = absurd (h others refl)
sequence_unlike tokens (Grouped' others p a q b) h = tokens_eq tokens.items others.items Empty (Then (glob_of a) (glob_of b)) refl (not_token a (glob_of b)) ∙ and-false (pointwise same_token tokens.items others.items)
sequence_unlike tokens (Either' p a q b) h = tokens_either (tokens_in tokens.items) (glob_of a) (glob_of b) Empty refl

pub grouped_unlike : (tokens : Vec code_Token Global) (a b other : Pattern) → is_grouped other ≡ false → glob_eq (tokens_then (tokens_in tokens.items) (Then (glob_of a) (glob_of b))) (glob_of other) ≡ false
grouped_unlike tokens a b (Sequence others) h = tokens_eq tokens.items others.items (Then (glob_of a) (glob_of b)) Empty (not_token a (glob_of b)) refl ∙ and-false (pointwise same_token tokens.items others.items)
grouped_unlike tokens a b (Grouped' others r c s d) h = absurd (false≢true (sym h))
grouped_unlike tokens a b (Either' r c s d) h = tokens_either (tokens_in tokens.items) (glob_of c) (glob_of d) (Then (glob_of a) (glob_of b)) refl

pub either_unlike : (a b other : Pattern) → is_either other ≡ false → glob_eq (Either (glob_of a) (glob_of b)) (glob_of other) ≡ false
either_unlike a b (Sequence others) h = either_tokens (tokens_in others.items) (glob_of a) (glob_of b) Empty refl
either_unlike a b (Grouped' others r c s d) h = either_tokens (tokens_in others.items) (glob_of a) (glob_of b) (Then (glob_of c) (glob_of d)) refl
either_unlike a b (Either' r c s d) h = absurd (false≢true (sym h))
