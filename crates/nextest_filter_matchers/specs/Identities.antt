-- When globs and matchers are the same.
use Rattle.std.specs.Prelude.{◌≡◌, ℕ, Bool, true, false, ◌&&◌, List, nat_eq, Result, Ok, Err}
use Rattle.std.specs.Bool.{Decides}
use Rattle.std.specs.Cmp.{IsEquivalence}
use Rattle.std.specs.Cmp.Lexicographic.{pointwise, pointwise_decides, bytes_decides}
use Rattle.std.proofs.Common.{refl, sym, ap, subst}
use Rattle.std.proofs.lemmas.Bool.{false≢true, and_parts, and_from}
use Rattle.std.proofs.lemmas.Bool.{eqb-true, eq-eqb}
use Rattle.nextest_filter_matchers.specs.declared.glob_error.GlobError.{GlobError}
use Rattle.nextest_filter_matchers.specs.Globs.{Glob, Token, CharacterSet, Empty, Single, Then, Either, One, AnyText, LeadingDirectories, InnerDirectories, TrailingDirectories, Character, Any, Class, spelled}

abbrev pub DecidesEquality : {X : Type 0} → (X → X → Bool) → Type 0
DecidesEquality {X} E = (x y : X) → Decides (E x y) (x ≡ y)

abbrev pub bool_eq : Bool → Bool → Bool
bool_eq true b = b
bool_eq false true = false
bool_eq false false = true

abbrev pub range_eq : ℕ × ℕ → ℕ × ℕ → Bool
range_eq p q = nat_eq p.0 q.0 && nat_eq p.1 q.1

abbrev pub set_eq : CharacterSet → CharacterSet → Bool
set_eq (Character c) (Character d) = nat_eq c d
set_eq Any Any = true
set_eq (Class a ranges) (Class b others) = bool_eq a b && pointwise range_eq ranges others
set_eq _ _ = false

abbrev pub token_eq : Token → Token → Bool
token_eq (One a) (One b) = set_eq a b
token_eq AnyText AnyText = true
token_eq LeadingDirectories LeadingDirectories = true
token_eq InnerDirectories InnerDirectories = true
token_eq TrailingDirectories TrailingDirectories = true
token_eq _ _ = false

abbrev pub glob_eq : Glob → Glob → Bool
glob_eq Empty Empty = true
glob_eq (Single a) (Single b) = token_eq a b
glob_eq (Then a b) (Then c d) = glob_eq a c && glob_eq b d
glob_eq (Either a b) (Either c d) = glob_eq a c && glob_eq b d
glob_eq _ _ = false

ranges_decide : DecidesEquality range_eq
ranges_decide p q = (
  λ h. let w = and_parts (nat_eq p.0 q.0) (nat_eq p.1 q.1) h in
      λ i. (eqb-true p.0 q.0 w.0 i, eqb-true p.1 q.1 w.1 i),
  λ e.
      and_from _ _ (eq-eqb p.0 q.0 (ap (λ r. r.0) e)) (eq-eqb p.1 q.1 (ap (λ r. r.1) e)),
)

bools_decide : DecidesEquality bool_eq
bools_decide true true = (λ _. refl, λ _. refl)
bools_decide true false = (λ h. absurd (false≢true h), λ e. absurd (false≢true (sym e)))
bools_decide false true = (λ h. absurd (false≢true h), λ e. absurd (false≢true e))
bools_decide false false = (λ _. refl, λ _. refl)

sets_decide : DecidesEquality set_eq
sets_decide (Character c) (Character d) = (λ h. ap Character (eqb-true c d h), λ e. eq-eqb c d cc)
sets_decide Any Any = (λ _. refl, λ _. refl)
sets_decide (Class a ranges) (Class b others) =
    let d = bools_decide a b in
    let e = pointwise_decides ranges_decide ranges others in (
      λ h.
          let w = and_parts (bool_eq a b) (pointwise range_eq ranges others) h in
          let p = d.0 w.0 in
          let q = e.0 w.1 in
          cc,
      λ same.
          and_from _ _ (d.1 cc) (e.1 cc),
    )
sets_decide _ _ = (λ h. absurd (false≢true h), λ e. cc)

pub tokens_decide : DecidesEquality token_eq
tokens_decide (One a) (One b) = (λ h. ap One ((sets_decide a b).0 h), λ e. (sets_decide a b).1 cc)
tokens_decide AnyText AnyText = (λ _. refl, λ _. refl)
tokens_decide LeadingDirectories LeadingDirectories = (λ _. refl, λ _. refl)
tokens_decide InnerDirectories InnerDirectories = (λ _. refl, λ _. refl)
tokens_decide TrailingDirectories TrailingDirectories = (λ _. refl, λ _. refl)
tokens_decide _ _ = (λ h. absurd (false≢true h), λ e. cc)

pub globs_decide : DecidesEquality glob_eq
globs_decide Empty Empty = (λ _. refl, λ _. refl)
globs_decide (Single a) (Single b) = (λ h. ap Single ((tokens_decide a b).0 h), λ e. (tokens_decide a b).1 cc)
globs_decide (Then a b) (Then c d) =
    let s = globs_decide a c in
    let t = globs_decide b d in (
      λ h.
          let w = and_parts (glob_eq a c) (glob_eq b d) h in
          let p = s.0 w.0 in
          let q = t.0 w.1 in
          cc,
      λ same.
          and_from _ _ (s.1 cc) (t.1 cc),
    )
globs_decide (Either a b) (Either c d) =
    let s = globs_decide a c in
    let t = globs_decide b d in (
      λ h.
          let w = and_parts (glob_eq a c) (glob_eq b d) h in
          let p = s.0 w.0 in
          let q = t.0 w.1 in
          cc,
      λ same.
          and_from _ _ (s.1 cc) (t.1 cc),
    )
globs_decide _ _ = (λ h. absurd (false≢true h), λ e. cc)

-- a text was read as this glob
abbrev pub is_read_as : Result Glob GlobError → Glob → Bool
is_read_as (Ok read) glob = glob_eq read glob
is_read_as (Err error) glob = false

pub from_read : (r : Result Glob GlobError) (glob : Glob) → r ≡ Ok glob → is_read_as r glob ≡ true
from_read r glob e = subst (λ s. is_read_as s glob ≡ true) (sym e) ((globs_decide glob glob).1 refl)

pub to_read : (r : Result Glob GlobError) (glob : Glob) → is_read_as r glob ≡ true → r ≡ Ok glob
to_read (Ok read) glob h = ap Ok ((globs_decide read glob).0 h)
to_read (Err error) glob h = absurd (false≢true h)

-- the glob's tokens are the characters of its text, where it is said to be plain
abbrev pub is_plainly : Bool → List ℕ → Glob → Bool
is_plainly true text glob = glob_eq glob (spelled text)
is_plainly false text glob = true

pub to_spelled : (is_plain : Bool) (text : List ℕ) (glob : Glob) → is_plain ≡ true → is_plainly is_plain text glob ≡ true → glob ≡ spelled text
to_spelled true text glob e h = (globs_decide glob (spelled text)).0 h
to_spelled false text glob e h = absurd (false≢true e)

pub from_spelled : (is_plain : Bool) (text : List ℕ) (glob : Glob) → (is_plain ≡ true → glob ≡ spelled text) → is_plainly is_plain text glob ≡ true
from_spelled true text glob h = (globs_decide glob (spelled text)).1 (h refl)
from_spelled false text glob h = refl

-- what tells matchers apart: `implicit` for texts alone, globs by their tokens, patterns by their text
pub data Identity : Type 0 where
  EqualTo : List ℕ → Bool → Identity
  Containing : List ℕ → Bool → Identity
  OfGlob : Glob → Identity
  OfPattern : List ℕ → Identity

abbrev pub text_eq : List ℕ → List ℕ → Bool
text_eq = pointwise nat_eq

abbrev pub identity_eq : Identity → Identity → Bool
identity_eq (EqualTo a i) (EqualTo b j) = text_eq a b && bool_eq i j
identity_eq (Containing a i) (Containing b j) = text_eq a b && bool_eq i j
identity_eq (OfGlob a) (OfGlob b) = glob_eq a b
identity_eq (OfPattern a) (OfPattern b) = text_eq a b
identity_eq _ _ = false

pub identities_decide : DecidesEquality identity_eq
identities_decide (EqualTo a i) (EqualTo b j) =
    let s = bytes_decides a b in
    let t = bools_decide i j in (
      λ h.
          let w = and_parts (text_eq a b) (bool_eq i j) h in
          let p = s.0 w.0 in
          let q = t.0 w.1 in
          cc,
      λ same.
          and_from _ _ (s.1 cc) (t.1 cc),
    )
identities_decide (Containing a i) (Containing b j) =
    let s = bytes_decides a b in
    let t = bools_decide i j in (
      λ h.
          let w = and_parts (text_eq a b) (bool_eq i j) h in
          let p = s.0 w.0 in
          let q = t.0 w.1 in
          cc,
      λ same.
          and_from _ _ (s.1 cc) (t.1 cc),
    )
identities_decide (OfGlob a) (OfGlob b) = (λ h. ap OfGlob ((globs_decide a b).0 h), λ e. (globs_decide a b).1 cc)
identities_decide (OfPattern a) (OfPattern b) = (λ h. ap OfPattern ((bytes_decides a b).0 h), λ e. (bytes_decides a b).1 cc)
identities_decide _ _ = (λ h. absurd (false≢true h), λ e. cc)

either_way : (s t : Bool) → (s ≡ true → t ≡ true) → (t ≡ true → s ≡ true) → s ≡ t
either_way true t f g = sym (f refl)
either_way false true f g = g refl
either_way false false f g = refl

-- a test that holds exactly where a view gives equal values is an equivalence
pub equivalence_by : {X Y : Type 0} (view : X → Y) {E : Y → Y → Bool} → DecidesEquality E → IsEquivalence (λ (x y : X). E (view x) (view y))
equivalence_by {X = X} view {E = E} d = record {
  refl = λ x. (d (view x) (view x)).1 refl;
  symm = λ x y. either_way (E (view x) (view y)) (E (view y) (view x)) (λ h. (d (view y) (view x)).1 (sym ((d (view x) (view y)).0 h))) (λ h. (d (view x) (view y)).1 (sym ((d (view y) (view x)).0 h)));
  congr = λ x y z h. ap (λ w. E w (view z)) ((d (view x) (view y)).0 h);
}
