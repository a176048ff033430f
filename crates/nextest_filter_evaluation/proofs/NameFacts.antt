-- What is said of matchers and lists of names.
use Rattle.std.proofs.Common.{◌≡◌, ◌∙◌, ◌↔◌, Bool, false, true≢false, List, [], ◌∷◌, Option, Some, None, Result, Ok, Err, IfOk, IsTrue, Contains, refl, ap₂, subst, sym, ⊎_elim}
use Rattle.list_facts.proofs.Membership.{Contains-none, Contains-first, Contains-rest, Contains-cons_cases}
use Rattle.workspace_record.specs.Records.{Text}
use Rattle.regex.specs.Strings.{regex_pattern}
use Rattle.regex.specs.declared.string.regex.Regex.{Regex}
use Rattle.nextest_filter_matchers.specs.Copies.{pattern_of}
use Rattle.nextest_filter_matchers.specs.Matchers as m
use Rattle.nextest_filter_matchers.specs.Matchers.{MatchesName, Matcher, matcher_of}
use Rattle.nextest_filter_matchers.specs.declared.name_matcher.NameMatcher.{NameMatcher}
use Rattle.nextest_filter_matchers.specs.declared.name_matcher.NameMatcher.TheVariants as name
use Rattle.nextest_filter_evaluation.specs.NameTests.{Containing, EqualTo, NameTest, OfGlob, OfPattern, Suits, SuitsOneOf, name_test}

-- what a matcher looks for, by its value and its pattern
abbrev test_of : Matcher → Option Regex → NameTest
test_of (m.Equal value implicit) pattern = EqualTo value implicit
test_of (m.Contains value implicit) pattern = Containing value implicit
test_of (m.Glob text tokens implicit) pattern = OfGlob text tokens implicit
test_of (m.Regex text) (Some regex) = OfPattern text (regex_pattern regex)
test_of (m.Regex text) None = EqualTo text false

test_is : (a : NameMatcher) → name_test a ≡ test_of (matcher_of a) (pattern_of a)
test_is (name.Equal value implicit) = refl
test_is (name.Contains value implicit) = refl
test_is (name.Glob glob implicit) = refl
test_is (name.Regex regex) = refl

-- matchers of one value and one pattern match the same names
pub same_test : (a b : NameMatcher) → matcher_of a ≡ matcher_of b → pattern_of a ≡ pattern_of b → name_test a ≡ name_test b
same_test a b values patterns = test_is a ∙ ap₂ test_of values patterns ∙ sym (test_is b)

pub suits_as : {E : Type 0} (m : NameMatcher) (n : Text) (r : Result Bool E) → IfOk r (λ b. IsTrue b ↔ MatchesName m n) → IfOk r (λ b. IsTrue b ↔ Suits (name_test m) n)
suits_as (name.Equal value implicit) n r h = h
suits_as (name.Contains value implicit) n r h = h
suits_as (name.Glob glob implicit) n r h = h
suits_as (name.Regex regex) n r h = h

module _ (t : NameTest) where
  pub suits_none : (xs : List Text) → xs ≡ [] → SuitsOneOf t xs → ⊥
  suits_none xs e s = Contains-none s.name (subst (λ ys. Contains ys s.name) e s.listed)

  pub suits_first : (x : Text) (xs : List Text) → Suits t x → SuitsOneOf t (x ∷ xs)
  suits_first x xs h = record { name = x; listed = Contains-first x xs; suits = h }

  pub suits_later : (x : Text) (xs : List Text) → (Suits t x → ⊥) → SuitsOneOf t (x ∷ xs) ↔ SuitsOneOf t xs
  suits_later x xs out = (
    λ s. ⊎_elim (λ e. absurd (out (subst (Suits t) (sym e) s.suits))) (λ r. record { name = s.name; listed = r; suits = s.suits }) (Contains-cons_cases x xs s.name s.listed),
    λ s. record { name = s.name; listed = Contains-rest x xs s.name s.listed; suits = s.suits },
  )

  -- a name that does not suit is passed over
  pub passed_over : (all left : List Text) (x : Text) (rest : List Text) (b : Bool) → left ≡ x ∷ rest → (IsTrue b ↔ Suits t x) → b ≡ false → SuitsOneOf t all ↔ SuitsOneOf t left → SuitsOneOf t all ↔ SuitsOneOf t rest
  passed_over all left x rest b e says is_false h =
      let out : Suits t x → ⊥ = λ s. true≢false (sym (says.1 s) ∙ is_false) in
      let later = suits_later x rest out in
      let was : SuitsOneOf t all ↔ SuitsOneOf t (x ∷ rest) = subst (λ ys. SuitsOneOf t all ↔ SuitsOneOf t ys) e h in
      (λ s. later.0 (was.0 s), λ s. was.1 (later.1 s))

  -- what the rest answers, where the first does not suit
  pub rest_answers : {E : Type 0} (x : Text) (xs : List Text) (b : Bool) (r : Result Bool E) → (IsTrue b ↔ Suits t x) → b ≡ false → IfOk r (λ a. IsTrue a ↔ SuitsOneOf t xs) → IfOk r (λ a. IsTrue a ↔ SuitsOneOf t (x ∷ xs))
  rest_answers x xs b (Ok a) says is_false h =
      let later = suits_later x xs (λ s. true≢false (sym (says.1 s) ∙ is_false)) in
      (λ y. later.1 (h.0 y), λ s. h.1 (later.0 s))
  rest_answers x xs b (Err e) says is_false h = h
