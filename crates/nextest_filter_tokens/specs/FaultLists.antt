-- Lists of faults.
use Rattle.std.specs.Prelude.{◌≡◌, ◌⊎◌, ℕ, ◌+◌, ◌≤◌, true, not, All, List, [], ◌∷◌, length, map}
use Rattle.std.specs.List.{count_by, filter}
use Rattle.nextest_filter_matchers.specs.declared.source_span.SourceSpan.{SourceSpan}
use Rattle.nextest_filter_tokens.specs.declared.parse_error.ParseSingleError.{ParseSingleError}
use Rattle.nextest_filter_tokens.specs.Faults.{span_of, is_pattern_fault}
use Rattle.nextest_filter_tokens.specs.Bytes.{is_byte, skip}
use Rattle.nextest_filter_tokens.specs.Heads.{head_at}
use Rattle.nextest_filter_tokens.specs.Patterns.{ReadsPattern}
use Rattle.nextest_filter_tokens.specs.declared.heads.Head.TheVariants.{Names}
use Rattle.nextest_filter_tokens.specs.declared.heads.Predicate.{Predicate}

-- how many faults there are but for those of refused patterns
abbrev pub syntax_faults : List ParseSingleError → ℕ
syntax_faults faults = count_by (λ f. not (is_pattern_fault f)) faults

-- where the refused patterns lie, in the order of their faults
abbrev pub pattern_spans : List ParseSingleError → List SourceSpan
pattern_spans faults = map span_of (filter is_pattern_fault faults)

-- how many faults are those of refused patterns
abbrev pub pattern_faults : List ParseSingleError → ℕ
pattern_faults faults = length (pattern_spans faults)

-- the first list is some of the second, in its order
pub data AreSomeOf {A : Type 0} : List A → List A → Type 0 where
  none : AreSomeOf [] []
  kept : {x : A} {xs ys : List A} → AreSomeOf xs ys → AreSomeOf (x ∷ xs) (x ∷ ys)
  left_out : {y : A} {xs ys : List A} → AreSomeOf xs ys → AreSomeOf xs (y ∷ ys)

-- the fault lies within a text of this length
abbrev pub LiesWithin : ℕ → ParseSingleError → Type 0
LiesWithin n fault = (span_of fault).offset + (span_of fault).len ≤ n

-- each fault lies within a text of this length
abbrev pub AreWithin : ℕ → List ParseSingleError → Type 0
AreWithin n faults = All (LiesWithin n) faults

-- after blanks the parenthesis that opens, and j is the place after it; or j is i, where it is missing
abbrev pub IsOpened : List ℕ → ℕ → ℕ → Type 0
IsOpened text i j = (j ≡ i) ⊎ ((is_byte text (skip text i) 40 ≡ true) × (j ≡ skip text i + 1))

-- a matcher begins there: after the name of a predicate, its parenthesis and blanks
pub record BeginsMatcher (text : List ℕ) (at : ℕ) : Type 0 where
  pub start : ℕ
  pub predicate : Predicate
  pub next : ℕ
  pub inner : ℕ
  pub named : head_at text start ≡ Names predicate next
  pub opened : IsOpened text next inner
  pub begins : at ≡ skip text inner

-- the pattern of a matcher lies there: from after the slash that the matcher begins with, up to the one that ends it
pub record IsOverPattern (text : List ℕ) (i j : ℕ) : Type 0 where
  pub slash : ℕ
  pub pattern : List ℕ
  pub begins : BeginsMatcher text slash
  pub stands : is_byte text slash 47 ≡ true
  pub after : i ≡ slash + 1
  pub reads : ReadsPattern text i pattern j

-- a fault of a refused pattern lies over the pattern of a matcher
abbrev pub LiesOver : List ℕ → ParseSingleError → Type 0
LiesOver text fault =
    is_pattern_fault fault ≡ true → IsOverPattern text (span_of fault).offset ((span_of fault).offset + (span_of fault).len)

-- each fault of a refused pattern lies over the pattern of a matcher
abbrev pub AreOver : List ℕ → List ParseSingleError → Type 0
AreOver text faults = All (LiesOver text) faults
