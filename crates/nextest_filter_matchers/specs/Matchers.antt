-- What clauses see of globs and matchers.
use Rattle.std.specs.Prelude.{◌≡◌, ℕ, Bool, true, false, IsTrue, is_some, List, Result, Ok, Err, string_bytes}
use Rattle.regex.specs.Patterns.{find_str}
use Rattle.regex.specs.Strings.{regex_pattern, regex_source}
use Rattle.std.specs.Str.{chars}
use Rattle.std.specs.Str.Iter.{HasSubslice}
use Rattle.std.specs.Cmp.{IsEquivalence}
use Rattle.nextest_filter_matchers.specs.Identities.{Identity, EqualTo, Containing, OfGlob, OfPattern, glob_eq, globs_decide, token_eq, tokens_decide, identity_eq, identities_decide, equivalence_by}
use Rattle.nextest_filter_matchers.specs.Globs as spec
use Rattle.nextest_filter_matchers.specs.Globs.{GlobMatches}
use Rattle.nextest_filter_matchers.specs.GlobReading.{read_glob}
use Rattle.nextest_filter_matchers.specs.GlobViews.{glob_of, token_of}
use Rattle.nextest_filter_matchers.specs.declared.glob_error.GlobError.{GlobError}
use Rattle.nextest_filter_matchers.specs.declared.glob_pattern.Token.{Token}
use Rattle.nextest_filter_matchers.specs.declared.generic_glob.GenericGlob.{GenericGlob}
use Rattle.nextest_filter_matchers.specs.declared.name_matcher.NameMatcher.{NameMatcher}
use Rattle.nextest_filter_matchers.specs.declared.name_matcher.NameMatcher.TheVariants as name

-- the text that a glob was read from
abbrev pub glob_text : GenericGlob → List ℕ
glob_text glob = string_bytes glob.text

-- its tokens
abbrev pub tokens_of : GenericGlob → spec.Glob
tokens_of glob = glob_of glob.pattern

-- the text reads as this glob, or is none for this reason
abbrev pub is_glob_read : List ℕ → Result GenericGlob GlobError → Type 0
is_glob_read text (Ok glob) = (glob_text glob ≡ text) × (read_glob (chars text) ≡ Ok (tokens_of glob))
is_glob_read text (Err error) = read_glob (chars text) ≡ Err error

-- a matcher, with the texts of its parts; of a glob also its tokens
pub data Matcher : Type 0 where
  Equal : List ℕ → Bool → Matcher
  Contains : List ℕ → Bool → Matcher
  Glob : List ℕ → spec.Glob → Bool → Matcher
  Regex : List ℕ → Matcher

-- the matcher as a plain value (from nextest's documents)
abbrev pub matcher_of : NameMatcher → Matcher
matcher_of (name.Equal value implicit) = Equal (string_bytes value) implicit
matcher_of (name.Contains value implicit) = Contains (string_bytes value) implicit
matcher_of (name.Glob glob implicit) = Glob (glob_text glob) (tokens_of glob) implicit
matcher_of (name.Regex regex) = Regex (regex_source regex.value)

abbrev pub is_regex : NameMatcher → Bool
is_regex (name.Equal value implicit) = false
is_regex (name.Contains value implicit) = false
is_regex (name.Glob glob implicit) = false
is_regex (name.Regex regex) = true

-- the matcher matches the name (from nextest's documents)
abbrev pub MatchesName : NameMatcher → List ℕ → Type 0
MatchesName (name.Equal value implicit) n = string_bytes value ≡ n
MatchesName (name.Contains value implicit) n = HasSubslice n (string_bytes value)
MatchesName (name.Glob glob implicit) n = GlobMatches (tokens_of glob) (chars n)
MatchesName (name.Regex regex) n = IsTrue (is_some (find_str (regex_pattern regex.value) n 0))

-- what tells a matcher apart
abbrev pub identity_of : NameMatcher → Identity
identity_of (name.Equal value implicit) = EqualTo (string_bytes value) implicit
identity_of (name.Contains value implicit) = Containing (string_bytes value) implicit
identity_of (name.Glob glob implicit) = OfGlob (tokens_of glob)
identity_of (name.Regex regex) = OfPattern (regex_source regex.value)

-- matchers that nothing tells apart
abbrev pub matcher_eq : NameMatcher → NameMatcher → Bool
matcher_eq a b = identity_eq (identity_of a) (identity_of b)

pub matchers_equivalent : IsEquivalence matcher_eq
matchers_equivalent = equivalence_by identity_of identities_decide

-- the same token
abbrev pub same_token : Token → Token → Bool
same_token a b = token_eq (token_of a) (token_of b)

pub same_tokens_equivalent : IsEquivalence same_token
same_tokens_equivalent = equivalence_by token_of tokens_decide

-- globs with the same tokens
abbrev pub generic_glob_eq : GenericGlob → GenericGlob → Bool
generic_glob_eq a b = glob_eq (tokens_of a) (tokens_of b)

pub generic_globs_equivalent : IsEquivalence generic_glob_eq
generic_globs_equivalent = equivalence_by tokens_of globs_decide
