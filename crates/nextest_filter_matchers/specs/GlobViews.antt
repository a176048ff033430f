-- What clauses see of globs.
use Rattle.std.specs.Prelude.{List, map}
use Rattle.nextest_filter_matchers.specs.Globs as spec
use Rattle.nextest_filter_matchers.specs.declared.glob_pattern.CharacterSet.{CharacterSet}
use Rattle.nextest_filter_matchers.specs.declared.glob_pattern.CharacterSet.TheVariants.{Character, Any, Class}
use Rattle.nextest_filter_matchers.specs.declared.glob_pattern.Token.{Token}
use Rattle.nextest_filter_matchers.specs.declared.glob_pattern.Token.TheVariants.{One, AnyText, LeadingDirectories, InnerDirectories, TrailingDirectories}
use Rattle.nextest_filter_matchers.specs.declared.glob_pattern.Pattern.{Pattern, Sequence, Grouped', Either'}

abbrev pub set_of : CharacterSet → spec.CharacterSet
set_of (Character c) = spec.Character c
set_of Any = spec.Any
set_of (Class is_complement ranges) = spec.Class is_complement ranges.items

abbrev pub token_of : Token → spec.Token
token_of (One set) = spec.One (set_of set)
token_of AnyText = spec.AnyText
token_of LeadingDirectories = spec.LeadingDirectories
token_of InnerDirectories = spec.InnerDirectories
token_of TrailingDirectories = spec.TrailingDirectories

abbrev pub tokens_in : List Token → List spec.Token
tokens_in tokens = map token_of tokens

abbrev pub glob_of : Pattern → spec.Glob
glob_of (Sequence tokens) = spec.tokens_then (tokens_in tokens.items) spec.Empty
glob_of (Grouped' tokens p group q more) = spec.tokens_then (tokens_in tokens.items) (spec.Then (glob_of group) (glob_of more))
glob_of (Either' p a q b) = spec.Either (glob_of a) (glob_of b)
