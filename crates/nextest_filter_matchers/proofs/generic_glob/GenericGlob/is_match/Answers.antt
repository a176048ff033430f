use Rattle.std.proofs.Common.{◌≡◌, ◌↔◌, IsTrue, string_bytes, ap, rules}
use Rattle.std.specs.Str.{chars}
use Rattle.nextest_filter_matchers.specs.GlobViews.{glob_of, tokens_in}
use Rattle.nextest_filter_matchers.specs.Globs.{Empty}
use Rattle.nextest_filter_matchers.specs.Identities.{to_read, to_spelled}
use Rattle.nextest_filter_matchers.proofs.FrontFacts.{front_tokens, read_in_front}
use Rattle.nextest_filter_matchers.proofs.WalkFacts.{plain_matches}
use Rattle.nextest_filter_matchers.proofs.generic_glob.GenericGlob.is_match.Goals as goal

pub returns-then-self : goal.returns-then-self
returns-then-self c =
    let glob = c.args.self.now in
    let same : IsTrue c.eq.result ↔ (string_bytes glob.text ≡ c.args.text.now) = search rules in
    plain_matches c.args.text.now (string_bytes glob.text) _ _ c.utf8.text (search rules) (to_spelled _ _ _ c.if-self.true glob.is_spelled) same

pub suits_tokens-requires : goal.suits_tokens-requires
suits_tokens-requires c =
    let glob = c.args.self.now in
    let front = read_in_front (chars (string_bytes glob.text)) (glob_of glob.pattern) (to_read _ _ glob.has_tokens) in
    rw (ap tokens_in c.deref.ensures.value) (front_tokens (tokens_in c.in-Sequence-default.tokens.items) Empty (rw (ap glob_of c.in-Sequence-default.is-0) at front))

pub parts_match-requires : goal.parts_match-requires
parts_match-requires c =
    let glob = c.args.self.now in
    read_in_front (chars (string_bytes glob.text)) (glob_of glob.pattern) (to_read _ _ glob.has_tokens)
