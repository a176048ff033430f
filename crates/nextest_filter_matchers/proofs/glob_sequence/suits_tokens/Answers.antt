use Rattle.std.proofs.Common.{◌↔◌, IsTrue, rules}
use Rattle.std.specs.Str.{chars}
use Rattle.nextest_filter_matchers.specs.GlobViews.{tokens_in}
use Rattle.nextest_filter_matchers.specs.Sequences.{SuitsTokens}
use Rattle.nextest_filter_matchers.proofs.SequenceFacts.{first_stop}
use Rattle.nextest_filter_matchers.proofs.TokenFacts.{tokens_match}
use Rattle.nextest_filter_matchers.proofs.glob_sequence.suits_tokens.Goals as goal

pub loop-stop-init : goal.loop-stop-init
loop-stop-init c =
    let found = first_stop c.stop_after-stop.result (tokens_in c.args.tokens.now) (chars c.args.text.now) c.requires c.stop_after-stop.ensures.none c.stop_after-stop.ensures.some in
    record { suits = found.0; lacks = found.1 }

pub returns : goal.returns
returns c =
    let found : IsTrue c.is_some.result ↔ SuitsTokens (tokens_in c.args.tokens.now) (chars c.args.text.now) = search rules in
    let all = tokens_match (tokens_in c.args.tokens.now) (chars c.args.text.now) in
    (λ h. all.0 (found.0 h), λ h. found.1 (all.1 h))
