use Rattle.std.proofs.Common.{sym, ◌∙◌, true≢false}
use Rattle.nextest_binaries.proofs.LineFeeds.{line_feed_found, no_line_feed}
use Rattle.nextest_binaries.proofs.listing.fault_of.Goals as goal

pub returns-then-has_line_feed : goal.returns-then-has_line_feed
returns-then-has_line_feed c = line_feed_found c.args.names.now (sym c.has_line_feed.ensures ∙ c.if-has_line_feed.true)

pub returns-then-branch : goal.returns-then-branch
returns-then-branch c =
    (no_line_feed c.args.names.now (sym c.has_line_feed.ensures ∙ c.if-has_line_feed.false), c.in_ok-has_repeat.ensures.0 c.if-branch.true)

pub returns : goal.returns
returns c = record {
  one_line = no_line_feed c.args.names.now (sym c.has_line_feed.ensures ∙ c.if-has_line_feed.false);
  distinct = λ h. true≢false (sym (c.in_ok-has_repeat.ensures.1 h) ∙ c.if-branch.false);
}
