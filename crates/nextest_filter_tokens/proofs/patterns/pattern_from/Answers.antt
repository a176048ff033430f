use Rattle.std.proofs.Common.{◌++◌, ◌∷◌, [], ◌∙◌, sym, ap, subst, ◌+◌, string_bytes, arith}
use Rattle.nextest_filter_tokens.specs.Patterns.{ReadsPattern}
use Rattle.nextest_filter_tokens.proofs.PatternFacts.{IsPart, run_between, part_closed, part_open, escape_here, slash_taken, slash_within, boundary_after_slash}
use Rattle.nextest_filter_tokens.proofs.patterns.pattern_from.Goals as goal

pub loop-pattern-preserved : goal.loop-pattern-preserved
loop-pattern-preserved c =
    let text = c.args.text.now in
    let end = c.run_end-end.result in
    let escape = escape_here text end c.run_end-end.ensures.stops (omega arith) (sym c.has_byte.ensures ∙ c.if-has_byte.false) in
    let run = run_between text c.args.at c.loop-pattern.place end (string_bytes c.loop-pattern.pattern) c.run_end-end.ensures.rises c.run_end-end.ensures.plain c.loop-pattern.invariant.part in
    let bytes = c.in_ok-push.ensures.bytes ∙ ap (λ t. string_bytes c.push_str.new.self ++ t) (c.in_ok-push.ensures.ascii (omega arith)) ∙ ap (λ t. t ++ 47 ∷ []) (c.in_ok-push_str.ensures.bytes ∙ ap (λ t. string_bytes c.loop-pattern.pattern ++ t) c.range.ensures.value) in
    record {
      low = omega (arith, c.run_end-end.ensures.rises, c.loop-pattern.invariant.low);
      high = slash_within text end escape;
      boundary = boundary_after_slash text end c.utf8.text escape;
      part = subst (λ v. IsPart text c.args.at (end + 2) v) (sym bytes) (slash_taken text c.args.at end _ escape run);
    }

pub returns-then-has_byte-clause-read : goal.returns-then-has_byte-clause-read
returns-then-has_byte-clause-read c =
    let text = c.args.text.now in
    let end = c.run_end-end.result in
    let run = run_between text c.args.at c.loop-pattern.place end (string_bytes c.loop-pattern.pattern) c.run_end-end.ensures.rises c.run_end-end.ensures.plain c.loop-pattern.invariant.part in
    let bytes = c.in_ok-push_str.ensures.bytes ∙ ap (λ t. string_bytes c.loop-pattern.pattern ++ t) c.range.ensures.value in
    subst (λ v. ReadsPattern text c.args.at v end) (sym bytes) (part_closed text c.args.at end _ (sym c.has_byte.ensures ∙ c.if-has_byte.true) run)

pub returns-then-end-text-clause-unread : goal.returns-then-end-text-clause-unread
returns-then-end-text-clause-unread c =
    let text = c.args.text.now in
    let end = c.run_end-end.result in
    let run = run_between text c.args.at c.loop-pattern.place end (string_bytes c.loop-pattern.pattern) c.run_end-end.ensures.rises c.run_end-end.ensures.plain c.loop-pattern.invariant.part in
    part_open text c.args.at end _ c.if-end-text.true run
