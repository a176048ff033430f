use Rattle.std.proofs.Common.{◌≡◌, ◌∙◌, ◌++◌, ◌∷◌, [], sym, ap, arith, refl, rules}
use Rattle.std.proofs.lemmas.List.{map-append}
use Rattle.nextest_filter_matchers.specs.Globs.{Character, One}
use Rattle.nextest_filter_matchers.specs.GlobReading.{Closes, Ends, Fails, Opens, Separates, Stands, piece_of}
use Rattle.nextest_filter_matchers.specs.GlobViews.{token_of, tokens_in}
use Rattle.nextest_filter_matchers.specs.ReadingViews.{OnExit, AtFault, AtGroup, piece_view}
use Rattle.nextest_filter_matchers.proofs.ReadingFacts.{run_ends, run_on}
use Rattle.nextest_filter_matchers.specs.declared.glob_pattern.CharacterSet.TheVariants.{Character as Comma}
use Rattle.nextest_filter_matchers.specs.declared.glob_pattern.Token.TheVariants as code
use Rattle.nextest_filter_matchers.specs.declared.glob_error.GlobError.TheVariants.{UnclosedAlternates, UnopenedAlternates}
use Rattle.nextest_filter_matchers.proofs.glob_reading.run.Goals as goal

pub returns-in-Comma-2-clause-reads : goal.returns-in-Comma-2-clause-reads
returns-in-Comma-2-clause-reads c =
    let at = c.loop-left in
    let piece : piece_of at.is_front at.rest.now ≡ Separates c.in-Comma-2.field-0.now = sym c.in_ok-token.ensures ∙ ap piece_view c.in-Comma-2.is in
    let inside = c.if-not-is_inside.false in
    run_ends at.left at.is_front c.args.is_inside at.rest.now (tokens_in at.tokens.items) (OnExit at.rest.now) _ (λ e. omega (arith, e, c.loop-left-test.true)) (rw (piece, inside) refl) at.invariant.reads

pub returns-in-Open-clause-reads : goal.returns-in-Open-clause-reads
returns-in-Open-clause-reads c =
    let at = c.loop-left in
    let piece : piece_of at.is_front at.rest.now ≡ Opens c.in-Open.more.now = sym c.in_ok-token.ensures ∙ ap piece_view c.in-Open.is in
    run_ends at.left at.is_front c.args.is_inside at.rest.now (tokens_in at.tokens.items) (AtGroup c.in-Open.more.now) _ (λ e. omega (arith, e, c.loop-left-test.true)) (rw piece refl) at.invariant.reads

pub returns-in-End-2-clause-reads : goal.returns-in-End-2-clause-reads
returns-in-End-2-clause-reads c =
    let at = c.loop-left in
    let piece : piece_of at.is_front at.rest.now ≡ Ends = sym c.in_ok-token.ensures ∙ ap piece_view c.in-End-2.is in
    let inside = c.if-not-is_inside-2.false in
    run_ends at.left at.is_front c.args.is_inside at.rest.now (tokens_in at.tokens.items) (AtFault UnclosedAlternates) _ (λ e. omega (arith, e, c.loop-left-test.true)) (rw (piece, inside) refl) at.invariant.reads

pub returns-in-Close-clause-reads : goal.returns-in-Close-clause-reads
returns-in-Close-clause-reads c =
    let at = c.loop-left in
    let piece : piece_of at.is_front at.rest.now ≡ Closes c.in-Close.field-0.now = sym c.in_ok-token.ensures ∙ ap piece_view c.in-Close.is in
    let inside = c.if-is_inside.true in
    run_ends at.left at.is_front c.args.is_inside at.rest.now (tokens_in at.tokens.items) (OnExit at.rest.now) _ (λ e. omega (arith, e, c.loop-left-test.true)) (rw (piece, inside) refl) at.invariant.reads

pub returns-in-Close-2-clause-reads : goal.returns-in-Close-2-clause-reads
returns-in-Close-2-clause-reads c =
    let at = c.loop-left in
    let piece : piece_of at.is_front at.rest.now ≡ Closes c.in-Close-2.field-0.now = sym c.in_ok-token.ensures ∙ ap piece_view c.in-Close-2.is in
    let inside = c.if-is_inside.false in
    run_ends at.left at.is_front c.args.is_inside at.rest.now (tokens_in at.tokens.items) (AtFault UnopenedAlternates) _ (λ e. omega (arith, e, c.loop-left-test.true)) (rw (piece, inside) refl) at.invariant.reads

pub returns-in-Bad-clause-reads : goal.returns-in-Bad-clause-reads
returns-in-Bad-clause-reads c =
    let at = c.loop-left in
    let piece : piece_of at.is_front at.rest.now ≡ Fails c.in-Bad.error = sym c.in_ok-token.ensures ∙ ap piece_view c.in-Bad.is in
    run_ends at.left at.is_front c.args.is_inside at.rest.now (tokens_in at.tokens.items) (AtFault c.in-Bad.error) _ (λ e. omega (arith, e, c.loop-left-test.true)) (rw piece refl) at.invariant.reads

pub loop-left-preserved-in_ok-push-in-Stands : goal.loop-left-preserved-in_ok-push-in-Stands
loop-left-preserved-in_ok-push-in-Stands c =
    let at = c.loop-left in
    let piece : piece_of at.is_front at.rest.now ≡ Stands (token_of c.in-Stands.token) c.in-Stands.more.now = sym c.in_ok-token.ensures ∙ ap piece_view c.in-Stands.is in
    let items : c.push.new.self.items ≡ at.tokens.items ++ c.in-Stands.token ∷ [] = search rules in
    let pushed = ap tokens_in items ∙ map-append token_of at.tokens.items (c.in-Stands.token ∷ []) in
    record {
      reads = run_on at.left at.is_front c.args.is_inside at.rest.now c.in-Stands.more.now (tokens_in at.tokens.items) _ (token_of c.in-Stands.token) _ (λ e. omega (arith, e, c.loop-left-test.true)) (rw piece refl) pushed at.invariant.reads;
      fewer = omega (arith, at.invariant.fewer);
    }

pub loop-left-preserved : goal.loop-left-preserved
loop-left-preserved c =
    let at = c.loop-left in
    let piece : piece_of at.is_front at.rest.now ≡ Separates c.in-Comma.more.now = sym c.in_ok-token.ensures ∙ ap piece_view c.in-Comma.is in
    let items : c.push-in-Comma.new.self.items ≡ at.tokens.items ++ (code.One (Comma 44)) ∷ [] = search rules in
    let pushed = ap tokens_in items ∙ map-append token_of at.tokens.items ((code.One (Comma 44)) ∷ []) in
    let inside = c.if-not-is_inside.true in
    record {
      reads = run_on at.left at.is_front c.args.is_inside at.rest.now c.in-Comma.more.now (tokens_in at.tokens.items) _ (One (Character 44)) _ (λ e. omega (arith, e, c.loop-left-test.true)) (rw (piece, inside) refl) pushed at.invariant.reads;
      fewer = omega (arith, at.invariant.fewer);
    }
