use Rattle.std.proofs.Common.{map, subst, sym, ap, ◌∙◌, ◌++◌, ◌∷◌, Contains}
use Rattle.std.specs.Str.{IsUtf8}
use Rattle.test_select_c.proofs.PieceFacts.{SoFar, has_some, is_nothing, is_something, no_text, no_word, pushed, read_all, read_more, read_none, same_word, unended}
use Rattle.test_select_c.proofs.pieces.words_of.Goals as goal

pub loop-word-preserved : goal.loop-word-preserved
loop-word-preserved c =
    let bytes = c.args.bytes.now in
    let cut = c.in-Some.ensures.some in
    let text = c.in-Ok.ensures.cases in
    subst (λ xs. SoFar same_word no_word bytes xs c.in-Some.behind.now) (pushed (λ word. word.now) c.loop-word.words.items c.push.new.self.items _ c.in_ok-push.ensures.items)
    (read_more same_word no_word bytes c.loop-word.rest.now c.in-Some.behind.now (map (λ word. word.now) c.loop-word.words.items) c.in-Ok.word.now c.loop-word.invariant (record { whole = cut.0 ∙ ap (λ word. word ++ 0 ∷ c.in-Some.behind.now) (sym text.0); ended = subst (λ word. Contains word 0 → ⊥) (sym text.0) cut.1; text = subst IsUtf8 (sym text.0) text.1 }))

pub returns-in_default-from_utf8 : goal.returns-in_default-from_utf8
returns-in_default-from_utf8 c =
    let cut = c.in-Some.ensures.some in
    let rest = c.loop-word.rest.now in
    let word = c.in-Some.word.now in
    let behind = c.in-Some.behind.now in
    read_none same_word no_word c.args.bytes.now rest (map (λ word. word.now) c.loop-word.words.items) c.loop-word.invariant (has_some rest word behind cut.0) (no_text rest word behind cut.0 cut.1 c.in_default-from_utf8.ensures.cases.0)

pub returns-then-not-is_empty : goal.returns-then-not-is_empty
returns-then-not-is_empty c =
    read_none same_word no_word c.args.bytes.now c.loop-word.rest.now (map (λ word. word.now) c.loop-word.words.items) c.loop-word.invariant (is_something c.loop-word.rest.now (sym c.if-not-is_empty.true ∙ c.is_empty.ensures)) (unended c.loop-word.rest.now c.in_default.ensures.none)

pub returns : goal.returns
returns c =
    read_all same_word no_word c.args.bytes.now (map (λ word. word.now) c.loop-word.words.items) (subst (SoFar same_word no_word c.args.bytes.now (map (λ word. word.now) c.loop-word.words.items)) (is_nothing c.loop-word.rest.now (sym c.if-not-is_empty.false ∙ c.is_empty.ensures)) c.loop-word.invariant)
