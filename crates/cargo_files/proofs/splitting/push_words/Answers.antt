use Rattle.std.proofs.Common.{rules, ℕ, Bor, ◌∷◌, [], List, map, sym, ap, ◌∙◌, refl}
use Rattle.std.proofs.lemmas.List.{map-append, append-nil}
use Rattle.std.proofs.lemmas.List.Sorted.{answers_always}
use Rattle.std.specs.Str.Iter.{split_has_more, split_text}
use Rattle.cargo_files.proofs.PartingFacts.{cut_next, kept_next, nothing_cut}
use Rattle.cargo_files.proofs.splitting.push_words.Goals as goal

abbrev texts : List (Bor (List ℕ)) → List (List ℕ)
texts bs = map (λ t. t.now) bs

pub loop-piece-init : goal.loop-piece-init
loop-piece-init c =
    let items = c.into_iter-piece-iterator.ensures.into_iter_gives in
    record {
      cut = nothing_cut _ _ _ (ap split_has_more items ∙ c.split-piece-items.ensures.has_more) (ap split_text items ∙ c.split-piece-items.ensures.text);
      kept = sym (append-nil _);
    }

pub loop-piece-preserved : goal.loop-piece-preserved
loop-piece-preserved c =
    let steps = c.in-Some.ensures.steps in
    let seen = map-append (λ t. t.now) c.loop-piece.yielded (c.in-Some.piece ∷ []) in
    rw seen (record {
      cut = cut_next _ _ _ _ (c.loop-piece.invariant.cut.going (sym steps.0)) _ _ _ (answers_always _ _ _ (λ f a r g called. search rules)) steps.1.1;
      kept = kept_next (texts c.loop-piece.words.items) (texts c.push_word.new.words.items) (texts c.args.words.now.items) (texts c.loop-piece.yielded) c.in-Some.piece.now c.loop-piece.invariant.kept c.in_ok-push_word.ensures;
    })

pub returns : goal.returns
returns c =
    let none = c.in-None.ensures.steps in
    (_, record { pieces = map (λ t. t.now) c.loop-piece.yielded; cut = c.loop-piece.invariant.cut.done (sym none.0); kept = refl }, c.loop-piece.invariant.kept)
