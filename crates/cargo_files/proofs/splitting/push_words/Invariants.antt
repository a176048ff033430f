use Rattle.std.proofs.Common.{◌≡◌, ◌++◌, filter, map}
use Rattle.std.specs.Str.Iter.{split_has_more, split_text}
use Rattle.cargo_files.specs.Parting.{is_word}
use Rattle.cargo_files.proofs.PartingFacts.{CutSoFar}
use Rattle.cargo_files.proofs.splitting.push_words.Given as goal

abbrev pub invariant-loop-piece : goal.invariant-loop-piece
invariant-loop-piece l = record {
  cut : CutSoFar l.list (split_has_more l.piece-iterator) (split_text l.piece-iterator) (map (λ t. t.now) l.yielded);
  kept : map (λ t. t.now) l.words.items ≡ map (λ t. t.now) l.initial.words.items ++ filter is_word (map (λ t. t.now) l.yielded);
}
