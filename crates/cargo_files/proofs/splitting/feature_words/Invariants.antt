use Rattle.std.proofs.Common.{map, take}
use Rattle.cargo_files.specs.Parting.{AreWordsOf}
use Rattle.cargo_files.proofs.splitting.feature_words.Given as goal

abbrev pub invariant-loop-list : goal.invariant-loop-list
invariant-loop-list l = AreWordsOf (map (λ t. t.now) (take l.list-index l.lists)) (map (λ t. t.now) l.words.items)
