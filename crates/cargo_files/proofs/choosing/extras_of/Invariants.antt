use Rattle.std.proofs.Common.{◌≡◌, map, take}
use Rattle.cargo_files.specs.Meaning.{AllMean, meant_by}
use Rattle.cargo_files.proofs.choosing.extras_of.Given as goal

abbrev pub invariant-loop-word : goal.invariant-loop-word
invariant-loop-word l = record {
  extras : l.extras.items ≡ meant_by l.index (map (λ t. t.now) (take l.word-index l.words));
  known : AllMean l.index (map (λ t. t.now) (take l.word-index l.words));
}
