use Rattle.std.proofs.Common.{◌≡◌, Ok, map, take}
use Rattle.std.specs.Str.{chars}
use Rattle.nextest_filter_matchers.specs.GlobReading.{read_glob}
use Rattle.nextest_filter_matchers.specs.Matchers.{tokens_of}
use Rattle.test_select.proofs.changes.globs_of.Given as goal

abbrev pub invariant-loop-text : goal.invariant-loop-text
invariant-loop-text l = map (λ text. read_glob (chars text.now)) (take l.text-index l.texts) ≡ map (λ glob. Ok (tokens_of glob)) l.globs.items
