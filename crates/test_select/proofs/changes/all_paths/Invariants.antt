use Rattle.std.proofs.Common.{◌≡◌, ◌++◌, map}
use Rattle.test_select.proofs.changes.all_paths.Given as goal

abbrev pub invariant-loop-line : goal.invariant-loop-line
invariant-loop-line l = map (λ path. path.now) l.paths.items ≡ map (λ path. path.now) l.initial.paths.items ++ map (λ line. line.now) l.yielded
