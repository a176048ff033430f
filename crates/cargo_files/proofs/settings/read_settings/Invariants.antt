use Rattle.std.proofs.Common.{◌++◌, ◌-◌, List, length}
use Rattle.cargo_files.specs.Printed.{AreSettings, BeginsLine}
use Rattle.cargo_files.specs.Settings.{Setting}
use Rattle.cargo_files.proofs.settings.read_settings.Given as goal

abbrev pub invariant-loop-at : goal.invariant-loop-at
invariant-loop-at l = record {
  read : (ys : List Setting) → AreSettings l.text l.at ys → AreSettings l.text 0 (l.settings.items ++ ys);
  begins : BeginsLine l.text l.at;
  only : (xs : List Setting) → AreSettings l.text 0 xs → (ys : List Setting) × AreSettings l.text l.at ys;
}

abbrev pub decreases-loop-at : goal.decreases-loop-at
decreases-loop-at l = length l.text - l.at
