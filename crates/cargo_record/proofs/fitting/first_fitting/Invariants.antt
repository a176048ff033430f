use Rattle.std.proofs.Common.{◌≡◌, false, take}
use Rattle.std.specs.List.{list_any}
use Rattle.cargo_record.specs.Fitting.{fits}
use Rattle.cargo_record.proofs.fitting.first_fitting.Given as goal

abbrev pub invariant-loop-entry : goal.invariant-loop-entry
invariant-loop-entry l = list_any (fits l.index l.dependency) (take l.entry-index l.entries) ≡ false
