use Rattle.std.proofs.Common.{◌≡◌, [], filter, take}
use Rattle.guppy_package_parts.specs.Lines.{lists}
use Rattle.guppy_package_parts.proofs.dependency_req.own_text.Given as goal

abbrev pub invariant-loop-line : goal.invariant-loop-line
invariant-loop-line l = filter (lists l.feature) (take l.line-index l.lines) ≡ []
