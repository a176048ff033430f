use Rattle.std.proofs.Common.{List, All, Contains, take}
use Rattle.cargo_metadata.specs.Packages.{Declaring}
use Rattle.cargo_record.specs.Lines.{AreApartFrom, IsDeclaredLink, TakesUp, line_rows}
use Rattle.cargo_record.proofs.lines.push_links.Given as goal

abbrev pub invariant-loop-dependency : goal.invariant-loop-dependency
invariant-loop-dependency l = record {
  taken : TakesUp l.index l.«package» l.node (take l.dependency-index l.«package».dependencies) (line_rows l.fn.links.items) (line_rows l.links.items);
  declared : (packages : List Declaring) → Contains packages l.«package» → All (IsDeclaredLink packages) l.fn.links.items → All (IsDeclaredLink packages) l.links.items;
  apart : AreApartFrom l.start l.«package».row.id l.fn.links.items → AreApartFrom l.start l.«package».row.id l.links.items;
}
