use Rattle.std.proofs.Common.{◌≡◌, ◌≢◌, All, AllPairs, take, true}
use Rattle.std.specs.List.{list_all}
use Rattle.cargo_record.specs.Kept.{owns_targets}
use Rattle.cargo_record.specs.Lines.{AreApart, AreLines, IsDeclaredLink, line_rows}
use Rattle.cargo_record.proofs.lines.all_links.Given as goal

abbrev pub invariant-loop-place : goal.invariant-loop-place
invariant-loop-place l = record {
  lines : AreLines l.index (take l.place l.packages) l.nodes (line_rows l.links.items);
  links : All (IsDeclaredLink (take l.place l.packages)) l.links.items;
  apart : AllPairs (λ p q. p.row.id ≢ q.row.id) l.packages → AreApart l.links.items;
  own : list_all (owns_targets l.index) (take l.place l.packages) ≡ true;
}
