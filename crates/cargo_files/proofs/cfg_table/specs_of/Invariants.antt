use Rattle.std.proofs.Common.{◌≡◌, ◌++◌, map, take, flat_map}
use Rattle.cargo_files.specs.TableAnswers.{spec_in, specs_of}
use Rattle.cargo_files.proofs.cfg_table.specs_of.Given as goal

abbrev pub invariant-loop-link : goal.invariant-loop-link
invariant-loop-link l = map (λ s. s.now) l.specs.items ≡ specs_of (take l.link-index l.links)

abbrev pub invariant-loop-line : goal.invariant-loop-line
invariant-loop-line l =
    map (λ s. s.now) l.specs.items ≡ map (λ s. s.now) l.initial.specs.items ++ flat_map (λ line. spec_in line.spec) (take l.line-index l.line-items)
