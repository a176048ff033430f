use Rattle.std.proofs.Common.{◌-◌, ◌∙◌, length, take, sym, subst, arith}
use Rattle.std.proofs.lemmas.List.{length-map, take-map}
use Rattle.test_select_changes.specs.PartViews.{lent_parts}
use Rattle.test_select_changes.proofs.InnermostFacts.{IsSearched, found_last, found_some, none_by, shorter, some_by, starts}
use Rattle.test_select_changes.proofs.innermost.innermost.Goals as goal

pub loop-found-init : goal.loop-found-init
loop-found-init c =
    let folders = c.args.folders.now in
    let path = lent_parts c.args.parts.now in
    let found = c.folders_at-found.result.now in
    (omega arith, subst (λ n. IsSearched folders path n found) (length-map c.args.parts.now (λ part. part.now)) (starts folders path found c.folders_at-found.ensures))

pub loop-found-preserved : goal.loop-found-preserved
loop-found-preserved c =
    let size = c.loop-found.length in
    let was = c.loop-found.invariant in
    let within = was.0 in
    let old = c.loop-found.found.now in
    let key = lent_parts (take (size - 1) c.args.parts.now) in
    let empty = none_by (length old) (sym c.is_empty.ensures ∙ c.loop-found-test.true) in
    (omega (arith, within), shorter c.args.folders.now (lent_parts c.args.parts.now) size old c.folders_at-found-in-loop-found.result.now key was.1 empty c.if-length-gt0.true (sym (take-map (λ part. part.now) (size - 1) c.args.parts.now)) c.folders_at-found-in-loop-found.ensures)

pub returns-else-length-gt0 : goal.returns-else-length-gt0
returns-else-length-gt0 c =
    let was = c.loop-found.invariant in
    let within = was.0 in
    let sized = length-map c.args.parts.now (λ part. part.now) in
    let none = c.if-length-gt0.false in
    found_last c.args.folders.now (lent_parts c.args.parts.now) c.loop-found.length c.loop-found.found.now was.1 (omega (arith, within, sized)) (omega (arith, none))

pub returns-after-loop-found : goal.returns-after-loop-found
returns-after-loop-found c =
    let was = c.loop-found.invariant in
    let within = was.0 in
    let sized = length-map c.args.parts.now (λ part. part.now) in
    found_some c.args.folders.now (lent_parts c.args.parts.now) c.loop-found.length c.loop-found.found.now was.1 (omega (arith, within, sized)) (some_by (length c.loop-found.found.now) (sym c.is_empty.ensures ∙ c.loop-found-test.false))
