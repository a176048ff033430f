use Rattle.std.proofs.Common.{◌≡◌, [], ◌∷◌, ◌∙◌, ap, length, refl, rules, subst, sym}
use Rattle.std.proofs.lemmas.Result.{err_from_is_err_and}
use Rattle.cargo_record.specs.Lines.{TakesUp, line_rows}
use Rattle.cargo_record.proofs.ApartFacts.{apart_from}
use Rattle.cargo_record.proofs.LineFacts.{takes_all, takes_next, takes_no_dependencies}
use Rattle.cargo_record.proofs.RefusalFacts.{one_refuses}
use Rattle.cargo_record.proofs.lines.push_links.Goals as goal

pub loop-dependency-init : goal.loop-dependency-init
loop-dependency-init c = record { taken = takes_no_dependencies c.args.index.now c.args.«package».now c.args.node.now (line_rows c.args.links.now.items); declared = λ packages here all. all; apart = λ apart. apart }

pub loop-dependency-preserved : goal.loop-dependency-preserved
loop-dependency-preserved c =
    let p = c.args.«package».now in
    let mid = line_rows c.loop-dependency.links.items in
    let new = line_rows c.push_dependency.new.links.items in
    let all : c.deref-dependency-items.result.now ≡ c.args.«package».now.dependencies = c.deref-dependency-items.ensures.value ∙ ap (λ p. p.dependencies) c.«package».view_is in
    let lt = rw all at c.loop-dependency-test.true in
    let is = rw all at c.dependency-item.is in
    record {
      taken = takes_next c.args.index.now p c.args.node.now p.dependencies c.loop-dependency.dependency-index c.dependency-item.result (line_rows c.args.links.now.items) mid new lt c.loop-dependency.invariant.taken (subst (λ x. TakesUp c.args.index.now p c.args.node.now (x ∷ []) mid new) is c.in_ok-push_dependency.ensures.taken);
      declared = λ packages here old. c.in_ok-push_dependency.ensures.declared packages p here refl (c.loop-dependency.dependency-index, lt, sym is) (c.loop-dependency.invariant.declared packages here old);
      apart = λ apart. c.in_ok-push_dependency.ensures.apart (c.loop-dependency.invariant.apart apart);
    }

pub returns-clause-taken : goal.returns-clause-taken
returns-clause-taken c =
    let all : c.deref-dependency-items.result.now ≡ c.args.«package».now.dependencies = c.deref-dependency-items.ensures.value ∙ ap (λ p. p.dependencies) c.«package».view_is in
    takes_all c.args.index.now c.args.«package».now c.args.node.now c.args.«package».now.dependencies c.loop-dependency.dependency-index (line_rows c.args.links.now.items) (line_rows c.loop-dependency.links.items) (rw all at c.loop-dependency-test.false) c.loop-dependency.invariant.taken

pub returns-clause-apart : goal.returns-clause-apart
returns-clause-apart c = λ others apart.
    let start : c.len-start.result ≡ length c.args.links.now.items = search rules in
    (c.loop-dependency.invariant.apart (apart_from c.args.«package».now.row.id c.args.links.now.items c.len-start.result start others apart)).apart

pub returns-in_err-push_dependency-clause-refused : goal.returns-in_err-push_dependency-clause-refused
returns-in_err-push_dependency-clause-refused c =
    let p = err_from_is_err_and c.from_residual.result c.from_residual.ensures.1 in
    let all : c.deref-dependency-items.result.now ≡ c.args.«package».now.dependencies = c.deref-dependency-items.ensures.value ∙ ap (λ p. p.dependencies) c.«package».view_is in
    let refused = c.in_err-push_dependency.ensures.refused in
    rw (p.1, p.2) (one_refuses c.args.index.now c.args.«package».now.row.id c.args.node.now.dependencies c.args.«package».now.dependencies c.dependency-item.result _ (c.loop-dependency.dependency-index, rw all at c.loop-dependency-test.true, sym (rw all at c.dependency-item.is)) refused.0 refused.1)
