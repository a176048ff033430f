use Rattle.std.proofs.Common.{[], arith, Some, ap, ◌∙◌, refl}
use Rattle.cargo_record.specs.Kept.{owns_targets}
use Rattle.cargo_record.proofs.OwnFacts.{all_here, all_next}
use Rattle.std.proofs.lemmas.Option.{slice_get-get_or}
use Rattle.std.proofs.Common.{inl, inr, sym}
use Rattle.cargo_record.proofs.RefusalFacts.{package_refuses}
use Rattle.std.proofs.lemmas.List.Elements.{All-nil}
use Rattle.std.proofs.lemmas.Result.{err_from_is_err_and}
use Rattle.std.proofs.Common.{◌≡◌, Contains, subst}
use Rattle.cargo_record.specs.Lines.{IsDeclaredLink, TakesUp, line_rows}
use Rattle.cargo_record.proofs.ApartFacts.{of_others}
use Rattle.cargo_record.proofs.LinkFacts.{declared_all, declared_next}
use Rattle.cargo_record.proofs.LineFacts.{lines_all, lines_next, no_lines}
use Rattle.cargo_record.proofs.lines.all_links.Goals as goal

pub loop-place-init : goal.loop-place-init
loop-place-init c = record {
  lines = rw c.new-links.ensures.items (no_lines c.args.index.now c.args.nodes.now);
  links = rw c.new-links.ensures.items (All-nil (IsDeclaredLink []));
  apart = rw c.new-links.ensures.items (λ differ j k d lt inside. absurd (omega arith));
  own = refl;
}

pub loop-place-preserved : goal.loop-place-preserved
loop-place-preserved c =
    let mid = line_rows c.loop-place.links.items in
    let new = line_rows c.push_links.new.links.items in
    let node = c.in_ok-node.node.now in
    record {
      lines = lines_next c.args.index.now c.args.nodes.now c.args.packages.now c.loop-place.place c.index-packages-place.result node mid new c.loop-place-test.true c.loop-place.invariant.lines (subst (λ x. TakesUp c.args.index.now x node x.dependencies mid new) c.index-packages-place.is c.in_ok-push_links.ensures.taken) (subst (λ x. Contains c.args.nodes.now node × (node.id ≡ x.row.id)) c.index-packages-place.is c.in_ok-node.ensures.node);
      links = declared_next c.args.packages.now c.loop-place.place c.index-packages-place.result c.loop-place.links.items c.push_links.new.links.items c.loop-place-test.true c.index-packages-place.is c.in_ok-push_links.ensures.declared c.loop-place.invariant.links;
      apart = λ differ. c.in_ok-push_links.ensures.apart (of_others c.args.packages.now c.loop-place.place c.index-packages-place.result c.loop-place.links.items c.loop-place-test.true c.index-packages-place.is differ c.loop-place.invariant.links) (c.loop-place.invariant.apart differ);
      own = all_next (owns_targets c.args.index.now) c.args.packages.now c.loop-place.place c.index-packages-place.result c.loop-place-test.true c.index-packages-place.is c.loop-place.invariant.own c.in_ok-check_targets.ensures.own;
    }

pub returns-clause-own : goal.returns-clause-own
returns-clause-own c = all_here (owns_targets c.args.index.now) c.args.packages.now c.loop-place.place c.loop-place-test.false c.loop-place.invariant.own

pub returns-clause-links : goal.returns-clause-links
returns-clause-links c = declared_all c.args.packages.now c.loop-place.place c.loop-place.links.items c.loop-place-test.false c.loop-place.invariant.links

pub returns-clause-lines : goal.returns-clause-lines
returns-clause-lines c =
    lines_all c.args.index.now c.args.nodes.now c.args.packages.now c.loop-place.place (line_rows c.loop-place.links.items) c.loop-place-test.false c.loop-place.invariant.lines

pub returns-in_err-check_targets-clause-refused : goal.returns-in_err-check_targets-clause-refused
returns-in_err-check_targets-clause-refused c =
    let p = err_from_is_err_and c.from_residual.result c.from_residual.ensures.1 in
    rw (p.1, p.2) (package_refuses c.args.index.now c.args.packages.now c.args.nodes.now c.index-packages-place.result _ (c.loop-place.place, c.loop-place-test.true, sym c.index-packages-place.is) (inl c.in_err-check_targets.ensures.refused))

pub returns-in_err-node-clause-refused : goal.returns-in_err-node-clause-refused
returns-in_err-node-clause-refused c =
    let p = err_from_is_err_and c.from_residual-in_err-node.result c.from_residual-in_err-node.ensures.1 in
    rw (p.1, p.2) (c.in_err-node.ensures.refused c.args.index.now c.args.packages.now (slice_get-get_or c.args.packages.now c.loop-place.place c.index-packages-place.result c.loop-place-test.true ∙ ap Some (sym c.index-packages-place.is)))

pub returns-in_err-push_links-clause-refused : goal.returns-in_err-push_links-clause-refused
returns-in_err-push_links-clause-refused c =
    let p = err_from_is_err_and c.from_residual-in_err-push_links.result c.from_residual-in_err-push_links.ensures.1 in
    rw (p.1, p.2) (package_refuses c.args.index.now c.args.packages.now c.args.nodes.now c.index-packages-place.result _ (c.loop-place.place, c.loop-place-test.true, sym c.index-packages-place.is) (inr (c.in_ok-node.node.now, c.in_ok-node.ensures.node.0, c.in_ok-node.ensures.node.1, c.in_err-push_links.ensures.refused)))
