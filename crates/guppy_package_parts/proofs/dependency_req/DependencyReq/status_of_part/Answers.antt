use Rattle.std.proofs.Common.{subst, sym}
use Rattle.guppy_package_parts.specs.Lines.{is_kind, is_optional, is_required}
use Rattle.guppy_package_parts.specs.LineViews.{is_in_part}
use Rattle.guppy_package_parts.specs.Statuses.{IsStatusOf, specs_of}
use Rattle.guppy_package_parts.specs.StatusViews.{status_view}
use Rattle.guppy_package_parts.proofs.LineFacts.{filter-filter-filter}
use Rattle.guppy_package_parts.proofs.dependency_req.DependencyReq.status_of_part.Goals as goal

pub returns : goal.returns
returns c =
    let req = c.args.self.now in
    let part = is_in_part c.args.part in
    record {
      required = subst (λ lines. IsStatusOf (specs_of lines) (status_view c.of.result)) (sym (filter-filter-filter is_required part (is_kind req.kind) req.lines.now)) c.of.ensures;
      optional = subst (λ lines. IsStatusOf (specs_of lines) (status_view c.of-2.result)) (sym (filter-filter-filter is_optional part (is_kind req.kind) req.lines.now)) c.of-2.ensures;
    }
