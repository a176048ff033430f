use Rattle.std.proofs.Common.{filter, subst, sym}
use Rattle.guppy_package_parts.specs.Lines.{is_kind, lists}
use Rattle.guppy_package_parts.specs.RequirementViews.{HasStatus, requirement_lines}
use Rattle.guppy_package_parts.specs.declared.platform_status.PlatformStatus.TheVariants.{Never}
use Rattle.guppy_package_parts.proofs.LineFacts.{filter-none}
use Rattle.guppy_package_parts.proofs.RequirementFacts.{no_status}
use Rattle.guppy_package_parts.proofs.dependency_req.DependencyReq.feature_status.Goals as goal

pub returns-in-Some : goal.returns-in-Some
returns-in-Some c =
    subst (λ feature. HasStatus (filter (lists feature) (requirement_lines c.args.self.now)) c.status_of_part.result) c.in-Some.ensures c.status_of_part.ensures

pub returns-in-None : goal.returns-in-None
returns-in-None c =
    let req = c.args.self.now in
    subst (λ lines. HasStatus lines (record { required = Never; optional = Never })) (sym (filter-none (lists c.args.feature.now) (is_kind req.kind) req.lines.now c.in-None.ensures)) no_status
