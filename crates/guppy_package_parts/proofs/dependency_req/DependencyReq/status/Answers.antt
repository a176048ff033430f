use Rattle.std.proofs.Common.{subst}
use Rattle.guppy_package_parts.specs.RequirementViews.{HasStatus, requirement_lines}
use Rattle.guppy_package_parts.proofs.LineFacts.{filter-true}
use Rattle.guppy_package_parts.proofs.dependency_req.DependencyReq.status.Goals as goal

pub returns : goal.returns
returns c =
    subst (λ lines. HasStatus lines c.status_of_part.result) (filter-true (requirement_lines c.args.self.now)) c.status_of_part.ensures
