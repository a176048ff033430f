use Rattle.std.proofs.Common.{◌∙◌, rules, tests}
use Rattle.std.proofs.lemmas.Iterator.{YieldsList-from_slice}
use Rattle.std.proofs.lemmas.Iterator.Search.{any_from_yields_List}
use Rattle.guppy_package_parts.specs.Lines.{is_kind}
use Rattle.guppy_package_parts.proofs.LineFacts.{list_any-filter}
use Rattle.guppy_package_parts.proofs.dependency_req.DependencyReq.is_present.Goals as goal

pub returns : goal.returns
returns c = any_from_yields_List (is_kind c.args.self.now.kind) _ _ _ c.any.ensures.ran (YieldsList-from_slice c.args.self.now.lines.now c.iter.ensures.rest) (λ x b q k. search (rules, tests)) ∙ list_any-filter (is_kind c.args.self.now.kind) c.args.self.now.lines.now
