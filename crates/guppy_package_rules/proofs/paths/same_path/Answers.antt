use Rattle.std.proofs.Common.{sym, ◌∙◌, ap, is_eq}
use Rattle.std.specs.Cmp.{Equal-is}
use Rattle.guppy_package_rules.specs.Paths.{path_cmp}
use Rattle.guppy_package_rules.proofs.PathFacts.{same_components, tied}
use Rattle.guppy_package_rules.proofs.paths.same_path.Goals as goal

pub returns : goal.returns
returns c =
    let a = c.args.a.now in
    let b = c.args.b.now in (
      λ yes. same_components a b ((Equal-is (path_cmp a b)).0 (sym (c.is_eq.ensures ∙ ap is_eq c.compare_paths.ensures) ∙ yes)),
      λ e. c.is_eq.ensures ∙ ap is_eq c.compare_paths.ensures ∙ (Equal-is (path_cmp a b)).1 (tied a b e),
    )
