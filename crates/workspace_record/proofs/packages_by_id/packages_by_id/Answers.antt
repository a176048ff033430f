use Rattle.std.proofs.Common.{◌++◌, ◌∷◌, [], List, take, take_all, subst, sym, ap, ◌∙◌}
use Rattle.std.proofs.lemmas.List.{take_more}
use Rattle.workspace_record.specs.Records.{Package}
use Rattle.workspace_record.specs.Indices.{FindsPackages}
use Rattle.workspace_record.proofs.packages_by_id.packages_by_id.Goals as goal

pub loop-row-preserved : goal.loop-row-preserved
loop-row-preserved c =
    let packages = c.args.packages.now in
    let before = take c.loop-row.row-index packages in
    let longer = ap (λ (p : Package). before ++ p ∷ []) c.row-item.is ∙ sym (take_more packages c.loop-row.row-index c.row-item.result c.loop-row-test.true) in
    subst (λ (rows : List Package). FindsPackages rows c.add_package.new.found) longer (c.in_ok-add_package.ensures before c.loop-row.invariant)

pub returns : goal.returns
returns c = subst (λ (rows : List Package). FindsPackages rows c.loop-row.found) (take_all c.loop-row.row-index c.args.packages.now c.loop-row-test.false) c.loop-row.invariant
