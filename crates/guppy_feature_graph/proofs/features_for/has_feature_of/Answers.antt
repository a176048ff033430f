use Rattle.std.proofs.Common.{◌∙◌, ◌||◌, ap, sym}
use Rattle.workspace_record.specs.Features.{Base, Named, Dep}
use Rattle.guppy_feature_graph.specs.FeaturesFor.{has_label}
use Rattle.guppy_feature_graph.proofs.ListFacts.{any_of_both}
use Rattle.guppy_feature_graph.proofs.features_for.has_feature_of.Goals as goal

pub returns : goal.returns
returns c =
    let s = c.args.set.now in
    let r = c.args.row.now in
    c.has_one.ensures ∙ ap (λ b. has_label s r.id Base || b) (sym (any_of_both (has_label s r.id) (λ f. Named f.name) Dep r.features r.optional))
