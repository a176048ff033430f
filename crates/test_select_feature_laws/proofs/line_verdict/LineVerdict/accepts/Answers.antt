use Rattle.std.proofs.Common.{◌↔◌, IsTrue, subst, sym}
use Rattle.guppy_feature_views.specs.Views.{link_view}
use Rattle.test_select_feature_laws.specs.Verdicts.{HasCountingLine, table_of}
use Rattle.test_select_feature_laws.proofs.Counting.{counting_iff}
use Rattle.test_select_feature_laws.proofs.line_verdict.LineVerdict.accepts.Goals as goal

pub returns : goal.returns
returns c =
    let table = table_of c.args.self.now in
    let l = link_view c.args.link in
    record { counting = subst (λ b. IsTrue b ↔ HasCountingLine table l) (sym c.some_counts.ensures) (counting_iff table l) }
