use Rattle.std.proofs.Common.{◌∙◌, sym, codes, map}
use Rattle.nextest_filter_matchers.specs.Matchers.{tokens_of}
use Rattle.test_select_changes.specs.PartViews.{lent_parts}
use Rattle.test_select_changes.proofs.LookingFacts.{looked_by}
use Rattle.test_select_changes.proofs.PartFacts.{joined_lent, some_parts}
use Rattle.test_select_changes.proofs.looking.is_looked_at.Goals as goal

pub returns : goal.returns
returns c path same =
    let parts = c.args.path_parts.now in
    looked_by (map tokens_of c.args.ignored.now) path c.as_str.result.now (lent_parts parts) c.is_taken.result (some_parts parts (sym c.is_empty.ensures ∙ c.if-is_empty.false)) (c.as_str.ensures.value ∙ c.in_ok-path.ensures.ok ∙ joined_lent (codes "/") parts) c.is_taken.ensures same
