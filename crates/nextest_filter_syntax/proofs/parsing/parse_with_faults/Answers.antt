use Rattle.std.proofs.Common.{◌∙◌, sym, ap, arith}
use Rattle.nextest_filter_tokens.specs.Bytes.{skip}
use Rattle.nextest_filter_tokens.specs.FaultLists.{pattern_faults, pattern_spans, syntax_faults}
use Rattle.nextest_filter_tokens.proofs.SpanFacts.{all_faults}
use Rattle.nextest_filter_syntax.proofs.OperatorFacts.{whole_ends}
use Rattle.nextest_filter_syntax.proofs.StepFacts.{built_whole, spoiled_grows, whole_exact, whole_places, whole_tree}
use Rattle.nextest_filter_syntax.proofs.parsing.parse_with_faults.Goals as goal

pub returns-in-Ok-clause-spoiled : goal.returns-in-Ok-clause-spoiled
returns-in-Ok-clause-spoiled c =
    spoiled_grows c.in_ok-tree.tree _ _ c.in_ok-tree.ensures.spoils.1 c.in-Ok.ensures.grows.0

pub returns-in-Ok-clause-as_written : goal.returns-in-Ok-clause-as_written
returns-in-Ok-clause-as_written c =
    c.in_ok-tree.ensures.as_written

pub returns-in-Ok-clause-within : goal.returns-in-Ok-clause-within
returns-in-Ok-clause-within c =
    c.in-Ok.ensures.grows.2.0

pub returns-in-Ok-clause-over : goal.returns-in-Ok-clause-over
returns-in-Ok-clause-over c =
    c.in-Ok.ensures.grows.2.1

pub expect_end-requires-clause-faults : goal.expect_end-requires-clause-faults
expect_end-requires-clause-faults c =
    c.in_ok-tree.ensures.goes_on.2.2

pub returns-in-Ok-clause-exact : goal.returns-in-Ok-clause-exact
returns-in-Ok-clause-exact c =
    let text = c.args.text.now in
    let tree = c.in_ok-tree.ensures in
    let ends = c.in-Ok.ensures in
    let faults = c.expect_end.new.faults.list.items in
    whole_exact text c.in_ok-tree.tree c.expect_end.new.faults.list.len (syntax_faults faults) (pattern_faults faults) (all_faults faults ∙ sym c.expect_end.new.faults.list.ok.0) (spoiled_grows c.in_ok-tree.tree _ _ tree.spoils.1 ends.grows.0) (built_whole c.in_ok-tree.tree _ _ _ (ap pattern_spans c.new-faults.ensures.empty) ends.keeps tree.spoils.0) (λ clean.
    let w = tree.read (omega (arith, clean, ends.grows.1)) in
    (w.0, (c.in_ok-tree.end, w.1, ends.read clean), w.2)) (λ t whole.
    let w = tree.only (ap syntax_faults c.new-faults.ensures.empty) t whole.0 whole.1 (whole_ends text whole.0 2 whole.2) in
    ends.only w.1 (ap (skip text) w.0 ∙ whole.2))

pub returns-in-Ok-clause-reads : goal.returns-in-Ok-clause-reads
returns-in-Ok-clause-reads c =
    let text = c.args.text.now in
    let tree = c.in_ok-tree.ensures in
    let ends = c.in-Ok.ensures in (
      λ clean.
          let w = tree.read (omega (arith, clean, ends.grows.1)) in
          (w.0, (c.in_ok-tree.end, w.1, ends.read clean)),
      λ some.
          let whole = some.1 in
          let w = tree.only (ap syntax_faults c.new-faults.ensures.empty) some.0 whole.0 whole.1 (whole_ends text whole.0 2 whole.2) in
          ends.only w.1 (ap (skip text) w.0 ∙ whole.2),
    )

pub returns-in-Ok-clause-tree : goal.returns-in-Ok-clause-tree
returns-in-Ok-clause-tree c t whole =
    let text = c.args.text.now in
    let tree = c.in_ok-tree.ensures.only (ap syntax_faults c.new-faults.ensures.empty) t whole.0 whole.1 (whole_ends text whole.0 2 whole.2) in
    whole_tree text c.in_ok-tree.end c.in_ok-tree.tree t c.new-faults.result c.tree_from.new.faults (c.in_ok-tree.ensures.read tree.1) (ap (skip text) tree.0 ∙ whole.2) whole

pub returns-in-Ok-clause-built : goal.returns-in-Ok-clause-built
returns-in-Ok-clause-built c =
    built_whole c.in_ok-tree.tree _ _ _ (ap pattern_spans c.new-faults.ensures.empty) c.in-Ok.ensures.keeps c.in_ok-tree.ensures.spoils.0

pub returns-in-Ok-clause-of_tree : goal.returns-in-Ok-clause-of_tree
returns-in-Ok-clause-of_tree c t whole =
    let text = c.args.text.now in
    let tree = c.in_ok-tree.ensures.only (ap syntax_faults c.new-faults.ensures.empty) t whole.0 whole.1 (whole_ends text whole.0 2 whole.2) in
    whole_places text c.in_ok-tree.end c.in_ok-tree.tree t c.new-faults.result c.tree_from.new.faults c.expect_end.new.faults (ap pattern_spans c.new-faults.ensures.empty) (c.in_ok-tree.ensures.read tree.1) c.in-Ok.ensures.keeps (ap (skip text) tree.0 ∙ whole.2) whole
