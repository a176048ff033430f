use Rattle.std.proofs.Common.{◌≡◌, ◌∙◌, ◌-◌, suc, refl, ap, sym, subst, arith}
use Rattle.nextest_filter_tokens.specs.ReadingSteps.{IsClean}
use Rattle.nextest_filter_tokens.specs.declared.heads.Head.TheVariants.{Names, Platform, Says, Misplaces, Unknown}
use Rattle.nextest_filter_syntax.specs.Leaves.{leaf_of}
use Rattle.nextest_filter_syntax.specs.LeafGrammar.{NullaryFrom, Stands}
use Rattle.nextest_filter_syntax.specs.Trees.{set_of}
use Rattle.nextest_filter_syntax.specs.Grammar.{MoreOf, Reads, joined_of}
use Rattle.nextest_filter_syntax.specs.Reading.{IsReading, is_wrong}
use Rattle.nextest_filter_tokens.proofs.SpanFacts.{refuses_none}
use Rattle.nextest_filter_syntax.proofs.OperatorFacts.{close_ends}
use Rattle.nextest_filter_syntax.proofs.LeafStepFacts.{goes_both}
use Rattle.nextest_filter_syntax.proofs.StepFacts.{fault_none, first_only, first_read, goes_after, goes_from_head, last_only, last_read, leaf_read, leaf_spoils, negated_deep, negated_only, negated_read, negated_spoils, nothing_of, operand_is, parens_deep, parens_only, parens_read, parens_spoils, platform_spoils, set_read, spoils_after, stays, step_only, step_patterns, step_read, step_spoiled}
use Rattle.nextest_filter_syntax.proofs.reading.+reading.Goals as goal

pub operand_from-returns-then-room-eq0-clause-goes_on : goal.operand_from-returns-then-room-eq0-clause-goes_on
operand_from-returns-then-room-eq0-clause-goes_on n c =
    stays c.args.text.now c.args.at c.skip_blanks-start.result c.args.faults.now c.report_too_deep.new.faults c.skip_blanks-start.ensures.rises c.skip_blanks-start.ensures.end c.in_ok-report_too_deep-in-Negates.ensures.grows

pub operand_from-returns-then-room-eq0-clause-spoils : goal.operand_from-returns-then-room-eq0-clause-spoils
operand_from-returns-then-room-eq0-clause-spoils n c =
    (tt, c.in_ok-report_too_deep-in-Negates.ensures.fault.0)

pub operand_from-returns-then-room-eq0-2-clause-goes_on : goal.operand_from-returns-then-room-eq0-2-clause-goes_on
operand_from-returns-then-room-eq0-2-clause-goes_on n c =
    stays c.args.text.now c.args.at c.skip_blanks-start.result c.args.faults.now c.report_too_deep-then-room-eq0-2.new.faults c.skip_blanks-start.ensures.rises c.skip_blanks-start.ensures.end c.in_ok-report_too_deep-in-Opens.ensures.grows

pub operand_from-returns-then-room-eq0-2-clause-spoils : goal.operand_from-returns-then-room-eq0-2-clause-spoils
operand_from-returns-then-room-eq0-2-clause-spoils n c =
    (tt, c.in_ok-report_too_deep-in-Opens.ensures.fault.0)

pub operand_from-returns-in_ok-report_no_operand-in-Unknown-clause-goes_on : goal.operand_from-returns-in_ok-report_no_operand-in-Unknown-clause-goes_on
operand_from-returns-in_ok-report_no_operand-in-Unknown-clause-goes_on n c =
    stays c.args.text.now c.args.at c.skip_blanks-start.result c.args.faults.now c.report_no_operand.new.faults c.skip_blanks-start.ensures.rises c.skip_blanks-start.ensures.end c.in_ok-report_no_operand-in-Unknown.ensures.grows

pub operand_from-returns-in_ok-report_no_operand-in-Unknown-clause-spoils : goal.operand_from-returns-in_ok-report_no_operand-in-Unknown-clause-spoils
operand_from-returns-in_ok-report_no_operand-in-Unknown-clause-spoils n c =
    (tt, c.in_ok-report_no_operand-in-Unknown.ensures.fault.0)

pub operand_from-returns-in_ok-report_misplaced-in-Misplaces-clause-goes_on : goal.operand_from-returns-in_ok-report_misplaced-in-Misplaces-clause-goes_on
operand_from-returns-in_ok-report_misplaced-in-Misplaces-clause-goes_on n c =
    let end = c.in-Misplaces.ensures.end in
    (omega (arith, c.skip_blanks-start.ensures.rises, end.0), end.1, c.in_ok-report_misplaced-in-Misplaces.ensures.grows)

pub operand_from-returns-in_ok-report_misplaced-in-Misplaces-clause-spoils : goal.operand_from-returns-in_ok-report_misplaced-in-Misplaces-clause-spoils
operand_from-returns-in_ok-report_misplaced-in-Misplaces-clause-spoils n c =
    (tt, c.in_ok-report_misplaced-in-Misplaces.ensures.fault.0)

pub operand_from-closed_parens-requires-clause-faults : goal.operand_from-closed_parens-requires-clause-faults
operand_from-closed_parens-requires-clause-faults n c =
    c.in_ok-tree-in-Opens.ensures.goes_on.2.2

pub tree_from-returns-then-level-eq0-clause-goes_on : goal.tree_from-returns-then-level-eq0-clause-goes_on
tree_from-returns-then-level-eq0-clause-goes_on n c =
    c.in_ok-tree.ensures.goes_on

pub tree_from-returns-then-level-eq0-clause-spoils : goal.tree_from-returns-then-level-eq0-clause-spoils
tree_from-returns-then-level-eq0-clause-spoils n c =
    c.in_ok-tree.ensures.spoils

pub tree_from-returns-then-level-eq0-clause-as_written : goal.tree_from-returns-then-level-eq0-clause-as_written
tree_from-returns-then-level-eq0-clause-as_written n c =
    c.in_ok-tree.ensures.as_written

pub tree_from-operator_after-requires-clause-faults : goal.tree_from-operator_after-requires-clause-faults
tree_from-operator_after-requires-clause-faults n c =
    c.loop-found.invariant.goes_on.2.2

pub operand_from-named_set_from-requires-clause-at : goal.operand_from-named_set_from-requires-clause-at
operand_from-named_set_from-requires-clause-at n c = c.in-Names.ensures.end.1

pub operand_from-named_set_from-requires-clause-boundary : goal.operand_from-named_set_from-requires-clause-boundary
operand_from-named_set_from-requires-clause-boundary n c = c.in-Names.ensures.end.2

pub operand_from-returns-in_ok-leaf-in-Names-clause-goes_on : goal.operand_from-returns-in_ok-leaf-in-Names-clause-goes_on
operand_from-returns-in_ok-leaf-in-Names-clause-goes_on n c =
    goes_from_head c.args.text.now c.args.at c.skip_blanks-start.result c.in-Names.next c.in_ok-leaf-in-Names.end c.args.faults.now c.named_set_from.new.faults c.skip_blanks-start.ensures.rises c.in-Names.ensures.end.0 c.in_ok-leaf-in-Names.ensures.goes_on

pub operand_from-returns-in_ok-leaf-in-Names-clause-spoils : goal.operand_from-returns-in_ok-leaf-in-Names-clause-spoils
operand_from-returns-in_ok-leaf-in-Names-clause-spoils n c =
    leaf_spoils c.in_ok-leaf-in-Names.leaf c.leaf_expr.result c.args.faults.now c.named_set_from.new.faults c.leaf_expr.ensures.value c.in_ok-leaf-in-Names.ensures.spoils

pub operand_from-returns-in_ok-leaf-in-Names-clause-as_written : goal.operand_from-returns-in_ok-leaf-in-Names-clause-as_written
operand_from-returns-in_ok-leaf-in-Names-clause-as_written n c =
    c.leaf_expr.ensures.as_written c.in_ok-leaf-in-Names.ensures.as_written

pub operand_from-returns-in_ok-leaf-in-Names-clause-only : goal.operand_from-returns-in_ok-leaf-in-Names-clause-only
operand_from-returns-in_ok-leaf-in-Names-clause-only n c clean t j r =
    let from = operand_is c.args.text.now c.args.room c.args.at j c.skip_blanks-start.result t (Names c.in-Names.predicate c.in-Names.next) c.skip_blanks-start.ensures.value c.in-Names.ensures.value r in
    c.in_ok-leaf-in-Names.ensures.only clean from.0 j from.2

pub operand_from-platform_set_from-requires-clause-at : goal.operand_from-platform_set_from-requires-clause-at
operand_from-platform_set_from-requires-clause-at n c = c.in-Platform.ensures.end.1

pub operand_from-platform_set_from-requires-clause-boundary : goal.operand_from-platform_set_from-requires-clause-boundary
operand_from-platform_set_from-requires-clause-boundary n c = c.in-Platform.ensures.end.2

pub operand_from-returns-in_ok-leaf-in-Platform-clause-goes_on : goal.operand_from-returns-in_ok-leaf-in-Platform-clause-goes_on
operand_from-returns-in_ok-leaf-in-Platform-clause-goes_on n c =
    goes_from_head c.args.text.now c.args.at c.skip_blanks-start.result c.in-Platform.next c.in_ok-leaf-in-Platform.end c.args.faults.now c.platform_set_from.new.faults c.skip_blanks-start.ensures.rises c.in-Platform.ensures.end.0 c.in_ok-leaf-in-Platform.ensures.goes_on

pub operand_from-returns-in_ok-leaf-in-Platform-clause-spoils : goal.operand_from-returns-in_ok-leaf-in-Platform-clause-spoils
operand_from-returns-in_ok-leaf-in-Platform-clause-spoils n c =
    platform_spoils c.in_ok-leaf-in-Platform.leaf c.leaf_expr-in-Platform.result c.args.faults.now c.platform_set_from.new.faults c.leaf_expr-in-Platform.ensures.value c.in_ok-leaf-in-Platform.ensures.spoils

pub operand_from-returns-in_ok-leaf-in-Platform-clause-as_written : goal.operand_from-returns-in_ok-leaf-in-Platform-clause-as_written
operand_from-returns-in_ok-leaf-in-Platform-clause-as_written n c =
    c.leaf_expr-in-Platform.ensures.as_written c.in_ok-leaf-in-Platform.ensures.as_written

pub operand_from-returns-in_ok-leaf-in-Platform-clause-only : goal.operand_from-returns-in_ok-leaf-in-Platform-clause-only
operand_from-returns-in_ok-leaf-in-Platform-clause-only n c clean t j r =
    let from = operand_is c.args.text.now c.args.room c.args.at j c.skip_blanks-start.result t (Platform c.in-Platform.next) c.skip_blanks-start.ensures.value c.in-Platform.ensures.value r in
    c.in_ok-leaf-in-Platform.ensures.only clean from.0 j from.2

pub operand_from-nullary_set_from-requires-clause-start : goal.operand_from-nullary_set_from-requires-clause-start
operand_from-nullary_set_from-requires-clause-start n c = omega (arith, c.in-Says.ensures.end.0)

pub operand_from-nullary_set_from-requires-clause-at : goal.operand_from-nullary_set_from-requires-clause-at
operand_from-nullary_set_from-requires-clause-at n c = c.in-Says.ensures.end.1

pub operand_from-nullary_set_from-requires-clause-boundary : goal.operand_from-nullary_set_from-requires-clause-boundary
operand_from-nullary_set_from-requires-clause-boundary n c = c.in-Says.ensures.end.2

pub operand_from-returns-in_ok-leaf-in-Says-clause-goes_on : goal.operand_from-returns-in_ok-leaf-in-Says-clause-goes_on
operand_from-returns-in_ok-leaf-in-Says-clause-goes_on n c =
    goes_from_head c.args.text.now c.args.at c.skip_blanks-start.result c.in-Says.next c.in_ok-leaf-in-Says.end c.args.faults.now c.nullary_set_from.new.faults c.skip_blanks-start.ensures.rises c.in-Says.ensures.end.0 c.in_ok-leaf-in-Says.ensures.goes_on

pub operand_from-returns-in_ok-leaf-in-Says-clause-spoils : goal.operand_from-returns-in_ok-leaf-in-Says-clause-spoils
operand_from-returns-in_ok-leaf-in-Says-clause-spoils n c =
    (c.in_ok-leaf-in-Says.ensures.keeps, tt)

pub operand_from-returns-in_ok-leaf-in-Says-clause-as_written : goal.operand_from-returns-in_ok-leaf-in-Says-clause-as_written
operand_from-returns-in_ok-leaf-in-Says-clause-as_written n c =
    c.in_ok-leaf-in-Says.ensures.as_written

pub operand_from-returns-in_ok-tree-in-Negates-2-clause-goes_on : goal.operand_from-returns-in_ok-tree-in-Negates-2-clause-goes_on
operand_from-returns-in_ok-tree-in-Negates-2-clause-goes_on n c =
    goes_from_head c.args.text.now c.args.at c.skip_blanks-start.result c.in-Negates.next c.in_ok-tree-in-Negates.end c.args.faults.now c.operand_from.new.faults c.skip_blanks-start.ensures.rises c.in-Negates.ensures.end.0 c.in_ok-tree-in-Negates.ensures.goes_on

pub operand_from-returns-in_ok-tree-in-Negates-2-clause-spoils : goal.operand_from-returns-in_ok-tree-in-Negates-2-clause-spoils
operand_from-returns-in_ok-tree-in-Negates-2-clause-spoils n c =
    negated_spoils c.in-Negates.op c.in_ok-tree-in-Negates.tree c.in_ok-tree-in-Negates-2.tree c.args.faults.now c.operand_from.new.faults c.in_ok-tree-in-Negates-2.ensures.value c.in_ok-tree-in-Negates.ensures.spoils

pub operand_from-returns-in_ok-tree-in-Negates-2-clause-as_written : goal.operand_from-returns-in_ok-tree-in-Negates-2-clause-as_written
operand_from-returns-in_ok-tree-in-Negates-2-clause-as_written n c =
    c.in_ok-tree-in-Negates-2.ensures.as_written c.in_ok-tree-in-Negates.ensures.as_written

pub operand_from-returns-in_ok-tree-in-Opens-2-clause-goes_on : goal.operand_from-returns-in_ok-tree-in-Opens-2-clause-goes_on
operand_from-returns-in_ok-tree-in-Opens-2-clause-goes_on n c =
    goes_from_head c.args.text.now c.args.at c.skip_blanks-start.result c.in-Opens.next c.in_ok-tree-in-Opens-2.after c.args.faults.now c.closed_parens.new.faults c.skip_blanks-start.ensures.rises c.in-Opens.ensures.end.0 (goes_both c.args.text.now c.in-Opens.next c.in_ok-tree-in-Opens.end c.in_ok-tree-in-Opens-2.after c.args.faults.now c.tree_from.new.faults c.closed_parens.new.faults c.in_ok-tree-in-Opens.ensures.goes_on c.in_ok-tree-in-Opens-2.ensures.goes_on)

pub operand_from-returns-in_ok-tree-in-Opens-2-clause-spoils : goal.operand_from-returns-in_ok-tree-in-Opens-2-clause-spoils
operand_from-returns-in_ok-tree-in-Opens-2-clause-spoils n c =
    parens_spoils c.in_ok-tree-in-Opens.tree c.in_ok-tree-in-Opens-2.tree c.args.faults.now c.tree_from.new.faults c.closed_parens.new.faults c.in_ok-tree-in-Opens-2.ensures.value c.in_ok-tree-in-Opens.ensures.spoils c.in_ok-tree-in-Opens-2.ensures.keeps c.in_ok-tree-in-Opens-2.ensures.goes_on.2.0

pub operand_from-returns-in_ok-tree-in-Opens-2-clause-as_written : goal.operand_from-returns-in_ok-tree-in-Opens-2-clause-as_written
operand_from-returns-in_ok-tree-in-Opens-2-clause-as_written n c =
    c.in_ok-tree-in-Opens-2.ensures.as_written c.in_ok-tree-in-Opens.ensures.as_written

pub operand_from-returns-then-room-eq0-clause-only : goal.operand_from-returns-then-room-eq0-clause-only
operand_from-returns-then-room-eq0-clause-only n c clean t j r =
    absurd (negated_deep c.args.text.now c.args.room c.args.at c.skip_blanks-start.result c.in-Negates.next j c.in-Negates.op t c.skip_blanks-start.ensures.value c.in-Negates.ensures.value c.if-room-eq0.true r)

pub operand_from-returns-then-room-eq0-2-clause-only : goal.operand_from-returns-then-room-eq0-2-clause-only
operand_from-returns-then-room-eq0-2-clause-only n c clean t j r =
    absurd (parens_deep c.args.text.now c.args.room c.args.at c.skip_blanks-start.result c.in-Opens.next j t c.skip_blanks-start.ensures.value c.in-Opens.ensures.value c.if-room-eq0-2.true r)

pub operand_from-returns-in_ok-report_misplaced-in-Misplaces-clause-only : goal.operand_from-returns-in_ok-report_misplaced-in-Misplaces-clause-only
operand_from-returns-in_ok-report_misplaced-in-Misplaces-clause-only n c clean t j r =
    absurd (operand_is c.args.text.now c.args.room c.args.at j c.skip_blanks-start.result t (Misplaces c.in-Misplaces.op c.in-Misplaces.next) c.skip_blanks-start.ensures.value c.in-Misplaces.ensures.value r)

pub operand_from-returns-in_ok-report_misplaced-in-Misplaces-clause-read : goal.operand_from-returns-in_ok-report_misplaced-in-Misplaces-clause-read
operand_from-returns-in_ok-report_misplaced-in-Misplaces-clause-read n c clean =
    absurd (omega (arith, clean, c.in_ok-report_misplaced-in-Misplaces.ensures.fault.1))

pub operand_from-returns-in_ok-report_no_operand-in-Unknown-clause-only : goal.operand_from-returns-in_ok-report_no_operand-in-Unknown-clause-only
operand_from-returns-in_ok-report_no_operand-in-Unknown-clause-only n c clean t j r =
    absurd (operand_is c.args.text.now c.args.room c.args.at j c.skip_blanks-start.result t Unknown c.skip_blanks-start.ensures.value c.in-Unknown.ensures.value r)

pub operand_from-returns-in_ok-report_no_operand-in-Unknown-clause-read : goal.operand_from-returns-in_ok-report_no_operand-in-Unknown-clause-read
operand_from-returns-in_ok-report_no_operand-in-Unknown-clause-read n c clean =
    absurd (omega (arith, clean, c.in_ok-report_no_operand-in-Unknown.ensures.fault.1))

pub tree_from-returns-then-level-eq0-clause-read : goal.tree_from-returns-then-level-eq0-clause-read
tree_from-returns-then-level-eq0-clause-read n c clean =
    subst (λ l. IsReading c.args.text.now c.args.room l c.args.at c.in_ok-tree.tree c.in_ok-tree.end c.args.faults.now c.operand_from.new.faults) (sym c.if-level-eq0.true) (c.in_ok-tree.ensures.read clean)

pub tree_from-returns-then-level-eq0-clause-only : goal.tree_from-returns-then-level-eq0-clause-only
tree_from-returns-then-level-eq0-clause-only n c clean t j r ends =
    c.in_ok-tree.ensures.only clean t j (subst (λ l. Reads c.args.text.now c.args.room l c.args.at t j) c.if-level-eq0.true r)

pub tree_from-returns-in_default-clause-goes_on : goal.tree_from-returns-in_default-clause-goes_on
tree_from-returns-in_default-clause-goes_on n c =
    goes_after c.args.text.now c.args.at c.loop-found.end c.args.faults.now c.loop-found.faults c.operator_after.new.faults c.loop-found.invariant.goes_on c.in-Ok.ensures.grows

pub tree_from-returns-in_default-clause-spoils : goal.tree_from-returns-in_default-clause-spoils
tree_from-returns-in_default-clause-spoils n c =
    let nothing = nothing_of c.args.text.now c.in-Ok.found (sym c.place_after.ensures ∙ c.in_default.is) in
    spoils_after c.loop-found.tree c.args.faults.now c.loop-found.faults c.operator_after.new.faults c.loop-found.invariant.spoils (c.in-Ok.ensures.keeps (ap is_wrong nothing)) c.in-Ok.ensures.grows.0

pub tree_from-returns-in_default-clause-as_written : goal.tree_from-returns-in_default-clause-as_written
tree_from-returns-in_default-clause-as_written n c =
    c.loop-found.invariant.as_written

pub operand_from-returns-in_ok-leaf-in-Names-clause-read : goal.operand_from-returns-in_ok-leaf-in-Names-clause-read
operand_from-returns-in_ok-leaf-in-Names-clause-read n c clean =
    leaf_read c.args.text.now c.args.room c.args.at c.in_ok-leaf-in-Names.end c.skip_blanks-start.result _ c.in_ok-leaf-in-Names.leaf _ c.skip_blanks-start.ensures.value c.in-Names.ensures.value c.leaf_expr.ensures.value (c.in_ok-leaf-in-Names.ensures.read clean) c.args.faults.now c.named_set_from.new.faults c.in_ok-leaf-in-Names.ensures.spoils.0 (c.in_ok-leaf-in-Names.ensures.unbuilt clean)

pub operand_from-returns-in_ok-leaf-in-Platform-clause-read : goal.operand_from-returns-in_ok-leaf-in-Platform-clause-read
operand_from-returns-in_ok-leaf-in-Platform-clause-read n c clean =
    leaf_read c.args.text.now c.args.room c.args.at c.in_ok-leaf-in-Platform.end c.skip_blanks-start.result _ c.in_ok-leaf-in-Platform.leaf _ c.skip_blanks-start.ensures.value c.in-Platform.ensures.value c.leaf_expr-in-Platform.ensures.value (c.in_ok-leaf-in-Platform.ensures.read clean) c.args.faults.now c.platform_set_from.new.faults c.in_ok-leaf-in-Platform.ensures.spoils.0 (fault_none _ c.in_ok-leaf-in-Platform.leaf _ _ clean c.in_ok-leaf-in-Platform.ensures.spoils.1)

pub operand_from-returns-in_ok-leaf-in-Says-clause-read : goal.operand_from-returns-in_ok-leaf-in-Says-clause-read
operand_from-returns-in_ok-leaf-in-Says-clause-read n c clean =
    (set_of (leaf_of c.in_ok-leaf-in-Says.leaf), set_read c.args.text.now c.args.room c.args.at c.in_ok-leaf-in-Says.end c.skip_blanks-start.result _ (leaf_of c.in_ok-leaf-in-Says.leaf) c.skip_blanks-start.ensures.value c.in-Says.ensures.value (c.in_ok-leaf-in-Says.ensures.read clean), refl, refuses_none _ _ _ c.in_ok-leaf-in-Says.ensures.keeps)

pub operand_from-returns-in_ok-leaf-in-Says-clause-only : goal.operand_from-returns-in_ok-leaf-in-Says-clause-only
operand_from-returns-in_ok-leaf-in-Says-clause-only n c clean t j r =
    let from = operand_is c.args.text.now c.args.room c.args.at j c.skip_blanks-start.result t (Says c.in-Says.word c.in-Says.next) c.skip_blanks-start.ensures.value c.in-Says.ensures.value r in
    c.in_ok-leaf-in-Says.ensures.only clean from.0 j (subst (λ k. NullaryFrom c.args.text.now c.in-Says.word k c.in-Says.next from.0 j) (sym c.skip_blanks-start.ensures.value) from.2)

pub operand_from-returns-in_ok-tree-in-Negates-2-clause-read : goal.operand_from-returns-in_ok-tree-in-Negates-2-clause-read
operand_from-returns-in_ok-tree-in-Negates-2-clause-read n c clean =
    negated_read c.args.text.now c.args.room c.args.at c.skip_blanks-start.result c.in-Negates.next c.in_ok-tree-in-Negates.end c.in-Negates.op c.in_ok-tree-in-Negates.tree c.in_ok-tree-in-Negates-2.tree c.args.faults.now c.operand_from.new.faults c.skip_blanks-start.ensures.value c.in-Negates.ensures.value (omega arith) c.in_ok-tree-in-Negates-2.ensures.value (c.in_ok-tree-in-Negates.ensures.read clean)

pub operand_from-returns-in_ok-tree-in-Negates-2-clause-only : goal.operand_from-returns-in_ok-tree-in-Negates-2-clause-only
operand_from-returns-in_ok-tree-in-Negates-2-clause-only n c clean t j r =
    let from = negated_only c.args.text.now c.args.room c.args.at c.skip_blanks-start.result c.in-Negates.next j c.in-Negates.op t c.skip_blanks-start.ensures.value c.in-Negates.ensures.value r in
    c.in_ok-tree-in-Negates.ensures.only clean from.0 j from.1

pub operand_from-returns-in_ok-tree-in-Opens-2-clause-read : goal.operand_from-returns-in_ok-tree-in-Opens-2-clause-read
operand_from-returns-in_ok-tree-in-Opens-2-clause-read n c clean =
    let before : IsClean c.tree_from.new.faults = omega (arith, clean, c.in_ok-tree-in-Opens-2.ensures.goes_on.2.1) in
    parens_read c.args.text.now c.args.room c.args.at c.skip_blanks-start.result c.in-Opens.next c.in_ok-tree-in-Opens.end c.in_ok-tree-in-Opens-2.after c.in_ok-tree-in-Opens.tree c.in_ok-tree-in-Opens-2.tree c.args.faults.now c.tree_from.new.faults c.closed_parens.new.faults c.skip_blanks-start.ensures.value c.in-Opens.ensures.value (omega arith) c.in_ok-tree-in-Opens-2.ensures.value (c.in_ok-tree-in-Opens.ensures.read before) (c.in_ok-tree-in-Opens-2.ensures.read clean) c.in_ok-tree-in-Opens-2.ensures.keeps

pub operand_from-returns-in_ok-tree-in-Opens-2-clause-only : goal.operand_from-returns-in_ok-tree-in-Opens-2-clause-only
operand_from-returns-in_ok-tree-in-Opens-2-clause-only n c clean t j r =
    let text = c.args.text.now in
    let from = parens_only text c.args.room c.args.at c.skip_blanks-start.result c.in-Opens.next j t c.skip_blanks-start.ensures.value c.in-Opens.ensures.value r in
    let tree = c.in_ok-tree-in-Opens.ensures.only clean from.0 from.1 from.2 (close_ends text from.1 2 from.3.0) in
    c.in_ok-tree-in-Opens-2.ensures.only tree.1 j (subst (λ k. Stands text k 41 j) (sym tree.0) from.3)

pub tree_from-loop-found-init : goal.tree_from-loop-found-init
tree_from-loop-found-init n c =
    let text = c.args.text.now in
    let lower = c.args.level - 1 in
    let is : suc lower ≡ c.args.level = omega (arith, c.if-level-eq0.false) in
    let first = c.in_ok-tree-2.ensures in
    record {
      goes_on = first.goes_on;
      spoils = first.spoils;
      read = λ clean. first_read text c.args.room c.args.level lower c.args.at c.in_ok-tree-2.end c.in_ok-tree-2.tree c.args.faults.now c.tree_from.new.faults is (first.read clean);
      as_written = first.as_written;
      only = λ clean t j r ends.
          let from = first_only text c.args.room c.args.level lower c.args.at j t is r ends in
          let tree = first.only clean from.0 from.1 from.2 from.4 in
          (tree.1, (from.0, subst (λ k. MoreOf text c.args.room lower k from.0 t j) (sym tree.0) from.3));
    }

pub tree_from-returns-in_default-clause-read : goal.tree_from-returns-in_default-clause-read
tree_from-returns-in_default-clause-read n c clean =
    let before : IsClean c.loop-found.faults = omega (arith, clean, c.in-Ok.ensures.grows.1) in
    let nothing = nothing_of c.args.text.now c.in-Ok.found (sym c.place_after.ensures ∙ c.in_default.is) in
    last_read c.args.text.now c.args.room c.args.level (c.args.level - 1) c.args.at c.loop-found.end c.loop-found.tree c.args.faults.now c.loop-found.faults c.operator_after.new.faults (c.loop-found.invariant.read before) (c.in-Ok.ensures.keeps (ap is_wrong nothing))

pub tree_from-returns-in_default-clause-only : goal.tree_from-returns-in_default-clause-only
tree_from-returns-in_default-clause-only n c clean t j r ends =
    let text = c.args.text.now in
    let lower = c.args.level - 1 in
    let is : suc lower ≡ c.args.level = omega (arith, c.if-level-eq0.false) in
    let from = c.loop-found.invariant.only clean t j r ends in
    let nothing = nothing_of text c.in-Ok.found (sym c.place_after.ensures ∙ c.in_default.is) in
    let same = c.in-Ok.ensures.same (ap is_wrong nothing) in
    (last_only text c.args.room c.args.level lower c.loop-found.end j from.1.0 t c.in-Ok.found is c.in-Ok.ensures.value nothing from.1.1 ends, same ∙ from.0)

pub tree_from-loop-found-preserved : goal.tree_from-loop-found-preserved
tree_from-loop-found-preserved n c =
    let text = c.args.text.now in
    let room = c.args.room in
    let level = c.args.level in
    let lower = level - 1 in
    let is : suc lower ≡ level = omega (arith, c.if-level-eq0.false) in
    let found = c.in-Ok.ensures in
    let right = c.in-Ok-tree_from.ensures in
    let on = right.goes_on in
    let before = c.loop-found.invariant in
    let place = sym c.place_after.ensures ∙ c.in-Some.is in
    let goes = rw place at found.end in
    record {
      goes_on = (omega (arith, before.goes_on.0, goes.0, on.0), on.1, (omega (arith, before.goes_on.2.0, found.grows.0, on.2.0), omega (arith, before.goes_on.2.1, found.grows.1, on.2.1), on.2.2));
      spoils = (step_patterns text c.in-Ok.found c.in-Some.next _ _ _ _ c.loop-found.tree c.in-Ok-tree_from.right c.in_ok-tree-in-Ok-tree_from.tree place c.in_ok-tree-in-Ok-tree_from.ensures.value before.spoils.0 found.keeps right.spoils.0, step_spoiled text c.in-Ok.found c.in-Some.next _ _ _ c.loop-found.tree c.in-Ok-tree_from.right c.in_ok-tree-in-Ok-tree_from.tree place c.in_ok-tree-in-Ok-tree_from.ensures.value before.spoils.1 (λ wrong. (found.wrong wrong).0) right.spoils.1 (omega (arith, found.grows.0, on.2.0)) on.2.0);
      read = λ clean.
          let first : IsClean c.loop-found.faults = omega (arith, clean, on.2.1, found.grows.1) in
          step_read text room level lower c.args.at c.loop-found.end c.in-Some.next c.in-Ok-tree_from.after c.in-Ok.found c.loop-found.tree c.in-Ok-tree_from.right c.in_ok-tree-in-Ok-tree_from.tree c.args.faults.now c.loop-found.faults c.operator_after.new.faults c.tree_from-in-loop-found.new.faults found.value place (λ wrong. omega (arith, clean, on.2.1, (found.wrong wrong).1)) c.in_ok-tree-in-Ok-tree_from.ensures.value (before.read first) found.keeps (right.read clean);
      as_written = c.in_ok-tree-in-Ok-tree_from.ensures.as_written before.as_written right.as_written;
      only = λ clean t j r ends.
          let from = before.only clean t j r ends in
          let step = step_only text room level lower c.loop-found.end c.in-Some.next j from.1.0 t c.in-Ok.found is found.value place from.1.1 ends in
          let operand = right.only (found.same step.right ∙ from.0) step.operand step.after step.reads step.ends in
          (operand.1, (joined_of step.op from.1.0 step.operand, subst (λ k. MoreOf text room lower k (joined_of step.op from.1.0 step.operand) t j) (sym operand.0) step.more));
    }

pub operand_from-named_set_from-requires-clause-named : goal.operand_from-named_set_from-requires-clause-named
operand_from-named_set_from-requires-clause-named n c = (c.skip_blanks-start.result, sym c.in-Names.ensures.value)
