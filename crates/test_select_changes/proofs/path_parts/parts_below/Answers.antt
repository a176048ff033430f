use Rattle.std.proofs.Common.{◌∙◌, ap, sym}
use Rattle.test_select_changes.specs.PartViews.{lent_parts}
use Rattle.test_select_changes.proofs.PartFacts.{is_below, none_below}
use Rattle.test_select_changes.proofs.path_parts.parts_below.Goals as goal

pub returns-in-Some : goal.returns-in-Some
returns-in-Some c =
    let outer = ap lent_parts c.deref-2.ensures.value ∙ c.in_ok-outer.ensures in
    let inner = ap lent_parts c.deref.ensures.value ∙ c.in_ok-inner.ensures in
    is_below c.args.root.now c.args.path.now c.deref-2.result.now c.deref.result.now outer inner c.in_ok-from_slice-in-Some.field-0.items (sym c.is_relative.ensures ∙ c.if-is_relative.false) (sym c.is_relative-else-is_relative.ensures ∙ c.if-is_relative-2.false) c.in-Some.ensures.cases.0 (c.in_ok-from_slice-in-Some.ensures.items ∙ c.in-Some.ensures.cases.1)

pub returns : goal.returns
returns c more =
    let outer = ap lent_parts c.deref-2.ensures.value ∙ c.in_ok-outer.ensures in
    let inner = ap lent_parts c.deref.ensures.value ∙ c.in_ok-inner.ensures in
    (λ h. absurd (none_below c.args.root.now c.args.path.now c.deref-2.result.now c.deref.result.now outer inner c.in-None.ensures.cases more h), λ e. absurd cc)
