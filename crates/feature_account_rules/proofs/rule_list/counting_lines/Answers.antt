use Rattle.std.proofs.Common.{[], ◌∙◌, Bor, List, ap, append-nil, filter, map, sym}
use Rattle.std.proofs.lemmas.Bool.{cond-false, cond-true}
use Rattle.std.proofs.lemmas.List.{map-append}
use Rattle.std.proofs.lemmas.List.Elements.{filter-append}
use Rattle.workspace_record.specs.Records.{Line, Link, Text}
use Rattle.feature_account_rules.specs.Lines.{counts}
use Rattle.feature_account_rules.proofs.PushFacts.{pushed_all, pushed_more}
use Rattle.feature_account_rules.proofs.rule_list.counting_lines.Goals as goal
use Rattle.feature_account_rules.proofs.rule_list.counting_lines.Goals.{then-counts+in_ok-push, else-counts}

-- the lines behind references
abbrev seen : List (Bor Line) → List Line
seen lines = map (λ line. line.now) lines

pub loop-line-preserved : goal.loop-line-preserved
loop-line-preserved c =
    let test = counts c.args.index.now c.args.table.now c.args.link.now.from in
    let was = c.loop-line.counting.items in
    let from = c.as_str.ensures.value ∙ ap (λ (l : Link). l.from) c.link.view_is in
    let answer = sym (c.counts.ensures ∙ ap (λ (id : Text). counts c.args.index.now c.args.table.now id c.line-item.result) from) in
    let step = λ (new more : List Line). pushed_more (filter test) (filter-append test) [] (seen was) new more c.deref-line-items.result.now c.loop-line.line-index c.line-item.result c.loop-line-test.true c.line-item.is c.loop-line.invariant in
    elim c.if-counts.branch [ then-counts+in_ok-push w ↦ step _ _ (ap (λ v. seen v.items) w.counting-is ∙ ap seen w.in_ok-push.ensures.items ∙ map-append _ was _) (sym (cond-true _ _ _ (answer ∙ w.if-counts.true))) | else-counts w ↦ step _ _ (ap (λ v. seen v.items) w.counting-is ∙ sym (append-nil (seen was))) (sym (cond-false _ _ _ (answer ∙ w.if-counts.false))) ]

pub returns : goal.returns
returns c =
    pushed_all (filter (counts c.args.index.now c.args.table.now c.args.link.now.from)) [] _ c.deref-line-items.result.now c.loop-line.line-index c.loop-line-test.false c.loop-line.invariant ∙ ap (filter (counts c.args.index.now c.args.table.now c.args.link.now.from)) (c.deref-line-items.ensures.value ∙ ap (λ (l : Link). l.lines) c.link.view_is)
