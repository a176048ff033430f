use Rattle.std.proofs.Common.{◌≡◌, ◌∙◌, ◌++◌, ℕ, List, map, ap, sym, take_all}
use Rattle.std.specs.List.{flat_map}
use Rattle.workspace_record.specs.Records.{Line, Link}
use Rattle.guppy_feature_demands.specs.Demands.{DemandValue, line_demands}
use Rattle.guppy_feature_demands.specs.DemandViews.{demand_view}
use Rattle.guppy_feature_demands.specs.Numbered.{numbered}
use Rattle.guppy_feature_demands.specs.NumberedViews.{ends_view}
use Rattle.guppy_feature_demands.proofs.NumberFacts.{lines_flat, numbered_flat}
use Rattle.guppy_feature_demands.proofs.demands.push_link.Goals as goal

pub loop-number-preserved : goal.loop-number-preserved
loop-number-preserved c =
    let said = λ (line : ℕ × Line). line_demands c.args.link.at.row.now ((c.args.link.at.number, line.0), line.1) in
    numbered_flat c.deref-lines.result.now c.loop-number.number c.index-lines-number.result said c.loop-number-test.true _ _ _ c.loop-number.invariant (c.in_ok-push_line.ensures ∙ ap (λ (row : Line). map demand_view c.loop-number.demands.items ++ said (c.loop-number.number, row)) c.index-lines-number.is)

pub returns : goal.returns
returns c =
    let n = c.args.link.at.number in
    let row = c.args.link.at.row.now in
    let lines : c.deref-lines.result.now ≡ row.lines = c.deref-lines.ensures.value ∙ ap (λ (l : Link). l.lines) c.row.view_is in
    let said : List Line → List DemandValue = λ ls. flat_map (λ (line : ℕ × Line). line_demands row ((n, line.0), line.1)) (numbered ls) in
    let all = ap said (take_all c.loop-number.number c.deref-lines.result.now c.loop-number-test.false ∙ lines) ∙ sym (lines_flat (line_demands row) (ends_view c.args.link)) in
    c.loop-number.invariant ∙ ap (λ ds. map demand_view c.args.demands.now.items ++ ds) all
