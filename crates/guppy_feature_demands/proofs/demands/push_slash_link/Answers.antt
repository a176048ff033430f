use Rattle.std.proofs.Common.{◌≡◌, ◌∙◌, ◌++◌, ℕ, List, map, ap, sym, take_all}
use Rattle.workspace_record.specs.Features.{FeatureValue}
use Rattle.workspace_record.specs.Records.{Line, Link}
use Rattle.guppy_feature_demands.specs.Demands.{DemandValue, leads_by}
use Rattle.guppy_feature_demands.specs.DemandViews.{demand_view, form_view}
use Rattle.guppy_feature_demands.specs.HashedViews.{hashed_view}
use Rattle.guppy_feature_demands.specs.Nodes.{named_of}
use Rattle.guppy_feature_demands.specs.Numbered.{numbered}
use Rattle.guppy_feature_demands.specs.NumberedViews.{link_view}
use Rattle.guppy_feature_demands.proofs.NumberFacts.{lines_said, numbered_map}
use Rattle.guppy_feature_demands.proofs.demands.push_slash_link.Goals as goal

pub loop-number-preserved : goal.loop-number-preserved
loop-number-preserved c =
    numbered_map c.deref-lines.result.now c.loop-number.number c.index-lines-number.result (λ (line : ℕ × Line). leads_by (form_view c.args.form) (hashed_view c.args.from) (hashed_view c.named-to.result) (c.args.link.number, line.0)) c.loop-number-test.true _ _ _ c.loop-number.invariant c.in_ok-push_demand.ensures

pub returns : goal.returns
returns c =
    let form = form_view c.args.form in
    let from = hashed_view c.args.from in
    let n = c.args.link.number in
    let row = c.args.link.row.now in
    let lines : c.deref-lines.result.now ≡ row.lines = c.deref-lines.ensures.value ∙ ap (λ (l : Link). l.lines) c.row.view_is in
    let to : hashed_view c.named-to.result ≡ named_of row.to c.args.feature.now = c.named-to.ensures ∙ ap (λ id. named_of id c.args.feature.now) (c.of.ensures ∙ c.as_str.ensures.value ∙ ap (λ (l : Link). l.to) c.row.view_is) in
    let said : FeatureValue → List Line → List DemandValue = λ f ls. map (λ (line : ℕ × Line). leads_by form from f (n, line.0)) (numbered ls) in
    let same = (λ j. said (to j) (lines j)) ∙ sym (lines_said (λ (line : (ℕ × ℕ) × Line). leads_by form from (named_of row.to c.args.feature.now) line.0) (link_view c.args.link)) in
    c.loop-number.invariant ∙ ap (λ ds. map demand_view c.args.demands.now.items ++ ds) (ap (said (hashed_view c.named-to.result)) (take_all c.loop-number.number c.deref-lines.result.now c.loop-number-test.false) ∙ same)
