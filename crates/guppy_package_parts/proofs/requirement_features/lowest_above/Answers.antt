use Rattle.std.proofs.Common.{◌≡◌, ◌∙◌, ◌∷◌, [], Bool, Bor, Option, append-nil, ap, cond, false, filter, sym, true}
use Rattle.std.specs.Option.{option_map}
use Rattle.list_facts.specs.Texts.{texts}
use Rattle.workspace_record.specs.Records.{Line, Text}
use Rattle.guppy_package_parts.specs.LineViews.{is_line_of}
use Rattle.guppy_package_parts.specs.Names.{is_above, listed, lowest_from}
use Rattle.guppy_package_parts.proofs.EachOnce.{lowest_from-more_lines}
use Rattle.guppy_package_parts.proofs.requirement_features.lowest_above.Goals.{then-passes, else-passes}
use Rattle.guppy_package_parts.proofs.requirement_features.lowest_above.Goals as goal

-- the names of one line, where it passes
module _ (last least : Option Text) (p : Line → Bool) (line : Line) where
  passing : p line ≡ true → lowest_from least (filter (is_above last) line.features) ≡ lowest_from least (filter (is_above last) (listed (filter p (line ∷ []))))
  passing e = sym (ap (λ b. lowest_from least (filter (is_above last) (listed (cond b (line ∷ []) [])))) e ∙ ap (λ ts. lowest_from least (filter (is_above last) ts)) (append-nil line.features))

  failing : p line ≡ false → least ≡ lowest_from least (filter (is_above last) (listed (filter p (line ∷ []))))
  failing e = sym (ap (λ b. lowest_from least (filter (is_above last) (listed (cond b (line ∷ []) [])))) e)

pub loop-line-preserved : goal.loop-line-preserved
loop-line-preserved c =
    let text = λ (t : Option (Bor Text)). option_map (λ t. t.now) t in
    let last = text c.args.last in
    let passes = is_line_of c.args.test in
    let line = c.line-item.result in
    let least = text c.loop-line.lowest in
    let lowest : text c.if-passes.lowest ≡ lowest_from least (filter (is_above last) (listed (filter passes (line ∷ [])))) = elim c.if-passes.branch [
      | then-passes w ↦
          let names = ap texts w.deref.ensures.value ∙ ap (λ (l : Line). l.features) c.line.view_is in
          ap text w.lowest-is ∙ w.lowest_of-lowest.ensures ∙ ap (λ ts. lowest_from least (filter (is_above last) ts)) names ∙ passing last least passes line (sym c.passes.ensures ∙ w.if-passes.true)
      | else-passes w ↦ ap text w.lowest-is ∙ failing last least passes line (sym c.passes.ensures ∙ w.if-passes.false)
    ] in
    lowest ∙ ap (λ o. lowest_from o (filter (is_above last) (listed (filter passes (line ∷ []))))) c.loop-line.invariant ∙ lowest_from-more_lines last passes c.args.lines.now c.loop-line.line-index line c.loop-line-test.true c.line-item.is
