use Rattle.std.proofs.Common.{◌≡◌, ◌++◌, ◌∷◌, [], Bor, Global, Vec, append-nil, cond, filter, get_or, map, take, take_all, ap, sym, ◌∙◌, true, false}
use Rattle.std.proofs.lemmas.List.{map_push}
use Rattle.std.proofs.lemmas.List.Elements.{filter_more}
use Rattle.workspace_record.specs.Records.{Package}
use Rattle.guppy_package_rules.specs.Found.{finds}
use Rattle.test_select_rules.proofs.binaries.packages_among.Goals.{then-has_id_among+in_ok-push, else-has_id_among}
use Rattle.test_select_rules.proofs.binaries.packages_among.Goals as goal

pub loop-row-preserved : goal.loop-row-preserved
loop-row-preserved c =
    let packages = c.args.packages.now in
    let i = c.loop-row.row-index in
    let item = c.row-item.result in
    let here = get_or packages i item in
    let so_far = c.loop-row.invariant in
    let is_found = λ (p : Package). finds c.args.ids.now p.id in
    let kept = λ (v : Vec (Bor Package) Global). map (λ p. p.now) v.items in
    let found = ap is_found (sym c.row-item.is) ∙ sym c.has_id_among.ensures in
    let more = sym (filter_more is_found packages i item c.loop-row-test.true) in
    elim c.if-has_id_among.branch [
      | then-has_id_among+in_ok-push w ↦ (
          let test : is_found here ≡ true = found ∙ w.if-has_id_among.true in
          ap kept w.among-is ∙ ap (map (λ (p : Bor Package). p.now)) w.in_ok-push.ensures.items ∙ map_push (λ (p : Bor Package). p.now) c.loop-row.among.items _ ∙ (λ j. so_far j ++ c.row-item.is j ∷ []) ∙ ap (λ b. filter is_found (take i packages) ++ cond b (here ∷ []) []) (sym test) ∙ more
          )
      | else-has_id_among w ↦ (
          let test : is_found here ≡ false = found ∙ w.if-has_id_among.false in
          ap kept w.among-is ∙ so_far ∙ sym (append-nil (filter is_found (take i packages))) ∙ ap (λ b. filter is_found (take i packages) ++ cond b (here ∷ []) []) (sym test) ∙ more
          )
    ]

pub returns : goal.returns
returns c =
    c.loop-row.invariant ∙ ap (filter (λ (p : Package). finds c.args.ids.now p.id)) (take_all c.loop-row.row-index c.args.packages.now c.loop-row-test.false)
