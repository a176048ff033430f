use Rattle.std.proofs.Common.{◌≡◌, ◌+◌, [], ◌∷◌, ◌++◌, take, sym, ap, subst, ◌∙◌}
use Rattle.std.proofs.lemmas.List.{take_more}
use Rattle.guppy_package_rules.specs.Found.{HoldsNames}
use Rattle.guppy_package_rules.proofs.FoundFacts.{names_more, names_stay}
use Rattle.guppy_package_rules.proofs.member_rules.package_names.Goals as goal
use Rattle.guppy_package_rules.proofs.member_rules.package_names.Goals.{then-not-contains_key+in_ok-insert, else-not-contains_key}

pub loop-row-preserved : goal.loop-row-preserved
loop-row-preserved c =
    let before = take c.loop-row.row-index c.args.packages.now in
    let row = c.row-item.result in
    let more : take (c.loop-row.row-index + 1) c.args.packages.now ≡ before ++ row ∷ [] = take_more c.args.packages.now c.loop-row.row-index row c.loop-row-test.true ∙ ap (λ r. before ++ r ∷ []) (sym c.row-item.is) in
    let id = c.as_str.ensures.value ∙ ap (λ p. p.id) c.row.view_is in
    let held : HoldsNames c.if-not-contains_key.names (before ++ row ∷ []) = elim c.if-not-contains_key.branch [
      | then-not-contains_key+in_ok-insert w ↦ subst (λ names. HoldsNames names (before ++ row ∷ [])) (sym w.names-is) (names_more c.loop-row.names w.insert.new.self before row c.as_str.result.now w.as_str-then-not-contains_key.result.now w.as_str-then-not-contains_key-2.result id (w.as_str-then-not-contains_key.ensures.value ∙ ap (λ p. p.id) c.row.view_is) (w.as_str-then-not-contains_key-2.ensures.value ∙ ap (λ p. p.name) c.row.view_is) c.loop-row.invariant (sym w.if-not-contains_key.ensures) w.in_ok-insert.ensures.updates)
      | else-not-contains_key w ↦ subst (λ names. HoldsNames names (before ++ row ∷ [])) (sym w.names-is) (names_stay c.loop-row.names before row c.as_str.result.now id c.loop-row.invariant (sym w.if-not-contains_key.ensures))
    ] in
    subst (HoldsNames c.if-not-contains_key.names) (sym more) held
