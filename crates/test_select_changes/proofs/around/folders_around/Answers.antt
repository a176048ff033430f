use Rattle.std.proofs.Common.{◌≡◌, ◌∙◌, sym, ap, subst, ◌↔◌, Contains, true≢false}
use Rattle.guppy_package_rules.specs.Paths.{parts}
use Rattle.test_select_changes.specs.Folders.{IsInnermost, NamedFolder}
use Rattle.test_select_changes.specs.PartViews.{lent_parts}
use Rattle.test_select_changes.proofs.AroundFacts.{names_around, stands_around}
use Rattle.test_select_changes.proofs.around.folders_around.Goals as goal

pub returns-then-stand_for_all : goal.returns-then-stand_for_all
returns-then-stand_for_all c =
    let folders = c.args.folders.now in
    let path = c.args.path.now in
    let around = c.innermost-around.result.now in
    let same : parts path ≡ lent_parts c.deref.result.now = sym c.in_ok-parts.ensures ∙ ap lent_parts (sym c.deref.ensures.value) in
    let found = subst (λ ps. (folder : NamedFolder) → Contains around folder ↔ IsInnermost folders ps folder) (ap lent_parts c.deref-2.ensures.value ∙ c.in_ok-parts.ensures) c.innermost-around.ensures in
    ((c.in_ok-is_looked_at.ensures path same).0 c.if-not-branch.false, (stands_around folders path around found).0 (c.stand_for_all.ensures.0 c.if-stand_for_all.true))

pub returns : goal.returns
returns c =
    let folders = c.args.folders.now in
    let path = c.args.path.now in
    let around = c.innermost-around.result.now in
    let same : parts path ≡ lent_parts c.deref.result.now = sym c.in_ok-parts.ensures ∙ ap lent_parts (sym c.deref.ensures.value) in
    let found = subst (λ ps. (folder : NamedFolder) → Contains around folder ↔ IsInnermost folders ps folder) (ap lent_parts c.deref-2.ensures.value ∙ c.in_ok-parts.ensures) c.innermost-around.ensures in
    let looked = (c.in_ok-is_looked_at.ensures path same).0 c.if-not-branch.false in (
      λ seen stands. true≢false (sym (c.stand_for_all.ensures.1 ((stands_around folders path around found).1 stands)) ∙ c.if-stand_for_all.false),
      λ name. (λ h. (looked, (names_around folders path around found name).0 h), λ h. (names_around folders path around found name).1 h.1),
    )
