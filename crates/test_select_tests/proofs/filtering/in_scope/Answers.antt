use Rattle.std.proofs.Common.{◌≡◌, map, subst, sym}
use Rattle.nextest_filtering.specs.Contexts.{ContextValue}
use Rattle.nextest_filtering.specs.ContextViews.{listed_as}
use Rattle.test_select_checks.specs.Contexts.{HasNamesOf}
use Rattle.test_select_tests.specs.Following.{IsFollowedIn}
use Rattle.test_select_tests.specs.NamedFeatures.{AreNamedOn}
use Rattle.test_select_tests.specs.declared.scope.LinkScope.TheVariants.{Declared, SwitchedOn}
use Rattle.test_select_tests.proofs.FilteringFacts.{filters_wider, followed_declared, followed_switched}
use Rattle.test_select_tests.proofs.filtering.in_scope.Goals as goal

pub returns-in-Declared : goal.returns-in-Declared
returns-in-Declared c =
    let w = c.args.record.now in
    let declared = c.args.declared.now in
    let named = map listed_as c.deref.result.now in
    let are : AreNamedOn c.args.on.now named = subst (λ xs. AreNamedOn c.args.on.now (map listed_as xs)) (sym c.deref.ensures.value) c.in_ok-named.ensures in
    let along : ContextValue → Type 0 = λ cx. HasNamesOf w cx × (cx.graph ≡ declared) × (cx.on ≡ named) in
    let in_scope : ContextValue → Type 0 = λ cx. HasNamesOf w cx × IsFollowedIn Declared w c.args.on.now c.args.table.now cx.graph × AreNamedOn c.args.on.now cx.on in
    rw c.in-Declared.is (filters_wider along in_scope w (map (λ t. t.now) c.args.texts.now) c.filters_along.result (λ cx h. followed_declared w c.args.on.now c.args.table.now declared named cx c.requires.declared are h) c.filters_along.ensures)

pub returns : goal.returns
returns c =
    let w = c.args.record.now in
    let declared = c.args.declared.now in
    let followed = c.in_ok-followed-in-SwitchedOn.followed in
    let named = map listed_as c.deref-in-SwitchedOn.result.now in
    let are : AreNamedOn c.args.on.now named = subst (λ xs. AreNamedOn c.args.on.now (map listed_as xs)) (sym c.deref-in-SwitchedOn.ensures.value) c.in_ok-named.ensures in
    let along : ContextValue → Type 0 = λ cx. HasNamesOf w cx × (cx.graph ≡ followed) × (cx.on ≡ named) in
    let in_scope : ContextValue → Type 0 = λ cx. HasNamesOf w cx × IsFollowedIn SwitchedOn w c.args.on.now c.args.table.now cx.graph × AreNamedOn c.args.on.now cx.on in
    rw c.in-SwitchedOn.is (filters_wider along in_scope w (map (λ t. t.now) c.args.texts.now) c.filters_along-in-SwitchedOn.result (λ cx h. followed_switched w c.args.on.now c.args.table.now declared followed named cx c.requires.declared c.in_ok-followed-in-SwitchedOn.ensures.table are h) c.filters_along-in-SwitchedOn.ensures)
