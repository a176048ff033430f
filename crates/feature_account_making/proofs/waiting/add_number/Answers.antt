use Rattle.std.proofs.Common.{◌≡◌, [], ◌∷◌, ◌++◌, List, ℕ, Vec, cond, ap, ◌∙◌, unwrap_or, arith}
use Rattle.std.proofs.lemmas.Grind.{common_steps}
use Rattle.std.specs.Global.{Global}
use Rattle.indexmap.specs.Entry.{map_with_value}
use Rattle.indexmap.specs.IndexMap.{get}
use Rattle.workspace_record.specs.Features.{feature_eq}
use Rattle.feature_account_rules.proofs.FoundFacts.{lent_eq}
use Rattle.feature_account_making.specs.Waiting.{waiting_at}
use Rattle.feature_account_making.proofs.WaitingFacts.{number_added, numbers_at}
use Rattle.feature_account_making.proofs.waiting.add_number.Goals as goal

pub returns : goal.returns
returns c = λ f.
    let old = c.args.waiting.now in
    let k = c.args.feature in
    let n = c.args.number in
    let empty = c.new.result in
    let numbers = c.push.new.self in
    let was = ap (λ (v : Vec ℕ Global). v.items) (c.or_insert-numbers.ensures.value ∙ ap (λ o. unwrap_or o empty) c.in_ok-waiting.ensures.value) ∙ numbers_at (get lent_eq old k) empty c.new.ensures.items in
    let new = map_with_value c.in_ok-waiting.field-0 numbers in
    let added : waiting_at new f ≡ waiting_at old f ++ cond (feature_eq f k.now) (n ∷ []) [] = number_added old new k numbers n (c.in_ok-waiting.ensures.update.0 numbers) (c.in_ok-push.ensures.items ∙ ap (λ (xs : List ℕ). xs ++ n ∷ []) was) f in
    grind (arith, common_steps, added)
