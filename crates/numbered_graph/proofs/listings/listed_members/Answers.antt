use Rattle.std.proofs.Common.{◌≤◌, ◌&&◌, length, filter, sym, subst, ap, ◌∙◌, arith, ◌≡◌, ℕ, List, Vec, Global, cond, get_or, ◌++◌, ◌∷◌, [], take_all}
use Rattle.std.proofs.lemmas.List.{take_all}
use Rattle.numbered_graph.specs.Sets.{has}
use Rattle.numbered_graph.specs.Listings.{IsListing}
use Rattle.numbered_graph.proofs.ListingFacts.{IsListing-filter}
use Rattle.numbered_graph.proofs.RunFacts.{kept_at}
use Rattle.numbered_graph.proofs.listings.listed_members.Goals as goal
use Rattle.numbered_graph.proofs.listings.listed_members.Goals.{then-contains+in_ok-push, else-contains}

pub returns-clause-listing : goal.returns-clause-listing
returns-clause-listing c = λ links firm members h.
    let set = has c.args.set.now in
    let past : length c.args.listing.now ≤ c.loop-node.node-index = omega arith in
    let kept = c.loop-node.invariant ∙ ap (filter set) (take_all c.loop-node.node-index c.args.listing.now past) in
    subst (IsListing links firm (λ v. members v && set v)) (sym kept) (IsListing-filter links firm members set c.args.listing.now h)

pub loop-node-preserved : goal.loop-node-preserved
loop-node-preserved c =
    let set = has c.args.set.now in
    let node = get_or c.args.listing.now c.loop-node.node-index 0 in
    let old = c.loop-node.members.items in
    let is = c.contains.ensures.member in
    let kept = λ (new : List ℕ) (made : new ≡ cond (set node) (old ++ node ∷ []) old). kept_at set c.args.listing.now c.loop-node.node-index c.loop-node-test.true old new made c.loop-node.invariant in
    elim c.if-contains.branch [ then-contains+in_ok-push w ↦ kept _ (ap (λ (v : Vec ℕ Global). v.items) w.members-is ∙ w.in_ok-push.ensures.items ∙ ap (λ b. cond b (old ++ node ∷ []) old) (sym w.if-contains.true ∙ is)) | else-contains w ↦ kept _ (ap (λ (v : Vec ℕ Global). v.items) w.members-is ∙ ap (λ b. cond b (old ++ node ∷ []) old) (sym w.if-contains.false ∙ is)) ]

pub returns-clause-value : goal.returns-clause-value
returns-clause-value c = c.loop-node.invariant ∙ ap (filter (has c.args.set.now)) (take_all c.loop-node.node-index c.args.listing.now c.loop-node-test.false)
