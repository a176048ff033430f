use Rattle.std.proofs.Common.{◌≡◌, ◌∙◌, [], ◌∷◌}
use Rattle.record_files.specs.Listings.{test_names, listing_of}
use Rattle.record_files.proofs.Keys.{insert_last}
use Rattle.record_files.proofs.Members.{Kept, starts, goes_on}
use Rattle.record_files.proofs.listings.listings_of.Goals as goal

pub loop-id-init : goal.loop-id-init
loop-id-init c =
    let none : c.new-listings.result.entries ≡ [] = c.new-listings.ensures.empty in
    let all : c.into_iter-id-iterator.result ≡ c.args.members.now.entries = c.into_iter-id-iterator.ensures.into_iter_gives ∙ c.iter-id-items.ensures.rest in
    rw (none, all) (starts test_names listing_of c.args.members.now.entries c.iter-id-items.ensures.ordered)

pub loop-id-preserved : goal.loop-id-preserved
loop-id-preserved c =
    let steps : c.loop-id.id-iterator ≡ (c.in-Some.id.now, c.in-Some.value.now) ∷ c.next.new.self = c.in-Some.ensures.steps in
    let kept : Kept test_names listing_of c.args.members.now.entries c.loop-id.listings.entries c.loop-id.id-iterator = c.loop-id.invariant in
    goes_on _ _ _ _ _ c.in-Some.id.now c.in-Some.value.now _ c.in_ok-id.id c.in_ok-tests.tests (rw steps at kept) c.in_ok-id.ensures.ok c.in_ok-tests.ensures
    (λ sorted. c.in_ok-insert.ensures.entries ∙ insert_last _ _ _ _ sorted)
