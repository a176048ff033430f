use Rattle.std.proofs.Common.{◌≡◌, Err, List, Ok, String, inl, map, rules, string_bytes, subst}
use Rattle.std.specs.Global.{Global}
use Rattle.clap.specs.Words.{found_of, rows_of}
use Rattle.cargo_files.specs.Added.{listing}
use Rattle.cargo_workspace.specs.Conversions.{ReadsIds, ReadsListsBy}
use Rattle.cargo_workspace.proofs.ConversionFacts.{listings_fail, listings_made}
use Rattle.cargo_workspace.proofs.ReadingFacts.{asks_such, turn_goes}
use Rattle.cargo_workspace.proofs.conversions.listings_made.Goals as goal

pub returns-in_err-ids-clause-makes : goal.returns-in_err-ids-clause-makes
returns-in_err-ids-clause-makes g c =
    listings_fail (rows_of (found_of c.args.asked.now)) c.in_err-ids.field-0.0 c.from_residual.result c.from_residual.ensures.1 (asks_such c.in_err-ids.ensures.reads (λ a h. inl h))

pub returns-in_err-listings-clause-makes : goal.returns-in_err-listings-clause-makes
returns-in_err-listings-clause-makes g c =
    let words = rows_of (found_of c.args.asked.now) in
    let lent : c.deref.result.now ≡ c.in_ok-ids.ids.items = search rules in
    let failed = c.in_err-listings.field-0.0 in
    listings_fail words failed c.from_residual-in_err-listings.result c.from_residual-in_err-listings.ensures.1
    (turn_goes (ReadsIds words) (ReadsListsBy words) (map string_bytes c.in_ok-ids.ids.items) (Err failed) c.in_ok-ids.ensures.same c.in_ok-ids.ensures.reads
    (asks_such c.in_err-listings.ensures.reads (λ a h. subst (λ (ids : List (String Global)). ReadsListsBy words (map string_bytes ids) (Err failed) a) lent h)))

pub returns-clause-makes : goal.returns-clause-makes
returns-clause-makes g c =
    let words = rows_of (found_of c.args.asked.now) in
    let lent : c.deref.result.now ≡ c.in_ok-ids.ids.items = search rules in
    let listed = map listing c.in_ok-listings.listings.items in
    listings_made words c.required.result listed c.listings_file.result c.accepted.result c.listings_file.ensures.reads c.listings_file.ensures.memory c.accepted.ensures.accepted
    (turn_goes (ReadsIds words) (ReadsListsBy words) (map string_bytes c.in_ok-ids.ids.items) (Ok listed) c.in_ok-ids.ensures.same c.in_ok-ids.ensures.reads
    (asks_such c.in_ok-listings.ensures.reads (λ a h. subst (λ (ids : List (String Global)). ReadsListsBy words (map string_bytes ids) (Ok listed) a) lent h)))
