-- The test for a line feed, against what it says of the texts.
use Rattle.std.proofs.Common.{◌≡◌, List, nat_eq, true, false, true≢false, refl, sym, ◌∙◌, subst, Contains, String, Global, string_bytes}
use Rattle.std.specs.List.{list_any}
use Rattle.list_facts.specs.Texts.{texts}
use Rattle.list_facts.proofs.Membership.{Contains-map, Contains-map_cases}
use Rattle.list_facts.proofs.Quantifiers.{list_any_cases, list_any-from_Contains}
use Rattle.std.proofs.lemmas.Map.Views.{exact_unsigned_eq}
use Rattle.nextest_binaries.specs.Listings.{HasLineFeed}

pub line_feed_found : (names : List (String Global)) → list_any (λ name. list_any (λ b. nat_eq b 10) (string_bytes name)) names ≡ true → HasLineFeed (texts names)
line_feed_found names h =
    let p = list_any_cases (λ name. list_any (λ b. nat_eq b 10) (string_bytes name)) names h in
    let q = list_any_cases (λ b. nat_eq b 10) (string_bytes p.0) p.2 in
    (string_bytes p.0, Contains-map string_bytes names p.0 p.1, subst (λ b. Contains (string_bytes p.0) b) (exact_unsigned_eq q.0 10 q.2) q.1)

pub no_line_feed : (names : List (String Global)) → list_any (λ name. list_any (λ b. nat_eq b 10) (string_bytes name)) names ≡ false → ¬ (HasLineFeed (texts names))
no_line_feed names none h =
    let p = Contains-map_cases string_bytes names h.0 h.1 in
    let inside = list_any-from_Contains (λ b. nat_eq b 10) (string_bytes p.0) 10 (subst (λ t. Contains t 10) (sym p.2) h.2) refl in
    true≢false (sym (list_any-from_Contains (λ name. list_any (λ b. nat_eq b 10) (string_bytes name)) names p.0 p.1 inside) ∙ none)
