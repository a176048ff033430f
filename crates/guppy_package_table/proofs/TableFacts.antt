-- Tables with the same rows.
use Rattle.std.proofs.Common.{◌≡◌, ℕ, List, length, nat_lt, subst, sym}
use Rattle.numbered_graph.specs.Listings.{IsListing}
use Rattle.numbered_graph.specs.Sets.{has}
use Rattle.workspace_record.specs.Records.{Link, Package}
use Rattle.guppy_package_table.specs.Tables.{firm_flags, links_among}

abbrev pub IsListed : List Package → List Link → List ℕ → Type 0
IsListed packages links xs = IsListing (links_among packages links) (has (firm_flags links)) (λ v. nat_lt v (length packages)) xs

-- what lists the packages of rows lists those of the same rows
pub listed_alike : (packages others : List Package) (links more : List Link) (xs ys : List ℕ) → others ≡ packages → more ≡ links → ys ≡ xs → IsListed packages links xs → IsListed others more ys
listed_alike packages others links more xs ys p l e h =
    subst (IsListed others more) (sym e) (subst (λ js. IsListed others js xs) (sym l) (subst (λ rs. IsListed rs links xs) (sym p) h))
