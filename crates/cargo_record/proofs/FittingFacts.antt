-- Entries that fit a dependency.
use Rattle.std.proofs.Common.{◌≡◌, ℕ, ◌<◌, true, List, length, get_or, refl, sym}
use Rattle.std.specs.Cmp.Lexicographic.{bytes_decides}
use Rattle.std.specs.List.{list_any}
use Rattle.list_facts.proofs.Quantifiers.{list_any-from_Contains}
use Rattle.workspace_record.specs.Records.{Text, Workspace}
use Rattle.cargo_metadata.specs.Dependencies.{Declared}
use Rattle.cargo_metadata.specs.Resolved.{Entry}
use Rattle.cargo_record.specs.Fitting.{fits, fits_to}

-- an entry that fits is one of its own package that does
pub fits_own : (w : Workspace) (d : Declared) (entries : List Entry) (i : ℕ) (e : Entry) (id : Text) → i < length entries → e ≡ get_or entries i e → id ≡ e.package_id → fits w d e ≡ true → list_any (fits_to w d id) entries ≡ true
fits_own w d entries i e id lt is named fit =
    list_any-from_Contains (fits_to w d id) entries e (i, lt, sym is) (rw ((bytes_decides e.package_id id).1 (sym named), fit) refl)
