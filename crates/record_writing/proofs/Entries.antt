-- Entries that are put one after another in their places by name.
use Rattle.std.proofs.Common.{List, [], ◌∷◌}
use Rattle.std.specs.Ordering.{match_ordering}
use Rattle.list_facts.specs.Ascending.{text_cmp}
use Rattle.workspace_record.specs.Records.{Text}

-- entries that ascend by their names, with one more in its place, or in place of that of its name
abbrev pub with_entry : {A : Type 0} → Text → A → List (Text × A) → List (Text × A)
with_entry name x [] = (name, x) ∷ []
with_entry name x (e ∷ es) =
    match_ordering (text_cmp name e.0) ((name, x) ∷ e ∷ es) ((e.0, x) ∷ es) (e ∷ with_entry name x es)

-- those with more of them
abbrev pub with_entries : {A : Type 0} → List (Text × A) → List (Text × A) → List (Text × A)
with_entries [] front = front
with_entries (e ∷ es) front = with_entries es (with_entry e.0 e.1 front)

-- these alone
abbrev pub by_name : {A : Type 0} → List (Text × A) → List (Text × A)
by_name es = with_entries es []
