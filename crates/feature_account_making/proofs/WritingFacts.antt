-- A writer to which nothing was written.
use Rattle.std.proofs.Common.{ℕ, List, [], Option, Some, None, refl, sym, append-nil}
use Rattle.std.specs.Io.KnownBytes.{Appends}
use Rattle.list_facts.specs.Writers.{AddsUpTo}

appends_nothing : (old : Option (List ℕ)) → Appends old old []
appends_nothing None = tt
appends_nothing (Some xs) = sym (append-nil xs)

-- nothing is a beginning of any text
pub nothing_written : (old : Option (List ℕ)) (text : List ℕ) → (rest : List ℕ) × AddsUpTo old old text rest
nothing_written old text = (text, record { front = []; whole = refl; added = appends_nothing old })
