-- Links and lines, each with its place in the record.
use Rattle.std.specs.Prelude.{ℕ, ◌+◌, Bool, ◌&&◌, List, [], ◌∷◌, map, filter}
use Rattle.std.specs.Str.{bytes_eq}
use Rattle.workspace_record.specs.Records.{Text, Line, Link}

-- the elements, numbered from n
abbrev pub numbered_from : {X : Type 0} → ℕ → List X → List (ℕ × X)
numbered_from n [] = []
numbered_from n (x ∷ xs) = (n, x) ∷ numbered_from (n + 1) xs

-- the elements, each with its place in the list
abbrev pub numbered : {X : Type 0} → List X → List (ℕ × X)
numbered xs = numbered_from 0 xs

-- the lines of a link, each with the number of the link and its own in the link
abbrev pub lines_of : ℕ × Link → List ((ℕ × ℕ) × Line)
lines_of link = map (λ line. ((link.0, line.0), line.1)) (numbered link.1.lines)

-- the link is this package's, under this name
abbrev pub is_named_link : Text → Text → ℕ × Link → Bool
is_named_link id name link = bytes_eq id link.1.from && bytes_eq name link.1.name

-- the package's links under a name, in the order of the record
abbrev pub links_named : List (ℕ × Link) → Text → Text → List (ℕ × Link)
links_named links id name = filter (is_named_link id name) links
