-- The same elements in ascending order, each once.
use Rattle.std.specs.Prelude.{ℕ, List, Contains, ◌↔◌}
use Rattle.std.specs.List.Sorted.{IsStrictlySortedBy}
use Rattle.std.specs.Ordering.{nat_cmp, ordering_then}
use Rattle.std.specs.Cmp.Lexicographic.{slice_cmp}
use Rattle.std.specs.declared.cmp.Ordering.{Ordering}

-- sorted has exactly the elements of the other list, each once, and each is below the next
pub record IsAscendingOf {X : Type 0} (cmp : X → X → Ordering) (elements sorted : List X) : Type 0 where
  pub members : (x : X) → Contains sorted x ↔ Contains elements x
  pub ascending : IsStrictlySortedBy cmp sorted

-- texts byte by byte, a text before each longer one that begins with it
abbrev pub text_cmp : List ℕ → List ℕ → Ordering
text_cmp = slice_cmp nat_cmp

-- pairs of texts by their first texts, then by their second ones
abbrev pub pair_cmp : List ℕ × List ℕ → List ℕ × List ℕ → Ordering
pair_cmp a b = ordering_then (text_cmp a.0 b.0) (text_cmp a.1 b.1)
