-- Demands by what joins them in one edge.
use Rattle.std.specs.Prelude.{◌≡◌, ℕ, Bool, not, All, List, [], ◌∷◌, ◌++◌, Option, None, Some, filter, map}
use Rattle.std.specs.List.{list_any}
use Rattle.std.specs.Option.{unwrap_or}
use Rattle.guppy_feature_demands.specs.Demands.{NumberedValue}
use Rattle.guppy_feature_nodes.specs.Joining.{HasLines, JoinedValue, Key, ends_of, gives_way_to, join_key, key_eq, lines_joined}

-- a line, if there is one
abbrev pub line_of : Option (ℕ × ℕ) → List (ℕ × ℕ)
line_of None = []
line_of (Some place) = place ∷ []

-- a group, with one line more
abbrev pub joins_line : JoinedValue → Option (ℕ × ℕ) → JoinedValue
joins_line g line = record { head = g.head; lines = g.lines ++ line_of line }

-- the group that was found, if there was one, with one demand more
abbrev pub grown : Option JoinedValue → NumberedValue → JoinedValue
grown found d = joins_line (unwrap_or found (record { head = d; lines = [] })) d.line

-- a demand with what joins it, and the lines of all that join so
abbrev pub group_at : List NumberedValue → NumberedValue → Key × JoinedValue
group_at ds d = (join_key d, record { head = d; lines = lines_joined ds (join_key d) })

-- a demand gives way to one of these weights
abbrev pub is_outdone : List Key → NumberedValue → Bool
is_outdone weights d = list_any (λ w. list_any (key_eq (ends_of d, w)) weights) (gives_way_to d.form)

-- the edges of the groups that give way to none of these weights
pub record AreKept (weights : List Key) (groups : List JoinedValue) (edges : List JoinedValue) : Type 0 where
  pub heads : map (λ e. e.head) edges ≡ filter (λ d. not (is_outdone weights d)) (map (λ g. g.head) groups)
  pub lines : (ds : List NumberedValue) → All (λ g. lines_joined ds (join_key g.head) ≡ g.lines) groups → All (HasLines ds) edges
