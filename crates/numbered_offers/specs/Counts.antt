-- Counts of premises that are not reached: of each edge one for its unsplit offer or its required half, and one for its
-- optional half.
use Rattle.std.specs.Prelude.{◌≡◌, ℕ, ◌+◌, ◌-◌, ◌<◌, ◌≤◌, Bool, true, ◌&&◌, ◌||◌, ◌==◌, not, nat_lt, List, length, slice_index_or, slice_set, if◌then◌else◌}
use Rattle.numbered_graph.specs.declared.direction.Direction.{Direction}
use Rattle.numbered_graph.specs.declared.direction.Direction.TheVariants.{Forward, Reverse}
use Rattle.numbered_graph.specs.Sets.{has}
use Rattle.numbered_offers.specs.declared.edge.Edge.{Edge}
use Rattle.numbered_offers.specs.declared.offer.Offer.{Offer}
use Rattle.numbered_offers.specs.declared.offer.OfferKind.{OfferKind}
use Rattle.numbered_offers.specs.declared.offer.OfferKind.TheVariants.{Unsplit, Required, Optional}
use Rattle.numbered_offers.specs.Edges.{is_offer, waits}
use Rattle.numbered_offers.specs.Keeping.{half_at}

-- the count at a place; past the end none
abbrev pub count_at : List ℕ → ℕ → ℕ
count_at counts e = slice_index_or counts e 0

-- a premise counts while it is not reached
abbrev pub open_by : Bool → ℕ
open_by reached = if reached then 0 else 1

-- how many premises the optional half of an edge has
abbrev pub optional_premises : Direction → ℕ
optional_premises Forward = 2
optional_premises Reverse = 1

-- `near` flags the edges that were met, `dep` those whose optional half waits no more
pub record AreCounted (d : Direction) (edges : List Edge) (near dep : List Bool) (whole optional : List ℕ) : Type 0 where
  pub whole_sized : length whole ≡ length edges
  pub optional_sized : length optional ≡ length edges
  pub whole_is : (e : ℕ) → e < length edges → count_at whole e ≡ open_by (has near e)
  pub optional_is : (e : ℕ) → e < length edges → count_at optional e ≡ open_by (has near e) + open_by (not (waits d Optional) || has dep e)

-- the counts that a link lowers are not zero
pub record AreOpen (d : Direction) (edges : List Edge) (number : ℕ) (whole optional : List ℕ) : Type 0 where
  pub edge_whole : number < length edges → 0 < count_at whole number
  pub edge_optional : number < length edges → 0 < count_at optional number
  pub half : length edges ≤ number → waits d Optional ≡ true → 0 < count_at optional (half_at edges number)

-- one premise of the edge is reached
abbrev pub lowered : ℕ → List ℕ → List ℕ
lowered e counts = slice_set counts e (count_at counts e - 1)

-- the counts once a link is met
abbrev pub whole_after : List Edge → ℕ → List ℕ → List ℕ
whole_after edges number whole = if nat_lt number (length edges) then lowered number whole else whole

abbrev pub half_after : Direction → List Edge → ℕ → List ℕ → List ℕ
half_after Forward edges number optional = lowered (half_at edges number) optional
half_after Reverse edges number optional = optional

abbrev pub optional_after : Direction → List Edge → ℕ → List ℕ → List ℕ
optional_after d edges number optional = if nat_lt number (length edges) then lowered number optional else half_after d edges number optional

-- by whether the one count is zero and whether the other is
abbrev pub flag_for : OfferKind → Bool → Bool → Bool
flag_for Unsplit whole optional = whole
flag_for Required whole optional = whole
flag_for Optional whole optional = optional

-- the offers whose count has come to zero with the link
abbrev pub is_due_at : Direction → List Edge → List ℕ → List ℕ → ℕ → Offer → Bool
is_due_at d edges whole optional number o =
    if nat_lt number (length edges)
    then ((number == o.edge) && (is_offer edges o && flag_for o.kind (count_at whole number == 0) (count_at optional number == 0)))
    else ((half_at edges number == o.edge) && (waits d o.kind && (count_at optional (half_at edges number) == 0)))
