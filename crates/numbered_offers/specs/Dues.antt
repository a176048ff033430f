-- What is offered at once, and what the answers add to a run.
use Rattle.std.specs.Prelude.{Bool, false, ◌||◌, [], ◌∷◌, Option, Some, None}
use Rattle.numbered_offers.specs.declared.offer.Offer.{Offer}
use Rattle.numbered_offers.specs.declared.due.Due.{Due}
use Rattle.numbered_offers.specs.declared.due.Due.TheVariants.{One, Halves}
use Rattle.numbered_offers.specs.Edges.{same_offer, required_half, optional_half}
use Rattle.numbered_offers.specs.Runs.{Run}

-- the offer is among what is offered at once
abbrev pub asks : Option Due → Offer → Bool
asks None o = false
asks (Some (One p)) o = same_offer p o
asks (Some (Halves e)) o = same_offer (required_half e) o || same_offer (optional_half e) o

-- the offers with their answers, of which the second is for a second half
abbrev pub asked_of : Option Due → Bool → Bool → Run
asked_of None first second = []
asked_of (Some (One p)) first second = (p, first) ∷ []
asked_of (Some (Halves e)) first second = (required_half e, first) ∷ (optional_half e, second) ∷ []

-- one of the answers accepts
abbrev pub accepted_of : Option Due → Bool → Bool → Bool
accepted_of None first second = false
accepted_of (Some (One p)) first second = first
accepted_of (Some (Halves e)) first second = first || second
