-- Ranks against components.
use Rattle.std.proofs.Common.{◌≡◌, ℕ, ◌<◌, Bool, List, get_or, sym, ◌↔◌, arith}
use Rattle.numbered_graph.specs.declared.link.Link.{Link}
use Rattle.numbered_graph.specs.Paths.{any_link, Reaches, AreMutual}
use Rattle.numbered_graph.specs.Ranks.{AreRanks}

module _ {links : List Link} {p : ℕ → Bool} {nodes : ℕ} {ranks : List ℕ} (all : AreRanks links p nodes ranks) where
  -- mutual reach gives one rank
  pub level : (a b : ℕ) → a < nodes → b < nodes → AreMutual links p a b → get_or ranks a 0 ≡ get_or ranks b 0
  level a b lt_a lt_b m = let up = all.rise a b lt_a lt_b m.there in let down = all.rise b a lt_b lt_a m.back in omega arith

  pub mutual_at : (a b : ℕ) → a < nodes → b < nodes → get_or ranks a 0 ≡ get_or ranks b 0 → AreMutual links p a b
  mutual_at a b lt_a lt_b e = record { there = all.same a b lt_a lt_b e; back = all.same b a lt_b lt_a (sym e) }

-- ranks over flags that are all set are ranks over all links
pub AreRanks-by_all : (links : List Link) (p : ℕ → Bool) (nodes : ℕ) (ranks : List ℕ) → ((a b : ℕ) → Reaches links p a b ↔ Reaches links any_link a b) → AreRanks links p nodes ranks → AreRanks links any_link nodes ranks
AreRanks-by_all links p nodes ranks same h = record {
  sized = h.sized;
  rise = λ a b lt_a lt_b r. h.rise a b lt_a lt_b ((same a b).1 r);
  same = λ a b lt_a lt_b e. (same a b).0 (h.same a b lt_a lt_b e);
}
