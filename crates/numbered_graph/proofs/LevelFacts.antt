-- Flags of the keys that links join, and one link more.
use Rattle.std.proofs.Common.{◌≡◌, ◌≢◌, ℕ, ◌+◌, ◌<◌, Bool, true, false, List, length, get_or, slice_set, refl, sym, subst, ◌∙◌, ⊎_elim, arith}
use Rattle.std.proofs.lemmas.Bool.{cases_eq}
use Rattle.std.proofs.lemmas.List.{get_or-set_same}
use Rattle.numbered_graph.specs.declared.link.Link.{Link}
use Rattle.numbered_graph.specs.Links.{link_at}
use Rattle.numbered_graph.specs.Cycles.{AreLevels, IsLevelLink}
use Rattle.numbered_graph.specs.Sets.{has}
use Rattle.numbered_graph.proofs.SetFacts.{has-set, has-set_elim}

module _ {links : List Link} {keys : List ℕ} {upto : ℕ} {flags : List Bool} (h : AreLevels links keys upto flags) where
  later : (key : ℕ) → has flags key ≡ true → (j : ℕ) × (j < upto + 1) × IsLevelLink links keys key j
  later key e = let f = h.found key e in let before = f.1 in (f.0, omega arith, f.2)

  -- its ends have two keys
  pub levels_same : get_or keys (link_at links upto).from 0 ≢ get_or keys (link_at links upto).to 0 → AreLevels links keys (upto + 1) flags
  levels_same apart = record {
    found = later;
    all = λ key j lt level. ⊎_elim (λ e. absurd (let here = subst (IsLevelLink links keys key) e level in apart (here.from_key ∙ sym here.to_key))) (λ ne. h.all key j (omega arith) level) (cases_eq j upto);
  }

  -- or one
  pub levels_more : get_or keys (link_at links upto).from 0 ≡ get_or keys (link_at links upto).to 0 → get_or keys (link_at links upto).from 0 < length flags → AreLevels links keys (upto + 1) (slice_set flags (get_or keys (link_at links upto).from 0) true)
  levels_more same small =
      let at = get_or keys (link_at links upto).from 0 in
      record {
        found = λ key. has-set_elim (λ k. (j : ℕ) × (j < upto + 1) × IsLevelLink links keys k j) flags at key (upto, omega arith, record { from_key = refl; to_key = sym same }) (later key);
        all = λ key j lt level. ⊎_elim (λ e. let here = subst (IsLevelLink links keys key) e level in subst (λ k. has (slice_set flags at true) k ≡ true) here.from_key (get_or-set_same flags at true false small)) (λ ne. has-set flags at key (h.all key j (omega arith) level)) (cases_eq j upto);
      }
