-- Roots of a set, by ranks that links enter.
use Rattle.std.proofs.Common.{◌≡◌, ℕ, ◌+◌, ◌<◌, Bool, true, false, not, ◌&&◌, List, length, get_or, slice_set, filter, refl, sym, subst, ◌∙◌, ⊎_elim, ◌↔◌, Contains, arith, true≢false}
use Rattle.std.proofs.lemmas.Bool.{cases_Bool, cases_eq, and_parts, and_from, not-true, not_from_false}
use Rattle.std.proofs.lemmas.List.{get_or-set_same}
use Rattle.std.proofs.lemmas.List.Elements.{All-contains}
use Rattle.list_facts.proofs.Membership.{Contains-filter, Contains-filter_cases}
use Rattle.numbered_graph.specs.declared.link.Link.{Link}
use Rattle.numbered_graph.specs.declared.direction.Direction.{Direction}
use Rattle.numbered_graph.specs.declared.direction.Direction.TheVariants.{Forward, Reverse}
use Rattle.numbered_graph.specs.Links.{AreWithin, near_at, far_at}
use Rattle.numbered_graph.specs.Paths.{any_link}
use Rattle.numbered_graph.specs.Ranks.{AreRanks}
use Rattle.numbered_graph.specs.Listings.{numbers_below}
use Rattle.numbered_graph.specs.Roots.{IsRoot, IsEntry, IsEntered, AreEntered}
use Rattle.numbered_graph.specs.Sets.{has}
use Rattle.numbered_graph.proofs.Numbers.{numbers-small, numbers-all}
use Rattle.numbered_graph.proofs.RankFacts.{level, mutual_at}
use Rattle.numbered_graph.proofs.SetFacts.{has-set, has-set_elim, has-within}

pub ends_within : (d : Direction) (nodes : ℕ) (links : List Link) → AreWithin nodes links → (j : ℕ) → j < length links → (near_at d links j < nodes) × (far_at d links j < nodes)
ends_within Forward nodes links h j lt = h j (record { from = 0; to = 0 }) lt
ends_within Reverse nodes links h j lt = let e = h j (record { from = 0; to = 0 }) lt in (e.1, e.0)

module _ {d : Direction} {nodes : ℕ} {links : List Link} {ranks : List ℕ} {set entered : List Bool} (within : AreWithin nodes links) (all : AreRanks links any_link nodes ranks) (sized : length set ≡ nodes) (enters : AreEntered d links ranks set (length links) entered) where
  -- a member whose rank no link enters is a root
  root_from : (v : ℕ) → v < nodes → has entered (get_or ranks v 0) ≡ false → IsRoot d links set v
  root_from v lt none j small inside m =
      let ends = ends_within d nodes links within j small in
      let same = level all (far_at d links j) v ends.1 lt m in
      ⊎_elim (λ e. mutual_at all (near_at d links j) v ends.0 lt (e ∙ same)) (λ ne. absurd (true≢false (sym (enters.all j small (record { inside = inside; crosses = ne })) ∙ subst (λ r. has entered r ≡ false) (sym same) none))) (cases_eq (get_or ranks (near_at d links j) 0) (get_or ranks (far_at d links j) 0))

  -- and no link enters the rank of a root
  none_entered : (v : ℕ) → v < nodes → IsRoot d links set v → has entered (get_or ranks v 0) ≡ false
  none_entered v lt root = ⊎_elim (λ yes'. absurd (crossed yes')) (λ no'. no') (cases_Bool (has entered (get_or ranks v 0)))
    where
      crossed : has entered (get_or ranks v 0) ≡ true → ⊥
      crossed h =
          let f = enters.found (get_or ranks v 0) h in
          let ends = ends_within d nodes links within f.link f.before in
          let m = root f.link f.before f.entry.inside (mutual_at all (far_at d links f.link) v ends.1 lt f.at) in
          f.entry.crosses (level all (near_at d links f.link) v ends.0 lt m ∙ sym f.at)

  pub roots_iff : (v : ℕ) → Contains (filter (λ u. has set u && not (has entered (get_or ranks u 0))) (numbers_below nodes)) v ↔ ((has set v ≡ true) × IsRoot d links set v)
  roots_iff v = (forth, λ h. back h.0 h.1)
    where
      forth : Contains (filter (λ u. has set u && not (has entered (get_or ranks u 0))) (numbers_below nodes)) v → (has set v ≡ true) × IsRoot d links set v
      forth inside =
          let c = Contains-filter_cases (λ u. has set u && not (has entered (get_or ranks u 0))) (numbers_below nodes) v inside in
          let parts = and_parts (has set v) (not (has entered (get_or ranks v 0))) c.1 in
          (parts.0, root_from v (All-contains (λ u. u < nodes) (numbers_below nodes) v (numbers-small nodes) c.0) (not-true (has entered (get_or ranks v 0)) parts.1))

      back : has set v ≡ true → IsRoot d links set v → Contains (filter (λ u. has set u && not (has entered (get_or ranks u 0))) (numbers_below nodes)) v
      back member root =
          let lt = subst (λ n. v < n) sized (has-within set v member) in
          Contains-filter (λ u. has set u && not (has entered (get_or ranks u 0))) (numbers_below nodes) v (numbers-all nodes v lt) (and_from (has set v) (not (has entered (get_or ranks v 0))) member (not_from_false (has entered (get_or ranks v 0)) (none_entered v lt root)))

-- flags of the ranks that links enter, and one link more
module _ {d : Direction} {links : List Link} {ranks : List ℕ} {set : List Bool} {upto : ℕ} {entered : List Bool} (h : AreEntered d links ranks set upto entered) where
  later : (r : ℕ) → has entered r ≡ true → IsEntered d links ranks set (upto + 1) r
  later r e = let f = h.found r e in record { link = f.link; before = let before = f.before in omega arith; entry = f.entry; at = f.at }

  -- it enters none
  pub entered_same : ¬ IsEntry d links ranks set upto → AreEntered d links ranks set (upto + 1) entered
  entered_same none = record {
    found = later;
    all = λ j lt entry. ⊎_elim (λ e. absurd (none (subst (IsEntry d links ranks set) e entry))) (λ ne. h.all j (omega arith) entry) (cases_eq j upto);
  }

  -- or it enters the rank of its far end
  pub entered_more : IsEntry d links ranks set upto → get_or ranks (far_at d links upto) 0 < length entered → AreEntered d links ranks set (upto + 1) (slice_set entered (get_or ranks (far_at d links upto) 0) true)
  entered_more entry small =
      let rank = get_or ranks (far_at d links upto) 0 in
      record {
        found = λ r. has-set_elim (λ u. IsEntered d links ranks set (upto + 1) u) entered rank r (record { link = upto; before = omega arith; entry = entry; at = refl }) (later r);
        all = λ j lt also. ⊎_elim (λ e. subst (λ i. has (slice_set entered rank true) (get_or ranks (far_at d links i) 0) ≡ true) (sym e) (get_or-set_same entered rank true false small)) (λ ne. has-set entered rank (get_or ranks (far_at d links j) 0) (h.all j (omega arith) also)) (cases_eq j upto);
      }
