-- A link into the last knot is met: it comes from a new node, or from an open one.
use Rattle.std.proofs.Common.{◌≡◌, ℕ, ◌<◌, ◌≤◌, Bool, true, List, length, get_or, refl, sym, subst, ap, inr, arith}
use Rattle.std.proofs.lemmas.List.{length_push, length-append}
use Rattle.std.proofs.lemmas.List.Elements.{All-push, All-weaker}
use Rattle.numbered_graph.specs.declared.link.Link.{Link}
use Rattle.numbered_graph.specs.declared.direction.Direction.TheVariants.{Reverse}
use Rattle.numbered_graph.specs.Links.{near_at, far_at}
use Rattle.numbered_graph.specs.Paths.{Reaches}
use Rattle.numbered_graph.specs.Searches.{Lists, opened, IsOpen, IsInLastKnot, JoinsAt, Meets, Searches}
use Rattle.numbered_graph.proofs.PathFacts.{Reaches-link, Reaches-trans}
use Rattle.numbered_graph.proofs.SearchOpening.{to_new, w_open, Searches-open}
use Rattle.numbered_graph.proofs.SearchJoining.{Searches-join}

module _ {links : List Link} {passes : ℕ → Bool} {nodes : ℕ} {s : Lists} (h : Searches links passes nodes s) where
  pub open_within : (v i : ℕ) → IsOpen s.places s.ranks v i → v < nodes
  open_within v i o = let f = h.path.found v i o in subst (λ u. u < nodes) f.1 (h.path.below i 0 f.0)

  module _ (j : ℕ) (lt : j < length links) (ok : passes j ≡ true) (knot : IsInLastKnot s (near_at Reverse links j)) (w : ℕ) (e : w ≡ far_at Reverse links j) where
    leads_on : (k : ℕ) → k < length s.path → Reaches links passes w (get_or s.path k 0)
    leads_on k small =
        let f = h.path.found (near_at Reverse links j) knot.place knot.is_open in
        let along = subst (λ v. Reaches links passes v (get_or s.path k 0)) f.1 (h.knotted knot.place k f.0 small (All-weaker (λ a. a ≤ knot.place) (λ a. a ≤ k → a ≤ knot.place) (λ a up le. up) s.starts knot.last)) in
        subst (λ v. Reaches links passes v (get_or s.path k 0)) (sym e) (Reaches-trans (Reaches-link links passes j lt ok) along)

    module _ (below : w < nodes) (new : get_or s.places w 0 ≡ 0) where
      pub met_open : Searches links passes nodes (opened s w)
      met_open = Searches-open h w below new leads_on

      pub Meets-open : Meets links passes j s (opened s w)
      Meets-open = record {
        cursors = refl;
        starts = let size = length_push s.starts (length s.path) in omega arith;
        todo = let size = length_push s.todo w in omega arith;
        still_open = to_new h w below new;
        seen = λ i passed o. inr (length s.path, subst (λ v. IsOpen (opened s w).places s.ranks v (length s.path)) e (w_open h w below new), All-push (λ a. a ≤ i → a ≤ length s.path) s.starts (length s.path) (All-weaker (λ a. a < length s.path) (λ a. a ≤ i → a ≤ length s.path) (λ a up le. omega arith) s.starts h.starts.within) (λ le. omega arith));
      }

    module _ (p : ℕ) (is_open : IsOpen s.places s.ranks w p) (left : List ℕ) (joins : JoinsAt p s.starts left) where
      pub met_join : Searches links passes nodes (record s { starts = left })
      met_join =
          let f = h.path.found w p is_open in
          Searches-join h p f.0 (λ k small. subst (λ v. Reaches links passes v (get_or s.path k 0)) (sym f.1) (leads_on k small)) left joins

      pub Meets-join : Meets links passes j s (record s { starts = left })
      Meets-join = record {
        cursors = refl;
        starts = let size = length-append left joins.is_cut.ends in let as_many = ap length joins.is_cut.cut in omega arith;
        todo = omega arith;
        still_open = λ v i o. o;
        seen = λ i passed o. inr (p, subst (λ v. IsOpen s.places s.ranks v p) e is_open, All-weaker (λ a. a ≤ p) (λ a. a ≤ i → a ≤ p) (λ a up le. up) left joins.up_to);
      }
