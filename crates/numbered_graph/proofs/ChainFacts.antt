-- Links that are chained from the last one on.
use Rattle.std.proofs.Common.{◌≡◌, ◌≢◌, ℕ, suc, ◌<◌, List, length, get_or, replicate, slice_set, sym, subst, ap, ◌∙◌, ⊎_elim, arith}
use Rattle.std.proofs.lemmas.Bool.{cases_eq}
use Rattle.std.proofs.lemmas.List.{get_or-replicate, get_or-set_other, get_or-set_same, length-replicate, length-set}
use Rattle.numbered_graph.specs.declared.link.Link.{Link}
use Rattle.numbered_graph.specs.declared.direction.Direction.{Direction}
use Rattle.numbered_graph.specs.Links.{near_at}
use Rattle.numbered_graph.specs.Chains.{AreChained, IsNextLink}

-- no link yet
pub chained_none : (d : Direction) (nodes : ℕ) (links : List Link) → AreChained d nodes links (length links) (replicate nodes (length links)) (replicate (length links) (length links))
chained_none d nodes links = record {
  first_sized = length-replicate nodes (length links);
  next_sized = length-replicate (length links) (length links);
  first_is = λ v lt. subst (IsNextLink d links v (length links)) (sym (get_or-replicate nodes v (length links) 0 lt)) (record { from_here = omega arith; within = omega arith; follows = λ small. absurd (omega arith); none_between = λ j le small. absurd (omega arith) });
  next_is = λ j le lt. absurd (omega arith);
}

-- one link more
module _ {d : Direction} {nodes : ℕ} {links : List Link} {k : ℕ} {first next : List ℕ} (h : AreChained d nodes links (suc k) first next) (lt : k < length links) (node : ℕ) (is : node ≡ near_at d links k) (known : node < nodes) where
  abbrev after : ℕ
  after = get_or first node 0

  at_node : IsNextLink d links node k k
  at_node = record { from_here = omega arith; within = omega arith; follows = λ small. sym is; none_between = λ j le small. absurd (omega arith) }

  elsewhere : (v : ℕ) → v ≢ node → (x : ℕ) → IsNextLink d links v (suc k) x → IsNextLink d links v k x
  elsewhere v apart x old = record {
    from_here = let from_here = old.from_here in omega arith;
    within = old.within;
    follows = old.follows;
    none_between = λ j le small. ⊎_elim (λ e same. apart (sym same ∙ ap (near_at d links) e ∙ sym is)) (λ ne. old.none_between j (omega arith) small) (cases_eq j k);
  }

  pub chained_more : AreChained d nodes links k (slice_set first node k) (slice_set next k after)
  chained_more =
      let in_first : node < length first = let sized = h.first_sized in omega arith in
      let in_next : k < length next = let sized = h.next_sized in omega arith in
      record {
        first_sized = length-set first node k ∙ h.first_sized;
        next_sized = length-set next k after ∙ h.next_sized;
        first_is = λ v small. ⊎_elim (λ e. subst (λ u. IsNextLink d links u k (get_or (slice_set first node k) u 0)) (sym e) (subst (IsNextLink d links node k) (sym (get_or-set_same first node k 0 in_first)) at_node)) (λ ne. subst (IsNextLink d links v k) (sym (get_or-set_other first node v k 0 ne)) (elsewhere v ne (get_or first v 0) (h.first_is v small))) (cases_eq v node);
        next_is = λ j le small. ⊎_elim (λ e. subst (λ i. IsNextLink d links (near_at d links i) (suc i) (get_or (slice_set next k after) i 0)) (sym e) (subst (IsNextLink d links (near_at d links k) (suc k)) (sym (get_or-set_same next k after 0 in_next)) (subst (λ u. IsNextLink d links u (suc k) after) is (h.first_is node known)))) (λ ne. subst (IsNextLink d links (near_at d links j) (suc j)) (sym (get_or-set_other next k j after 0 ne)) (h.next_is j (omega arith) small)) (cases_eq j k);
      }
