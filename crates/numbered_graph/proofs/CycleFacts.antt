-- Cycles, cut from an order of the nodes by keys.
use Rattle.std.proofs.Common.{◌≡◌, ◌≢◌, ℕ, ◌<◌, ◌≤◌, Bool, eqb, ltb, List, [], ◌∷◌, length, get_or, map, filter, flat_map, refl, sym, subst, ap, ◌∙◌, Contains, All, AllPairs, IsPermutation, arith}
use Rattle.std.proofs.lemmas.Bool.{lt-ltb, ltb-true}
use Rattle.std.proofs.lemmas.Bool.Decides.{Decides-eqb, nat_tests}
use Rattle.std.proofs.lemmas.List.{get_or-map}
use Rattle.std.proofs.lemmas.List.Elements.{All-contains, Contains-get_or}
use Rattle.std.proofs.lemmas.List.Sorted.{All-permutation, Contains-permutation}
use Rattle.std.proofs.lemmas.Map.Keys.{IsDistinct-IsPermutation}
use Rattle.std.proofs.lemmas.Map.Made.{AllPairs-from_IsDistinct, IsDistinct-from_AllPairs}
use Rattle.list_facts.proofs.Membership.{Contains-filter, Contains-filter_cases, Contains-flat_map}
use Rattle.list_facts.proofs.Quantifiers.{All-from_Contains}
use Rattle.numbered_graph.specs.declared.link.Link.{Link}
use Rattle.numbered_graph.specs.declared.direction.Direction.{Direction}
use Rattle.numbered_graph.specs.declared.direction.Direction.TheVariants.{Forward, Reverse}
use Rattle.numbered_graph.specs.Links.{AreWithin, link_at}
use Rattle.numbered_graph.specs.Paths.{any_link, IsPath, AreMutual, LeadsOn}
use Rattle.numbered_graph.specs.Ranks.{AreRanks}
use Rattle.numbered_graph.specs.Listings.{numbers_below, IsListing}
use Rattle.numbered_graph.specs.Cycles.{IsOnCycle, AreCycles, AreInListingOrder, AreKeysTogether, AreRuns, AreLevels, has_node, key_of}
use Rattle.numbered_graph.specs.Sets.{has}
use Rattle.numbered_graph.proofs.Kept.{AllPairs-filter, triples_filter}
use Rattle.numbered_graph.proofs.ListParts.{AllPairs-parts, filter_among}
use Rattle.numbered_graph.proofs.Numbers.{numbers-small, numbers-all, numbers-apart}
use Rattle.numbered_graph.proofs.PathFacts.{Reaches-link, Reaches-trans}
use Rattle.numbered_graph.proofs.RankFacts.{level, mutual_at}

key_same : (d : Direction) (top a b : ℕ) → a ≤ top → b ≤ top → key_of d top a ≡ key_of d top b → a ≡ b
key_same Forward top a b la lb e = e
key_same Reverse top a b la lb e = omega arith

-- who leads on has no greater key
key_rises : (d : Direction) (links : List Link) (nodes top : ℕ) (ranks : List ℕ) → AreRanks links any_link nodes ranks → (u v : ℕ) → u < nodes → v < nodes → LeadsOn d links any_link u v → key_of d top (get_or ranks u 0) ≤ key_of d top (get_or ranks v 0)
key_rises Forward links nodes top ranks all u v lu lv r = all.rise u v lu lv r
key_rises Reverse links nodes top ranks all u v lu lv r = let up = all.rise v u lv lu r in omega arith

-- a path to a node begins at one
begins_within : (nodes : ℕ) (links : List Link) → AreWithin nodes links → (v : ℕ) (js : List ℕ) (w : ℕ) → IsPath links any_link v js w → w < nodes → v < nodes
begins_within nodes links within v [] w h lt = subst (λ u. u < nodes) (sym h) lt
begins_within nodes links within v (j ∷ js) w h lt = subst (λ u. u < nodes) h.2 (within j (record { from = 0; to = 0 }) h.0).0

-- a node on a cycle is one of the graph's
pub on_cycle_within : (nodes : ℕ) (links : List Link) → AreWithin nodes links → (v : ℕ) → IsOnCycle links v → v < nodes
on_cycle_within nodes links within v h = begins_within nodes links within v h.there.path (link_at links h.link).from h.there.leads (within h.link (record { from = 0; to = 0 }) h.within).0

-- an order of all nodes, with one key for each component; where a node leads on to an earlier one, it has its key
pub record AreKeyed (d : Direction) (links : List Link) (nodes : ℕ) (keys order : List ℕ) : Type 0 where
  pub by_key : (u v : ℕ) → u < nodes → v < nodes → get_or keys u 0 ≡ get_or keys v 0 → AreMutual links any_link u v
  pub to_key : (u v : ℕ) → u < nodes → v < nodes → AreMutual links any_link u v → get_or keys u 0 ≡ get_or keys v 0
  pub small : All (λ v. v < nodes) order
  pub every : (v : ℕ) → v < nodes → Contains order v
  pub once : AllPairs (λ u v. u ≢ v) order
  pub ahead : AllPairs (λ u v. LeadsOn d links any_link v u → get_or keys u 0 ≡ get_or keys v 0) order

-- keys that rise stand together
pub rising_together : (keys xs : List ℕ) → AllPairs (λ u v. get_or keys u 0 ≤ get_or keys v 0) xs → AreKeysTogether keys xs
rising_together keys xs rising i j k lt lt2 within same = let up = rising i j 0 lt (omega arith) in let more = rising j k 0 lt2 within in omega arith

-- and so do those that a filter keeps
pub together_filter : (keys : List ℕ) (p : ℕ → Bool) (xs : List ℕ) → AreKeysTogether keys xs → AreKeysTogether keys (filter p xs)
together_filter keys p xs h = triples_filter (λ a b c. get_or keys a 0 ≡ get_or keys c 0 → get_or keys a 0 ≡ get_or keys b 0) p xs 0 h

module _ (d : Direction) {nodes top : ℕ} {links : List Link} {ranks keys : List ℕ} (all : AreRanks links any_link nodes ranks) (most : All (λ r. r ≤ top) ranks) (made : keys ≡ map (key_of d top) ranks) where
  in_ranks : (v : ℕ) → v < nodes → v < length ranks
  in_ranks v lt = subst (λ n. v < n) (sym all.sized) lt

  key_at : (v : ℕ) → v < nodes → get_or keys v 0 ≡ key_of d top (get_or ranks v 0)
  key_at v lt = ap (λ xs. get_or xs v 0) made ∙ get_or-map (key_of d top) ranks v 0 0 (in_ranks v lt)

  by_key : (u v : ℕ) → u < nodes → v < nodes → get_or keys u 0 ≡ get_or keys v 0 → AreMutual links any_link u v
  by_key u v lu lv e = mutual_at all u v lu lv (key_same d top (get_or ranks u 0) (get_or ranks v 0) (most u 0 (in_ranks u lu)) (most v 0 (in_ranks v lv)) (sym (key_at u lu) ∙ e ∙ key_at v lv))

  to_key : (u v : ℕ) → u < nodes → v < nodes → AreMutual links any_link u v → get_or keys u 0 ≡ get_or keys v 0
  to_key u v lu lv m = key_at u lu ∙ ap (key_of d top) (level all u v lu lv m) ∙ sym (key_at v lv)

  -- the nodes by keys
  module _ {order : List ℕ} (perm : IsPermutation (numbers_below nodes) order) (rising : AllPairs (λ u v. get_or keys u 0 ≤ get_or keys v 0) order) where
    small : All (λ v. v < nodes) order
    small = All-permutation (λ v. v < nodes) (numbers_below nodes) order perm (numbers-small nodes)

    eqb-flips : (x y : ℕ) → eqb x y ≡ eqb y x
    eqb-flips x y = grind (arith, nat_tests)

    ahead : AllPairs (λ u v. LeadsOn d links any_link v u → get_or keys u 0 ≡ get_or keys v 0) order
    ahead i j e lt within r =
        let lu = small i e (omega arith) in
        let lv = small j e within in
        let up = rising i j e lt within in
        let back = key_rises d links nodes top ranks all (get_or order j e) (get_or order i e) lv lu r in
        let at_u = key_at (get_or order i e) lu in
        let at_v = key_at (get_or order j e) lv in
        omega arith

    pub AreKeyed-by_keys : AreKeyed d links nodes keys order
    AreKeyed-by_keys = record {
      by_key = by_key;
      to_key = to_key;
      small = small;
      every = λ v lt. Contains-permutation (numbers_below nodes) order v perm (numbers-all nodes v lt);
      once = AllPairs-from_IsDistinct Decides-eqb order (IsDistinct-IsPermutation eqb eqb-flips (numbers_below nodes) order perm (IsDistinct-from_AllPairs Decides-eqb (numbers_below nodes) (numbers-apart nodes)));
      ahead = ahead;
    }

module _ {links : List Link} {firm : ℕ → Bool} {nodes : ℕ} {ranks listing : List ℕ} (all : AreRanks links any_link nodes ranks) (is : IsListing links firm (λ v. ltb v nodes) listing) where
  -- the nodes of a listing are nodes of the graph
  pub listing_small : All (λ v. v < nodes) listing
  listing_small = All-from_Contains (λ v. v < nodes) listing (λ v inside. ltb-true v nodes ((is.each v).0 inside))

  pub listing_together : AreKeysTogether ranks listing
  listing_together i j k lt lt2 within same =
      let at_i = listing_small i 0 (omega arith) in
      let at_j = listing_small j 0 (omega arith) in
      let at_k = listing_small k 0 within in
      level all (get_or listing i 0) (get_or listing j 0) at_i at_j (is.together i j k lt lt2 within (mutual_at all (get_or listing i 0) (get_or listing k 0) at_i at_k same))

  -- a listing by the ranks of components
  pub AreKeyed-listing : AreKeyed Forward links nodes ranks listing
  AreKeyed-listing = record {
    by_key = mutual_at all;
    to_key = level all;
    small = listing_small;
    every = λ v lt. (is.each v).1 (lt-ltb v nodes lt);
    once = is.once;
    ahead = λ i j d lt within back. level all (get_or listing i d) (get_or listing j d) (listing_small i d (omega arith)) (listing_small j d within) (record { there = is.forward i j d lt within back; back = back });
  }

module _ {d : Direction} {nodes : ℕ} {links : List Link} {keys order : List ℕ} (within : AreWithin nodes links) (keyed : AreKeyed d links nodes keys order) {levels : List Bool} (are_levels : AreLevels links keys (length links) levels) where
  ends : (j : ℕ) → j < length links → ((link_at links j).from < nodes) × ((link_at links j).to < nodes)
  ends j lt = within j (record { from = 0; to = 0 }) lt

  on_cycle : (v : ℕ) → Contains (filter (λ u. has levels (get_or keys u 0)) order) v → IsOnCycle links v
  on_cycle v inside =
      let c = Contains-filter_cases (λ u. has levels (get_or keys u 0)) order v inside in
      let lv = All-contains (λ u. u < nodes) order v keyed.small c.0 in
      let f = are_levels.found (get_or keys v 0) c.1 in
      let e = ends f.0 f.1 in
      record { link = f.0; within = f.1; there = (keyed.by_key v (link_at links f.0).from lv e.0 (sym f.2.from_key)).there; back = (keyed.by_key (link_at links f.0).to v e.1 lv f.2.to_key).there }

  listed : (v : ℕ) → IsOnCycle links v → Contains (filter (λ u. has levels (get_or keys u 0)) order) v
  listed v h =
      let e = ends h.link h.within in
      let lv = begins_within nodes links within v h.there.path (link_at links h.link).from h.there.leads e.0 in
      let step = Reaches-link links any_link h.link h.within refl in
      let from_key = keyed.to_key (link_at links h.link).from v e.0 lv (record { there = Reaches-trans step h.back; back = h.there }) in
      let to = keyed.to_key (link_at links h.link).to v e.1 lv (record { there = h.back; back = Reaches-trans h.there step }) in
      Contains-filter (λ u. has levels (get_or keys u 0)) order v (keyed.every v lv) (are_levels.all (get_or keys v 0) h.link h.within (record { from_key = from_key; to_key = to }))

  module _ (cycles : List (List ℕ)) (whole : flat_map (λ c. c) cycles ≡ filter (λ v. has levels (get_or keys v 0)) order) where
    among : (c : List ℕ) → Contains cycles c → (v : ℕ) → Contains c v → v < nodes
    among c is_one v inside =
        let kept = Contains-filter_cases (λ u. has levels (get_or keys u 0)) order v (subst (λ xs. Contains xs v) whole (Contains-flat_map (λ e. e) cycles c v is_one inside)) in
        All-contains (λ u. u < nodes) order v keyed.small kept.0

    -- what holds of each two nodes in the order holds across each two cycles
    across : (R : ℕ → ℕ → Type 0) → AllPairs R order → AllPairs (λ c e. (u v : ℕ) → Contains c u → Contains e v → R u v) cycles
    across R h = AllPairs-parts R cycles (subst (AllPairs R) (sym whole) (AllPairs-filter R (λ u. has levels (get_or keys u 0)) order h))

    pub AreCycles-from_runs : AreRuns keys cycles → AreCycles d links cycles
    AreCycles-from_runs runs = record {
      once = subst (λ xs. AllPairs (λ u v. u ≢ v) xs) (sym whole) (AllPairs-filter (λ u v. u ≢ v) (λ u. has levels (get_or keys u 0)) order keyed.once);
      each = λ v. (λ inside. on_cycle v (subst (λ xs. Contains xs v) whole inside), λ h. subst (λ xs. Contains xs v) (sym whole) (listed v h));
      some = runs.some;
      mutual_inside = λ k e lt u v inside also. let one = Contains-get_or cycles k e lt in keyed.by_key u v (among (get_or cycles k e) one u inside) (among (get_or cycles k e) one v also) (runs.level k e lt u v inside also);
      ahead = λ i j e lt small_j u v inside also leads. runs.apart i j e lt small_j u v inside also (across (λ x y. LeadsOn d links any_link y x → get_or keys x 0 ≡ get_or keys y 0) keyed.ahead i j e lt small_j u v inside also leads);
    }

    pub in_listing_order : AreInListingOrder order cycles
    in_listing_order = subst (λ xs. xs ≡ filter (λ v. has_node v xs) order) (sym whole) (filter_among (λ u. has levels (get_or keys u 0)) order)
