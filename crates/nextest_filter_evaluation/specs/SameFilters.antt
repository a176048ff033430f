-- Filters that are compiled alike, by what is alike of their leaves.
use Rattle.std.specs.Prelude.{◌≡◌, Bool, true, false, ◌&&◌}
use Rattle.std.specs.Cmp.{IsEquivalence, IsPartialEquivalence, equiv, partial_equiv_from_equiv}
use Rattle.std.proofs.Common.{refl}
use Rattle.std.proofs.lemmas.Bool.{false≢true, and_parts, and_from}
use Rattle.nextest_filter_evaluation.specs.declared.filterset_leaf.FiltersetLeaf.{FiltersetLeaf}
use Rattle.nextest_filter_evaluation.specs.declared.compiled_expr.CompiledExpr.{CompiledExpr, Not', Union', Intersection', Set}

-- conjunctions of equal parts are equal
both_turned : {a b c d : Bool} → a ≡ c → b ≡ d → (a && b) ≡ (c && d)
both_turned p q = cc

module _ (leaves : FiltersetLeaf → FiltersetLeaf → Bool) where
  -- whether two filters have the same operators, and alike leaves
  abbrev pub same_filters : CompiledExpr → CompiledExpr → Bool
  same_filters (Not' p x) (Not' p1 x1) = same_filters x x1
  same_filters (Union' p x q y) (Union' p1 x1 q1 y1) = same_filters y y1 && same_filters x x1
  same_filters (Intersection' p x q y) (Intersection' p1 x1 q1 y1) =
      same_filters y y1 && same_filters x x1
  same_filters (Set l) (Set l1) = leaves l l1
  same_filters _ _ = false

  module _ (leaf_laws : IsPartialEquivalence leaves) where
    -- alike either way round
    turned : (a b : CompiledExpr) → same_filters a b ≡ same_filters b a
    turned (Not' p x) (Not' p1 x1) = turned x x1
    turned (Not' p x) (Union' p1 x1 q1 y1) = refl
    turned (Not' p x) (Intersection' p1 x1 q1 y1) = refl
    turned (Not' p x) (Set l1) = refl
    turned (Union' p x q y) (Not' p1 x1) = refl
    turned (Union' p x q y) (Union' p1 x1 q1 y1) = both_turned (turned y y1) (turned x x1)
    turned (Union' p x q y) (Intersection' p1 x1 q1 y1) = refl
    turned (Union' p x q y) (Set l1) = refl
    turned (Intersection' p x q y) (Not' p1 x1) = refl
    turned (Intersection' p x q y) (Union' p1 x1 q1 y1) = refl
    turned (Intersection' p x q y) (Intersection' p1 x1 q1 y1) =
        both_turned (turned y y1) (turned x x1)
    turned (Intersection' p x q y) (Set l1) = refl
    turned (Set l) (Not' p1 x1) = refl
    turned (Set l) (Union' p1 x1 q1 y1) = refl
    turned (Set l) (Intersection' p1 x1 q1 y1) = refl
    turned (Set l) (Set l1) = leaf_laws.symm l l1

    -- alike to one that is alike to a third
    chained :
        (a b c : CompiledExpr) →
        same_filters a b ≡ true → same_filters b c ≡ true → same_filters a c ≡ true
    chained (Not' p x) (Not' p1 x1) (Not' p2 x2) e f = chained x x1 x2 e f
    chained (Not' p x) (Not' p1 x1) (Union' p2 x2 q2 y2) e f = absurd (false≢true f)
    chained (Not' p x) (Not' p1 x1) (Intersection' p2 x2 q2 y2) e f = absurd (false≢true f)
    chained (Not' p x) (Not' p1 x1) (Set l2) e f = absurd (false≢true f)
    chained (Not' p x) (Union' p1 x1 q1 y1) z e f = absurd (false≢true e)
    chained (Not' p x) (Intersection' p1 x1 q1 y1) z e f = absurd (false≢true e)
    chained (Not' p x) (Set l1) z e f = absurd (false≢true e)
    chained (Union' p x q y) (Not' p1 x1) z e f = absurd (false≢true e)
    chained (Union' p x q y) (Union' p1 x1 q1 y1) (Not' p2 x2) e f = absurd (false≢true f)
    chained (Union' p x q y) (Union' p1 x1 q1 y1) (Union' p2 x2 q2 y2) e f =
        let v = and_parts _ _ e in let w = and_parts _ _ f in
        and_from _ _ (chained y y1 y2 v.0 w.0) (chained x x1 x2 v.1 w.1)
    chained (Union' _ _ _ _) (Union' _ _ _ _) (Intersection' _ _ _ _) e f = absurd (false≢true f)
    chained (Union' p x q y) (Union' p1 x1 q1 y1) (Set l2) e f = absurd (false≢true f)
    chained (Union' p x q y) (Intersection' p1 x1 q1 y1) z e f = absurd (false≢true e)
    chained (Union' p x q y) (Set l1) z e f = absurd (false≢true e)
    chained (Intersection' p x q y) (Not' p1 x1) z e f = absurd (false≢true e)
    chained (Intersection' p x q y) (Union' p1 x1 q1 y1) z e f = absurd (false≢true e)
    chained (Intersection' _ _ _ _) (Intersection' _ _ _ _) (Not' _ _) e f = absurd (false≢true f)
    chained (Intersection' _ _ _ _) (Intersection' _ _ _ _) (Union' _ _ _ _) e f = absurd (false≢true f)
    chained (Intersection' p x q y) (Intersection' p1 x1 q1 y1) (Intersection' p2 x2 q2 y2) e f =
        let v = and_parts _ _ e in let w = and_parts _ _ f in
        and_from _ _ (chained y y1 y2 v.0 w.0) (chained x x1 x2 v.1 w.1)
    chained (Intersection' _ _ _ _) (Intersection' _ _ _ _) (Set _) e f = absurd (false≢true f)
    chained (Intersection' p x q y) (Set l1) z e f = absurd (false≢true e)
    chained (Set l) (Not' p1 x1) z e f = absurd (false≢true e)
    chained (Set l) (Union' p1 x1 q1 y1) z e f = absurd (false≢true e)
    chained (Set l) (Intersection' p1 x1 q1 y1) z e f = absurd (false≢true e)
    chained (Set l) (Set l1) (Not' p2 x2) e f = absurd (false≢true f)
    chained (Set l) (Set l1) (Union' p2 x2 q2 y2) e f = absurd (false≢true f)
    chained (Set l) (Set l1) (Intersection' p2 x2 q2 y2) e f = absurd (false≢true f)
    chained (Set l) (Set l1) (Set l2) e f = leaf_laws.trans l l1 l2 e f

    -- the law of PartialEq
    pub same_filters_alike : IsPartialEquivalence same_filters
    same_filters_alike = record { symm = turned; trans = chained }

  module _ (leaf_laws : IsEquivalence leaves) where
    -- alike to itself
    itself : (a : CompiledExpr) → same_filters a a ≡ true
    itself (Not' p x) = itself x
    itself (Union' p x q y) = and_from _ _ (itself y) (itself x)
    itself (Intersection' p x q y) = and_from _ _ (itself y) (itself x)
    itself (Set l) = leaf_laws.refl l

    -- the law of Eq
    pub same_filters_equivalent : IsEquivalence same_filters
    same_filters_equivalent =
        equiv (same_filters_alike (partial_equiv_from_equiv leaf_laws)) itself
