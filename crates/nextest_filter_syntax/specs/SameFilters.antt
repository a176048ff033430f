-- Filters that are written alike, by what is alike of their operators and leaves.
use Rattle.std.specs.Prelude.{◌≡◌, Bool, true, false, ◌&&◌}
use Rattle.std.specs.Cmp.{IsEquivalence, IsPartialEquivalence, equiv, partial_equiv_from_equiv}
use Rattle.std.proofs.Common.{refl}
use Rattle.std.proofs.lemmas.Bool.{false≢true, and_parts, and_from}
use Rattle.nextest_filter_tokens.specs.declared.operator_signs.NotOperator.{NotOperator}
use Rattle.nextest_filter_tokens.specs.declared.operator_signs.OrOperator.{OrOperator}
use Rattle.nextest_filter_tokens.specs.declared.operator_signs.AndOperator.{AndOperator}
use Rattle.nextest_filter_tokens.specs.declared.operator_signs.DifferenceOperator.{DifferenceOperator}
use Rattle.nextest_filter_syntax.specs.declared.parsed_leaf.ParsedLeaf.{ParsedLeaf}
use Rattle.nextest_filter_syntax.specs.declared.parsed_expr.ParsedExpr.{ParsedExpr, Not', Union', Intersection', Difference', Parens', Set}

both_turned : {a b c d : Bool} → a ≡ c → b ≡ d → (a && b) ≡ (c && d)
both_turned p q = cc

module _ {S : Type 0} (nots : NotOperator → NotOperator → Bool) (ors : OrOperator → OrOperator → Bool) (ands : AndOperator → AndOperator → Bool) (minuses : DifferenceOperator → DifferenceOperator → Bool) (leaves : ParsedLeaf S → ParsedLeaf S → Bool) where
  abbrev pub same_filters : ParsedExpr S → ParsedExpr S → Bool
  same_filters (Not' op p x) (Not' op1 p1 x1) = nots op op1 && same_filters x x1
  same_filters (Union' op p x q y) (Union' op1 p1 x1 q1 y1) = ors op op1 && (same_filters y y1 && same_filters x x1)
  same_filters (Intersection' op p x q y) (Intersection' op1 p1 x1 q1 y1) = ands op op1 && (same_filters y y1 && same_filters x x1)
  same_filters (Difference' op p x q y) (Difference' op1 p1 x1 q1 y1) = minuses op op1 && (same_filters y y1 && same_filters x x1)
  same_filters (Parens' p x) (Parens' p1 x1) = same_filters x x1
  same_filters (Set l) (Set l1) = leaves l l1
  same_filters _ _ = false

  module _ (not_laws : IsPartialEquivalence nots) (or_laws : IsPartialEquivalence ors) (and_laws : IsPartialEquivalence ands) (minus_laws : IsPartialEquivalence minuses) (leaf_laws : IsPartialEquivalence leaves) where
    turned : (a b : ParsedExpr S) → same_filters a b ≡ same_filters b a
    turned (Not' op p x) (Not' op1 p1 x1) = both_turned (not_laws.symm op op1) (turned x x1)
    turned (Not' op p x) (Union' op1 p1 x1 q1 y1) = refl
    turned (Not' op p x) (Intersection' op1 p1 x1 q1 y1) = refl
    turned (Not' op p x) (Difference' op1 p1 x1 q1 y1) = refl
    turned (Not' op p x) (Parens' p1 x1) = refl
    turned (Not' op p x) (Set l1) = refl
    turned (Union' op p x q y) (Not' op1 p1 x1) = refl
    turned (Union' op p x q y) (Union' op1 p1 x1 q1 y1) = both_turned (or_laws.symm op op1) (both_turned (turned y y1) (turned x x1))
    turned (Union' op p x q y) (Intersection' op1 p1 x1 q1 y1) = refl
    turned (Union' op p x q y) (Difference' op1 p1 x1 q1 y1) = refl
    turned (Union' op p x q y) (Parens' p1 x1) = refl
    turned (Union' op p x q y) (Set l1) = refl
    turned (Intersection' op p x q y) (Not' op1 p1 x1) = refl
    turned (Intersection' op p x q y) (Union' op1 p1 x1 q1 y1) = refl
    turned (Intersection' op p x q y) (Intersection' op1 p1 x1 q1 y1) = both_turned (and_laws.symm op op1) (both_turned (turned y y1) (turned x x1))
    turned (Intersection' op p x q y) (Difference' op1 p1 x1 q1 y1) = refl
    turned (Intersection' op p x q y) (Parens' p1 x1) = refl
    turned (Intersection' op p x q y) (Set l1) = refl
    turned (Difference' op p x q y) (Not' op1 p1 x1) = refl
    turned (Difference' op p x q y) (Union' op1 p1 x1 q1 y1) = refl
    turned (Difference' op p x q y) (Intersection' op1 p1 x1 q1 y1) = refl
    turned (Difference' op p x q y) (Difference' op1 p1 x1 q1 y1) = both_turned (minus_laws.symm op op1) (both_turned (turned y y1) (turned x x1))
    turned (Difference' op p x q y) (Parens' p1 x1) = refl
    turned (Difference' op p x q y) (Set l1) = refl
    turned (Parens' p x) (Not' op1 p1 x1) = refl
    turned (Parens' p x) (Union' op1 p1 x1 q1 y1) = refl
    turned (Parens' p x) (Intersection' op1 p1 x1 q1 y1) = refl
    turned (Parens' p x) (Difference' op1 p1 x1 q1 y1) = refl
    turned (Parens' p x) (Parens' p1 x1) = turned x x1
    turned (Parens' p x) (Set l1) = refl
    turned (Set l) (Not' op1 p1 x1) = refl
    turned (Set l) (Union' op1 p1 x1 q1 y1) = refl
    turned (Set l) (Intersection' op1 p1 x1 q1 y1) = refl
    turned (Set l) (Difference' op1 p1 x1 q1 y1) = refl
    turned (Set l) (Parens' p1 x1) = refl
    turned (Set l) (Set l1) = leaf_laws.symm l l1

    chained : (a b c : ParsedExpr S) → same_filters a b ≡ true → same_filters b c ≡ true → same_filters a c ≡ true
    chained (Not' op p x) (Not' op1 p1 x1) (Not' op2 p2 x2) e f = let v0 = and_parts _ _ e in let w0 = and_parts _ _ f in and_from _ _ (not_laws.trans op op1 op2 v0.0 w0.0) (chained x x1 x2 v0.1 w0.1)
    chained (Not' op p x) (Not' op1 p1 x1) (Union' op2 p2 x2 q2 y2) e f = absurd (false≢true f)
    chained (Not' op p x) (Not' op1 p1 x1) (Intersection' op2 p2 x2 q2 y2) e f = absurd (false≢true f)
    chained (Not' op p x) (Not' op1 p1 x1) (Difference' op2 p2 x2 q2 y2) e f = absurd (false≢true f)
    chained (Not' op p x) (Not' op1 p1 x1) (Parens' p2 x2) e f = absurd (false≢true f)
    chained (Not' op p x) (Not' op1 p1 x1) (Set l2) e f = absurd (false≢true f)
    chained (Not' op p x) (Union' op1 p1 x1 q1 y1) z e f = absurd (false≢true e)
    chained (Not' op p x) (Intersection' op1 p1 x1 q1 y1) z e f = absurd (false≢true e)
    chained (Not' op p x) (Difference' op1 p1 x1 q1 y1) z e f = absurd (false≢true e)
    chained (Not' op p x) (Parens' p1 x1) z e f = absurd (false≢true e)
    chained (Not' op p x) (Set l1) z e f = absurd (false≢true e)
    chained (Union' op p x q y) (Not' op1 p1 x1) z e f = absurd (false≢true e)
    chained (Union' op p x q y) (Union' op1 p1 x1 q1 y1) (Not' op2 p2 x2) e f = absurd (false≢true f)
    chained (Union' op p x q y) (Union' op1 p1 x1 q1 y1) (Union' op2 p2 x2 q2 y2) e f = let v0 = and_parts _ _ e in let w0 = and_parts _ _ f in and_from _ _ (or_laws.trans op op1 op2 v0.0 w0.0) (let v1 = and_parts _ _ v0.1 in let w1 = and_parts _ _ w0.1 in and_from _ _ (chained y y1 y2 v1.0 w1.0) (chained x x1 x2 v1.1 w1.1))
    chained (Union' op p x q y) (Union' op1 p1 x1 q1 y1) (Intersection' op2 p2 x2 q2 y2) e f = absurd (false≢true f)
    chained (Union' op p x q y) (Union' op1 p1 x1 q1 y1) (Difference' op2 p2 x2 q2 y2) e f = absurd (false≢true f)
    chained (Union' op p x q y) (Union' op1 p1 x1 q1 y1) (Parens' p2 x2) e f = absurd (false≢true f)
    chained (Union' op p x q y) (Union' op1 p1 x1 q1 y1) (Set l2) e f = absurd (false≢true f)
    chained (Union' op p x q y) (Intersection' op1 p1 x1 q1 y1) z e f = absurd (false≢true e)
    chained (Union' op p x q y) (Difference' op1 p1 x1 q1 y1) z e f = absurd (false≢true e)
    chained (Union' op p x q y) (Parens' p1 x1) z e f = absurd (false≢true e)
    chained (Union' op p x q y) (Set l1) z e f = absurd (false≢true e)
    chained (Intersection' op p x q y) (Not' op1 p1 x1) z e f = absurd (false≢true e)
    chained (Intersection' op p x q y) (Union' op1 p1 x1 q1 y1) z e f = absurd (false≢true e)
    chained (Intersection' op p x q y) (Intersection' op1 p1 x1 q1 y1) (Not' op2 p2 x2) e f = absurd (false≢true f)
    chained (Intersection' op p x q y) (Intersection' op1 p1 x1 q1 y1) (Union' op2 p2 x2 q2 y2) e f = absurd (false≢true f)
    chained (Intersection' op p x q y) (Intersection' op1 p1 x1 q1 y1) (Intersection' op2 p2 x2 q2 y2) e f = let v0 = and_parts _ _ e in let w0 = and_parts _ _ f in and_from _ _ (and_laws.trans op op1 op2 v0.0 w0.0) (let v1 = and_parts _ _ v0.1 in let w1 = and_parts _ _ w0.1 in and_from _ _ (chained y y1 y2 v1.0 w1.0) (chained x x1 x2 v1.1 w1.1))
    chained (Intersection' op p x q y) (Intersection' op1 p1 x1 q1 y1) (Difference' op2 p2 x2 q2 y2) e f = absurd (false≢true f)
    chained (Intersection' op p x q y) (Intersection' op1 p1 x1 q1 y1) (Parens' p2 x2) e f = absurd (false≢true f)
    chained (Intersection' op p x q y) (Intersection' op1 p1 x1 q1 y1) (Set l2) e f = absurd (false≢true f)
    chained (Intersection' op p x q y) (Difference' op1 p1 x1 q1 y1) z e f = absurd (false≢true e)
    chained (Intersection' op p x q y) (Parens' p1 x1) z e f = absurd (false≢true e)
    chained (Intersection' op p x q y) (Set l1) z e f = absurd (false≢true e)
    chained (Difference' op p x q y) (Not' op1 p1 x1) z e f = absurd (false≢true e)
    chained (Difference' op p x q y) (Union' op1 p1 x1 q1 y1) z e f = absurd (false≢true e)
    chained (Difference' op p x q y) (Intersection' op1 p1 x1 q1 y1) z e f = absurd (false≢true e)
    chained (Difference' op p x q y) (Difference' op1 p1 x1 q1 y1) (Not' op2 p2 x2) e f = absurd (false≢true f)
    chained (Difference' op p x q y) (Difference' op1 p1 x1 q1 y1) (Union' op2 p2 x2 q2 y2) e f = absurd (false≢true f)
    chained (Difference' op p x q y) (Difference' op1 p1 x1 q1 y1) (Intersection' op2 p2 x2 q2 y2) e f = absurd (false≢true f)
    chained (Difference' op p x q y) (Difference' op1 p1 x1 q1 y1) (Difference' op2 p2 x2 q2 y2) e f = let v0 = and_parts _ _ e in let w0 = and_parts _ _ f in and_from _ _ (minus_laws.trans op op1 op2 v0.0 w0.0) (let v1 = and_parts _ _ v0.1 in let w1 = and_parts _ _ w0.1 in and_from _ _ (chained y y1 y2 v1.0 w1.0) (chained x x1 x2 v1.1 w1.1))
    chained (Difference' op p x q y) (Difference' op1 p1 x1 q1 y1) (Parens' p2 x2) e f = absurd (false≢true f)
    chained (Difference' op p x q y) (Difference' op1 p1 x1 q1 y1) (Set l2) e f = absurd (false≢true f)
    chained (Difference' op p x q y) (Parens' p1 x1) z e f = absurd (false≢true e)
    chained (Difference' op p x q y) (Set l1) z e f = absurd (false≢true e)
    chained (Parens' p x) (Not' op1 p1 x1) z e f = absurd (false≢true e)
    chained (Parens' p x) (Union' op1 p1 x1 q1 y1) z e f = absurd (false≢true e)
    chained (Parens' p x) (Intersection' op1 p1 x1 q1 y1) z e f = absurd (false≢true e)
    chained (Parens' p x) (Difference' op1 p1 x1 q1 y1) z e f = absurd (false≢true e)
    chained (Parens' p x) (Parens' p1 x1) (Not' op2 p2 x2) e f = absurd (false≢true f)
    chained (Parens' p x) (Parens' p1 x1) (Union' op2 p2 x2 q2 y2) e f = absurd (false≢true f)
    chained (Parens' p x) (Parens' p1 x1) (Intersection' op2 p2 x2 q2 y2) e f = absurd (false≢true f)
    chained (Parens' p x) (Parens' p1 x1) (Difference' op2 p2 x2 q2 y2) e f = absurd (false≢true f)
    chained (Parens' p x) (Parens' p1 x1) (Parens' p2 x2) e f = chained x x1 x2 e f
    chained (Parens' p x) (Parens' p1 x1) (Set l2) e f = absurd (false≢true f)
    chained (Parens' p x) (Set l1) z e f = absurd (false≢true e)
    chained (Set l) (Not' op1 p1 x1) z e f = absurd (false≢true e)
    chained (Set l) (Union' op1 p1 x1 q1 y1) z e f = absurd (false≢true e)
    chained (Set l) (Intersection' op1 p1 x1 q1 y1) z e f = absurd (false≢true e)
    chained (Set l) (Difference' op1 p1 x1 q1 y1) z e f = absurd (false≢true e)
    chained (Set l) (Parens' p1 x1) z e f = absurd (false≢true e)
    chained (Set l) (Set l1) (Not' op2 p2 x2) e f = absurd (false≢true f)
    chained (Set l) (Set l1) (Union' op2 p2 x2 q2 y2) e f = absurd (false≢true f)
    chained (Set l) (Set l1) (Intersection' op2 p2 x2 q2 y2) e f = absurd (false≢true f)
    chained (Set l) (Set l1) (Difference' op2 p2 x2 q2 y2) e f = absurd (false≢true f)
    chained (Set l) (Set l1) (Parens' p2 x2) e f = absurd (false≢true f)
    chained (Set l) (Set l1) (Set l2) e f = leaf_laws.trans l l1 l2 e f

    pub same_filters_alike : IsPartialEquivalence same_filters
    same_filters_alike = record { symm = turned; trans = chained }

  module _ (not_laws : IsEquivalence nots) (or_laws : IsEquivalence ors) (and_laws : IsEquivalence ands) (minus_laws : IsEquivalence minuses) (leaf_laws : IsEquivalence leaves) where
    itself : (a : ParsedExpr S) → same_filters a a ≡ true
    itself (Not' op p x) = and_from _ _ (not_laws.refl op) (itself x)
    itself (Union' op p x q y) = and_from _ _ (or_laws.refl op) (and_from _ _ (itself y) (itself x))
    itself (Intersection' op p x q y) = and_from _ _ (and_laws.refl op) (and_from _ _ (itself y) (itself x))
    itself (Difference' op p x q y) = and_from _ _ (minus_laws.refl op) (and_from _ _ (itself y) (itself x))
    itself (Parens' p x) = itself x
    itself (Set l) = leaf_laws.refl l

    pub same_filters_equivalent : IsEquivalence same_filters
    same_filters_equivalent =
        equiv (same_filters_alike (partial_equiv_from_equiv not_laws) (partial_equiv_from_equiv or_laws) (partial_equiv_from_equiv and_laws) (partial_equiv_from_equiv minus_laws) (partial_equiv_from_equiv leaf_laws)) itself
