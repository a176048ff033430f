-- The texts of a filter's levels make its whole text, and what lies below a level is lighter.
use Rattle.std.proofs.Common.{◌≡◌, ◌∙◌, ℕ, zero, suc, ◌+◌, ◌-◌, ◌/◌, ◌<◌, ◌≤◌, List, ◌++◌, append_assoc, append-nil, refl, sym, ap, subst, arith}
use Rattle.nextest_filter_tokens.specs.declared.operator_signs.OrOperator.{OrOperator}
use Rattle.nextest_filter_tokens.specs.declared.operator_signs.AndOperator.{AndOperator}
use Rattle.nextest_filter_syntax.specs.declared.parsed_leaf.ParsedLeaf.{ParsedLeaf}
use Rattle.nextest_filter_syntax.specs.declared.parsed_expr.ParsedExpr.{ParsedExpr, Not', Union', Intersection', Difference', Parens', Set}
use Rattle.nextest_filter_syntax.specs.Trees.{Tree, not_of, union_of, intersection_of, difference_of, parens_of, set_of, tree_of}
use Rattle.nextest_filter_syntax.specs.TreeTexts.{tree_text}
use Rattle.nextest_filter_syntax.specs.Levels.{closing, closings, descended, left_of, opening, openings}

regrouped : (a b c d e : List ℕ) → (a ++ b) ++ (c ++ (d ++ e)) ≡ a ++ ((b ++ (c ++ d)) ++ e)
regrouped a b c d e = simp append_assoc

same_or_less : (a : ℕ) → a ≤ a
same_or_less a = omega arith

chained : {a b c : ℕ} → a ≤ b → b ≤ c → a ≤ c
chained p q = omega (arith, p, q)

one_more : (a : ℕ) → a ≤ suc a
one_more a = omega arith

both_more : (a b : ℕ) → a ≤ suc (a + b)
both_more a b = omega arith

under_one : {a b : ℕ} → a ≤ b → a < suc b
under_one p = omega (arith, p)

under_both : {a b : ℕ} (c : ℕ) → a ≤ b → a < suc (b + c)
under_both c p = omega (arith, p)

second_under : (a b : ℕ) → b < suc (a + b)
second_under a b = omega arith

module _ {S : Type 0} where
  level_text : (t : Tree S) → opening t ++ (tree_text (left_of t) ++ closing t) ≡ tree_text t
  level_text (not_of op x) = simp (append_assoc, append-nil)
  level_text (union_of op x y) = refl
  level_text (intersection_of op x y) = refl
  level_text (difference_of x y) = refl
  level_text (parens_of x) = refl
  level_text (set_of leaf) = append-nil _

  pub whole_text : (n : ℕ) (t : Tree S) → openings n t ++ (tree_text (descended n t) ++ closings n t) ≡ tree_text t
  whole_text zero t = append-nil (tree_text t)
  whole_text (suc n) t =
      regrouped (opening t) (openings n (left_of t)) (tree_text (descended n (left_of t))) (closings n (left_of t)) (closing t)
      ∙ ap (λ s. opening t ++ (s ++ closing t)) (whole_text n (left_of t)) ∙ level_text t

  openings_more : (n : ℕ) (t : Tree S) → 0 < n → openings n t ≡ opening t ++ openings (n - 1) (left_of t)
  openings_more zero t some = absurd (omega (arith, some))
  openings_more (suc n) t some =
      let e : n ≡ suc n - 1 = omega arith in
      ap (λ k. opening t ++ openings k (left_of t)) e

  pub openings_next : (n : ℕ) (t next : Tree S) (before all : List ℕ) → 0 < n → next ≡ left_of t → before ++ openings n t ≡ all → (before ++ opening t) ++ openings (n - 1) next ≡ all
  openings_next n t next before all some is same =
      append_assoc before (opening t) (openings (n - 1) next)
      ∙ ap (λ u. before ++ (opening t ++ openings (n - 1) u)) is
      ∙ ap (λ s. before ++ s) (sym (openings_more n t some)) ∙ same

  closings_apart : (m n k : ℕ) (t : Tree S) → m + n ≡ k → closings n (descended m t) ++ closings m t ≡ closings k t
  closings_apart zero n k t sum =
      let e : n ≡ k = omega (arith, sum) in
      append-nil (closings n t) ∙ ap (λ k. closings k t) e
  closings_apart (suc m) n zero t sum = absurd (omega (arith, sum))
  closings_apart (suc m) n (suc k) t sum =
      let e : m + n ≡ k = omega (arith, sum) in
      sym (append_assoc (closings n (descended m (left_of t))) (closings m (left_of t)) (closing t))
      ∙ ap (λ s. s ++ closing t) (closings_apart m n k (left_of t) e)

  pub closings_halved : (n : ℕ) (t inner : Tree S) → inner ≡ descended (n / 2) t → closings (n - n / 2) inner ++ closings (n / 2) t ≡ closings n t
  closings_halved n t inner is =
      let e : n / 2 + (n - n / 2) ≡ n = omega arith in
      ap (λ u. closings (n - n / 2) u ++ closings (n / 2) t) is ∙ closings_apart (n / 2) (n - n / 2) n t e

  -- how many operators and parentheses a filter has
  abbrev pub weight : Tree S → ℕ
  weight (not_of op x) = suc (weight x)
  weight (union_of op x y) = suc (weight x + weight y)
  weight (intersection_of op x y) = suc (weight x + weight y)
  weight (difference_of x y) = suc (weight x + weight y)
  weight (parens_of x) = suc (weight x)
  weight (set_of leaf) = 0

  lighter_left : (t : Tree S) → weight (left_of t) ≤ weight t
  lighter_left (not_of op x) = one_more (weight x)
  lighter_left (union_of op x y) = both_more (weight x) (weight y)
  lighter_left (intersection_of op x y) = both_more (weight x) (weight y)
  lighter_left (difference_of x y) = both_more (weight x) (weight y)
  lighter_left (parens_of x) = one_more (weight x)
  lighter_left (set_of leaf) = same_or_less 0

  no_heavier : (n : ℕ) (t : Tree S) → weight (descended n t) ≤ weight t
  no_heavier zero t = same_or_less (weight t)
  no_heavier (suc n) t = chained (no_heavier n (left_of t)) (lighter_left t)

  pub inner_no_heavier : (n : ℕ) (t inner : Tree S) → inner ≡ descended n t → weight inner ≤ weight t
  inner_no_heavier n t inner is = subst (λ u. weight u ≤ weight t) (sym is) (no_heavier n t)

  below : (n : ℕ) (e : ParsedExpr S) → 0 < n → ((leaf : ParsedLeaf S) → e ≡ Set leaf → ⊥) → weight (descended n (tree_of e)) < weight (tree_of e)
  below zero e some other = absurd (omega (arith, some))
  below (suc n) (Not' op p x) some other = under_one (no_heavier n (tree_of x))
  below (suc n) (Union' op p x q y) some other = under_both (weight (tree_of y)) (no_heavier n (tree_of x))
  below (suc n) (Intersection' op p x q y) some other = under_both (weight (tree_of y)) (no_heavier n (tree_of x))
  below (suc n) (Difference' op p x q y) some other = under_both (weight (tree_of y)) (no_heavier n (tree_of x))
  below (suc n) (Parens' p x) some other = under_one (no_heavier n (tree_of x))
  below (suc n) (Set leaf) some other = absurd (other leaf refl)

  pub inner_lighter : (n : ℕ) (e : ParsedExpr S) (inner : Tree S) → 0 < n → ((leaf : ParsedLeaf S) → e ≡ Set leaf → ⊥) → inner ≡ descended n (tree_of e) → weight inner < weight (tree_of e)
  inner_lighter n e inner some other is = subst (λ u. weight u < weight (tree_of e)) (sym is) (below n e some other)

  pub union_right : (op : OrOperator) (t x y : Tree S) → t ≡ union_of op x y → weight y < weight t
  union_right op t x y is = subst (λ u. weight y < weight u) (sym is) (second_under (weight x) (weight y))

  pub intersection_right : (op : AndOperator) (t x y : Tree S) → t ≡ intersection_of op x y → weight y < weight t
  intersection_right op t x y is = subst (λ u. weight y < weight u) (sym is) (second_under (weight x) (weight y))

  pub difference_right : (t x y : Tree S) → t ≡ difference_of x y → weight y < weight t
  difference_right t x y is = subst (λ u. weight y < weight u) (sym is) (second_under (weight x) (weight y))
