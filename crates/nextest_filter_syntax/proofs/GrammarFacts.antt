-- A part of a filter by what it begins with, and how many ways there are to read it: one.
use Rattle.std.proofs.Common.{◌≡◌, ℕ, suc, ◌+◌, List, refl, sym, ◌∙◌, ap, subst, arith}
use Rattle.nextest_filter_matchers.specs.declared.source_span.SourceSpan.{SourceSpan}
use Rattle.nextest_filter_tokens.specs.Bytes.{skip}
use Rattle.nextest_filter_tokens.specs.Heads.{head_at}
use Rattle.nextest_filter_tokens.specs.declared.heads.Head.{Head}
use Rattle.nextest_filter_tokens.specs.declared.heads.Head.TheVariants.{Names, Platform, Says, Negates, Opens, Misplaces, Unknown}
use Rattle.nextest_filter_tokens.specs.declared.operators.Found.{Found}
use Rattle.nextest_filter_tokens.specs.declared.operators.Found.TheVariants.{Nothing, Joins, Wrong}
use Rattle.nextest_filter_syntax.specs.Leaves.{Leaf}
use Rattle.nextest_filter_syntax.specs.LeafGrammar.{LeafBy, Stands}
use Rattle.nextest_filter_syntax.proofs.OnceFacts.{leaves_read_once}
use Rattle.nextest_filter_syntax.specs.Trees.{Tree, not_of, parens_of, set_of}
use Rattle.nextest_filter_syntax.specs.Grammar.{MoreOf, Reads, chain, found_at, joined_of, leaf, negated, none, one, parens}
use Rattle.nextest_filter_syntax.specs.Reading.{Ends}
use Rattle.nextest_filter_syntax.specs.FilterLaws.{TextsReadAsOne}
use Rattle.nextest_filter_syntax.proofs.OperatorFacts.{close_ends, lower_none, whole_ends}

module _ (text : List ℕ) where
  -- what an operand is made of, by what it begins with
  abbrev pub OperandOf : ℕ → ℕ → Tree SourceSpan → ℕ → Head → Type 0
  OperandOf room i t j (Names predicate n) =
      (l : Leaf SourceSpan) × (t ≡ set_of l) × LeafBy text (skip text i) l j (Names predicate n)
  OperandOf room i t j (Platform n) =
      (l : Leaf SourceSpan) × (t ≡ set_of l) × LeafBy text (skip text i) l j (Platform n)
  OperandOf room i t j (Says word n) =
      (l : Leaf SourceSpan) × (t ≡ set_of l) × LeafBy text (skip text i) l j (Says word n)
  OperandOf room i t j (Negates op n) =
      (x : Tree SourceSpan) × (d : ℕ) × (room ≡ suc d) × (t ≡ not_of op x) × Reads text d 0 n x j
  OperandOf room i t j (Opens n) =
      (x : Tree SourceSpan) × (d : ℕ) × (k : ℕ) × (room ≡ suc d) × (t ≡ parens_of x) × Reads text d 2 n x k × Stands text k 41 j
  OperandOf room i t j (Misplaces op n) = ⊥
  OperandOf room i t j Unknown = ⊥

  leaf_operand : (h : Head) (room i j : ℕ) (l : Leaf SourceSpan) → LeafBy text (skip text i) l j h → OperandOf room i (set_of l) j h
  leaf_operand (Names predicate n) room i j l r = (l, refl, r)
  leaf_operand (Platform n) room i j l r = (l, refl, r)
  leaf_operand (Says word n) room i j l r = (l, refl, r)
  leaf_operand (Negates op n) room i j l r = absurd r
  leaf_operand (Opens n) room i j l r = absurd r
  leaf_operand (Misplaces op n) room i j l r = absurd r
  leaf_operand Unknown room i j l r = absurd r

  pub operand_at : (room i j : ℕ) (t : Tree SourceSpan) → Reads text room 0 i t j → OperandOf room i t j (head_at text (skip text i))
  operand_at room i j t (leaf {l = l} r) = leaf_operand (head_at text (skip text i)) room i j l r
  operand_at room i j t (negated {room = d} {op = op} {x = x} h r) =
      subst (OperandOf room i t j) (sym h) (x, d, refl, refl, r)
  operand_at room i j t (parens {room = d} {k = k} {x = x} h r s) =
      subst (OperandOf room i t j) (sym h) (x, d, k, refl, refl, r, s)

  -- what follows a tree, by what stands in an operator's place
  abbrev pub BehindOf : ℕ → ℕ → ℕ → Tree SourceSpan → Tree SourceSpan → ℕ → Found → Type 0
  BehindOf room level k a t j Nothing = (t ≡ a) × (k ≡ j)
  BehindOf room level k a t j (Joins op m) =
      (b : Tree SourceSpan) × (n : ℕ) × Reads text room level m b n × MoreOf text room level n (joined_of op a b) t j
  BehindOf room level k a t j (Wrong m) = ⊥

  pub behind_at : (room level k j : ℕ) (a t : Tree SourceSpan) → MoreOf text room level k a t j → Ends text (suc level) j → BehindOf room level k a t j (found_at text level (skip text k))
  behind_at room level k j a t none ends =
      subst (BehindOf room level k a t j) (sym (ends level (omega arith))) (refl, refl)
  behind_at room level k j a t (one {n = n} {b = b} h r more) ends =
      subst (BehindOf room level k a t j) (sym h) (b, n, r, more)

  -- a part ends where another follows it
  pub part_ends : (room level n j : ℕ) (a t : Tree SourceSpan) → MoreOf text room level n a t j → Ends text (suc level) j → Ends text level n
  part_ends room level n j a t none ends k lt = ends k (omega arith)
  part_ends room level n j a t (one {m = m} {op = op} h r more) ends k lt = lower_none text level k (skip text n) op m lt h

  operand_ends : (j : ℕ) → Ends text 0 j
  operand_ends j k lt = absurd (omega arith)

  -- a leaf is no negation and no parentheses
  leaf_is : (h : Head) (room i j k : ℕ) (l : Leaf SourceSpan) (u : Tree SourceSpan) → LeafBy text (skip text i) l j h → OperandOf room i u k h → (m : Leaf SourceSpan) × (u ≡ set_of m) × LeafBy text (skip text i) m k h
  leaf_is (Names predicate n) room i j k l u r q = q
  leaf_is (Platform n) room i j k l u r q = q
  leaf_is (Says word n) room i j k l u r q = q
  leaf_is (Negates op n) room i j k l u r q = absurd r
  leaf_is (Opens n) room i j k l u r q = absurd r
  leaf_is (Misplaces op n) room i j k l u r q = absurd r
  leaf_is Unknown room i j k l u r q = absurd r

  pub level_of_chain : {room level i j : ℕ} {t : Tree SourceSpan} → Reads text room (suc level) i t j → (a : Tree SourceSpan) × (m : ℕ) × Reads text room level i a m × MoreOf text room level m a t j
  level_of_chain (chain {m = m} {a = a} r more) = (a, m, r, more)

  same_room : {d e : ℕ} → suc d ≡ suc e → d ≡ e
  same_room h = omega arith

  mutual
    pub reads_once : {room level i j k : ℕ} {t u : Tree SourceSpan} → Reads text room level i t j → Reads text room level i u k → Ends text level j → Ends text level k → (t ≡ u) × (j ≡ k)
    reads_once {room = room} {i = i} {j = j} {k = k} {u = u} (leaf {l = l} r) q jend kend =
        let w = leaf_is (head_at text (skip text i)) room i j k l u r (operand_at room i k u q) in
        let same = leaves_read_once text (skip text i) j k l w.0 r w.2 in
        (ap (λ m. set_of m) same.0 ∙ sym w.1, same.1)
    reads_once {room = room} {i = i} {k = k} {u = u} (negated {room = d} {m = m} {op = op} h r) q jend kend =
        let w = subst (OperandOf room i u k) h (operand_at room i k u q) in
        let s = subst (λ e. Reads text e 0 m w.0 k) (sym (same_room w.2)) w.4 in
        let same = reads_once r s (operand_ends _) (operand_ends _) in
        (ap (λ x. not_of op x) same.0 ∙ sym w.3, same.1)
    reads_once {room = room} {i = i} {k = k} {u = u} (parens {room = d} {m = m} h r c) q jend kend =
        let w = subst (OperandOf room i u k) h (operand_at room i k u q) in
        let s = subst (λ e. Reads text e 2 m w.0 w.2) (sym (same_room w.3)) w.5 in
        let same = reads_once r s (close_ends text _ 2 c.0) (close_ends text _ 2 w.6.0) in
        (ap (λ x. parens_of x) same.0 ∙ sym w.4, c.1 ∙ ap (λ n. skip text n + 1) same.1 ∙ sym w.6.1)
    reads_once {room = room} {level = suc level} {k = k} {u = u} (chain {a = a} r more) q jend kend =
        let w = level_of_chain q in
        let first = reads_once r w.2 (part_ends _ _ _ _ _ _ more jend) (part_ends _ _ _ _ _ _ w.3 kend) in
        let rest = subst (λ b. MoreOf text room level w.1 b u k) (sym first.0) w.3 in
        more_once more (subst (λ n. MoreOf text room level n a u k) (sym first.1) rest) jend kend

    more_once : {room level k j n : ℕ} {a t u : Tree SourceSpan} → MoreOf text room level k a t j → MoreOf text room level k a u n → Ends text (suc level) j → Ends text (suc level) n → (t ≡ u) × (j ≡ n)
    more_once {room = room} {level = level} {k = k} {n = n} {a = a} {u = u} none q jend nend =
        let w = subst (BehindOf room level k a u n) (jend level (omega arith)) (behind_at room level k n a u q nend) in
        (sym w.0, w.1)
    more_once {room = room} {level = level} {k = k} {n = n} {a = a} {u = u} (one {op = op} {b = b} h r more) q jend nend =
        let w = subst (BehindOf room level k a u n) h (behind_at room level k n a u q nend) in
        let first = reads_once r w.2 (part_ends _ _ _ _ _ _ more jend) (part_ends _ _ _ _ _ _ w.3 nend) in
        let rest = subst (λ c. MoreOf text room level w.1 (joined_of op a c) u n) (sym first.0) w.3 in
        more_once more (subst (λ m. MoreOf text room level m (joined_of op a b) u n) (sym first.1) rest) jend nend

pub texts_read_as_one : TextsReadAsOne
texts_read_as_one text t u r s =
    (reads_once text r.1 s.1 (whole_ends text r.0 2 r.2) (whole_ends text s.0 2 s.2)).0
