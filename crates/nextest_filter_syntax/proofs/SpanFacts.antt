-- The spans of a filter that is read lie within its text.
use Rattle.std.proofs.Common.{ℕ, ◌+◌, ◌≤◌, List, length, sym, subst, arith, inl, inr}
use Rattle.std.proofs.lemmas.Bool.{cases_lt}
use Rattle.std.specs.Str.{IsUtf8}
use Rattle.nextest_filter_matchers.specs.declared.source_span.SourceSpan.{SourceSpan}
use Rattle.nextest_filter_tokens.specs.Bytes.{skip}
use Rattle.nextest_filter_tokens.specs.Heads.{HeadEndsWithin, head_at}
use Rattle.nextest_filter_tokens.specs.declared.heads.Head.{Head}
use Rattle.nextest_filter_tokens.specs.declared.heads.Head.TheVariants.{Names, Platform as Platforms, Says, Negates, Opens, Misplaces, Unknown}
use Rattle.nextest_filter_tokens.specs.declared.heads.Nullary.{Nullary}
use Rattle.nextest_filter_tokens.specs.declared.heads.Nullary.TheVariants as nullary
use Rattle.nextest_filter_tokens.specs.declared.operators.Operator.{Operator}
use Rattle.nextest_filter_tokens.specs.declared.operators.Operator.TheVariants.{Or, And, Minus}
use Rattle.nextest_filter_tokens.proofs.BlankFacts.{byte_within, skip_rises}
use Rattle.nextest_filter_tokens.proofs.EndFacts.{head_ends}
use Rattle.nextest_filter_syntax.specs.Leaves.{Leaf, Named, Platform, Default, All, None}
use Rattle.nextest_filter_syntax.specs.LeafGrammar.{LeafBy, Stands, between, nullary_leaf}
use Rattle.nextest_filter_syntax.specs.Trees.{Tree, not_of, union_of, intersection_of, difference_of, parens_of, set_of}
use Rattle.nextest_filter_syntax.specs.Grammar.{MoreOf, Reads, ReadsWhole, chain, joined_of, leaf, negated, none, one, parens}

-- the span lies within a text of this length
abbrev pub LiesIn : ℕ → SourceSpan → Type 0
LiesIn n span = span.offset + span.len ≤ n

-- the leaf's span, if it has one, lies within a text of this length
abbrev pub IsLeafIn : ℕ → Leaf SourceSpan → Type 0
IsLeafIn n (Named predicate matcher span) = LiesIn n span
IsLeafIn n (Platform platform span) = LiesIn n span
IsLeafIn n (Default span) = LiesIn n span
IsLeafIn n All = Unit {0}
IsLeafIn n None = Unit {0}

-- the spans of all leaves lie within a text of this length
abbrev pub AreLeavesIn : ℕ → Tree SourceSpan → Type 0
AreLeavesIn n (not_of op x) = AreLeavesIn n x
AreLeavesIn n (union_of op x y) = AreLeavesIn n x × AreLeavesIn n y
AreLeavesIn n (intersection_of op x y) = AreLeavesIn n x × AreLeavesIn n y
AreLeavesIn n (difference_of x y) = AreLeavesIn n x × AreLeavesIn n y
AreLeavesIn n (parens_of x) = AreLeavesIn n x
AreLeavesIn n (set_of l) = IsLeafIn n l

between_in : (n i j : ℕ) → i ≤ n → j ≤ n → LiesIn n (between i j)
between_in n i j low high =
    elim (cases_lt i j) [
      | inl lt ↦ omega (arith, lt, high)
      | inr ge ↦ omega (arith, ge, low)
    ]

joined_in : (n : ℕ) (op : Operator) (a b : Tree SourceSpan) → AreLeavesIn n a → AreLeavesIn n b → AreLeavesIn n (joined_of op a b)
joined_in n (Or op) a b p q = (p, q)
joined_in n (And op) a b p q = (p, q)
joined_in n Minus a b p q = (p, q)

module _ (text : List ℕ) where
  -- the byte that stands after blanks and what is before it lie within the text
  stands_in : (i c j : ℕ) → Stands text i c j → (i ≤ length text) × (j ≤ length text)
  stands_in i c j s =
      let at = byte_within text (skip text i) c s.0 in
      let after = s.1 in
      let up = skip_rises text i in
      (omega (arith, at, up), omega (arith, at, after))

  named_in : (i c d inner end j : ℕ) → Stands text i c inner → Stands text end d j → LiesIn (length text) (between inner end)
  named_in i c d inner end j opens closes =
      between_in (length text) inner end (stands_in i c inner opens).1 (stands_in end d j closes).0

  nullary_in : (word : Nullary) (start j : ℕ) → start ≤ length text → j ≤ length text → IsLeafIn (length text) (nullary_leaf word (between start j))
  nullary_in nullary.Default start j low high = between_in (length text) start j low high
  nullary_in nullary.All start j low high = tt
  nullary_in nullary.None start j low high = tt

  leaf_in : (i j : ℕ) (l : Leaf SourceSpan) (h : Head) → HeadEndsWithin text i h → LeafBy text i l j h → IsLeafIn (length text) l
  leaf_in i j l (Names predicate n) ends from =
      subst (IsLeafIn (length text)) (sym from.is) (named_in n 40 41 from.inner from.end j from.opens from.closes)
  leaf_in i j l (Platforms n) ends from =
      subst (IsLeafIn (length text)) (sym from.is) (named_in n 40 41 from.inner from.end j from.opens from.closes)
  leaf_in i j l (Says word n) ends from =
      let low = ends.0 in
      let high = ends.1 in
      subst (IsLeafIn (length text)) (sym from.is) (nullary_in word i j (omega (arith, low, high)) (stands_in from.end 41 j from.closes).1)
  leaf_in i j l (Negates op n) ends from = absurd from
  leaf_in i j l (Opens n) ends from = absurd from
  leaf_in i j l (Misplaces op n) ends from = absurd from
  leaf_in i j l Unknown ends from = absurd from

  module _ (utf8 : IsUtf8 text) where
    mutual
      reads_in : {room level i j : ℕ} {t : Tree SourceSpan} → Reads text room level i t j → AreLeavesIn (length text) t
      reads_in (leaf {i = i} {j = j} {l = l} r) =
          leaf_in (skip text i) j l (head_at text (skip text i)) (head_ends text utf8 (skip text i)) r
      reads_in (negated h r) = reads_in r
      reads_in (parens h r s) = reads_in r
      reads_in (chain r more) = more_in more (reads_in r)

      more_in : {room level k j : ℕ} {a t : Tree SourceSpan} → MoreOf text room level k a t j → AreLeavesIn (length text) a → AreLeavesIn (length text) t
      more_in none p = p
      more_in (one {op = op} {a = a} {b = b} h r more) p = more_in more (joined_in (length text) op a b p (reads_in r))

    -- the spans of what a whole text reads as
    pub whole_in : (t : Tree SourceSpan) → ReadsWhole text t → AreLeavesIn (length text) t
    whole_in t (j, r, end) = reads_in r
