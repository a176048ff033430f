-- A filter reads back from what is printed of it.
use Rattle.std.proofs.Common.{◌≡◌, ℕ, zero, suc, ◌+◌, true, false, List, [], ◌∷◌, ◌++◌, length, codes, nat_lt, append-nil, append_assoc, refl, sym, ◌∙◌, ap, ap₂, subst, arith}
use Rattle.std.proofs.lemmas.Bool.{and_parts, cond-true, cond-false, le-ltb, true≢false}
use Rattle.std.proofs.lemmas.List.{length-append}
use Rattle.nextest_filter_matchers.specs.declared.source_span.SourceSpan.{SourceSpan}
use Rattle.nextest_filter_tokens.specs.Signs.{and_sign, not_sign, or_sign}
use Rattle.nextest_filter_tokens.specs.declared.operator_signs.NotOperator.{NotOperator}
use Rattle.nextest_filter_tokens.specs.declared.operator_signs.NotOperator.TheVariants.{LiteralNot, Exclamation}
use Rattle.nextest_filter_tokens.specs.declared.operator_signs.OrOperator.{OrOperator}
use Rattle.nextest_filter_tokens.specs.declared.operator_signs.OrOperator.TheVariants.{LiteralOr, Pipe, Plus}
use Rattle.nextest_filter_tokens.specs.declared.operator_signs.AndOperator.{AndOperator}
use Rattle.nextest_filter_tokens.specs.declared.operator_signs.AndOperator.TheVariants.{LiteralAnd, Ampersand}
use Rattle.nextest_filter_tokens.specs.Bytes.{blank_length, has_word, is_byte, skip}
use Rattle.nextest_filter_tokens.proofs.BlankFacts.{blanks_from-none}
use Rattle.nextest_filter_tokens.specs.Heads.{head_at, plain_set_at, sign_at}
use Rattle.nextest_filter_tokens.specs.Operators.{and_at, or_at}
use Rattle.nextest_filter_tokens.specs.declared.heads.Head.TheVariants.{Negates, Opens}
use Rattle.nextest_filter_tokens.specs.declared.heads.Predicate.TheVariants.{Package, Deps, Rdeps, Kind, Binary, BinaryId, Test, Group, Feature}
use Rattle.nextest_filter_tokens.specs.declared.operators.Operator.{Operator}
use Rattle.nextest_filter_tokens.specs.declared.operators.Operator.TheVariants.{Or, And, Minus}
use Rattle.nextest_filter_tokens.specs.declared.operators.Found.TheVariants.{Joins}
use Rattle.nextest_filter_syntax.specs.Leaves.{Leaf, Named, Platform, Default, All, None}
use Rattle.nextest_filter_syntax.specs.LeafTexts.{leaf_text}
use Rattle.nextest_filter_syntax.specs.LeafGrammar.{ReadsLeaf}
use Rattle.nextest_filter_syntax.specs.declared.parsed_expr.ParsedExpr.{ParsedExpr, Not', Union', Intersection', Difference', Parens', Set}
use Rattle.nextest_filter_syntax.specs.Trees.{Tree, not_of, union_of, intersection_of, difference_of, parens_of, set_of, tree_of}
use Rattle.nextest_filter_syntax.specs.TreeTexts.{joined_text, tree_text}
use Rattle.nextest_filter_syntax.specs.Grammar.{MoreOf, Reads, chain, found_at, joined_of, leaf, negated, none, one, parens}
use Rattle.nextest_filter_laws.specs.Printable.{IsPrintableIn, is_joined, is_union}
use Rattle.nextest_filter_laws.specs.Laws.{PrintedFiltersReadBack, bare}
use Rattle.nextest_filter_laws.proofs.WordFacts.{first_byte, first_part, is_solid, other_whole, other_word, second_part, skip_none, skip_one, stands_here, whole_text, whole_word}
use Rattle.nextest_filter_laws.proofs.LeafBack.{IsMadeLeaf, leaf_back, leaf_made, not_named}

-- the texts of a tree are UTF-8
abbrev pub IsMadeTree : {S : Type 0} → Tree S → Type 0
IsMadeTree (not_of op x) = IsMadeTree x
IsMadeTree (union_of op x y) = IsMadeTree x × IsMadeTree y
IsMadeTree (intersection_of op x y) = IsMadeTree x × IsMadeTree y
IsMadeTree (difference_of x y) = IsMadeTree x × IsMadeTree y
IsMadeTree (parens_of x) = IsMadeTree x
IsMadeTree (set_of l) = IsMadeLeaf l

tree_made : {S : Type 0} (x : ParsedExpr S) → IsMadeTree (tree_of x)
tree_made (Not' op p x) = tree_made x
tree_made (Union' op p x q y) = (tree_made x, tree_made y)
tree_made (Intersection' op p x q y) = (tree_made x, tree_made y)
tree_made (Difference' op p x q y) = (tree_made x, tree_made y)
tree_made (Parens' p x) = tree_made x
tree_made (Set l) = leaf_made l

-- the least level that a tree is a part of
abbrev level_of : {S : Type 0} → Tree S → ℕ
level_of (union_of op x y) = 2
level_of (intersection_of op x y) = 1
level_of (difference_of x y) = 1
level_of _ = 0

operand_level : {S : Type 0} (t : Tree S) → is_joined t ≡ false → level_of t ≡ 0
operand_level (not_of op x) e = refl
operand_level (union_of op x y) e = absurd (true≢false e)
operand_level (intersection_of op x y) e = absurd (true≢false e)
operand_level (difference_of x y) e = absurd (true≢false e)
operand_level (parens_of x) e = refl
operand_level (set_of l) e = refl

abbrev or_first : OrOperator → ℕ
or_first LiteralOr = 111
or_first Pipe = 124
or_first Plus = 43

abbrev or_rest : OrOperator → List ℕ
or_rest LiteralOr = codes "r"
or_rest Pipe = []
or_rest Plus = []

or_begins : (op : OrOperator) → or_sign op ≡ or_first op ∷ or_rest op
or_begins LiteralOr = refl
or_begins Pipe = refl
or_begins Plus = refl

or_solid : (op : OrOperator) → is_solid (or_first op) ≡ true
or_solid LiteralOr = refl
or_solid Pipe = refl
or_solid Plus = refl

abbrev and_first : AndOperator → ℕ
and_first LiteralAnd = 97
and_first Ampersand = 38

abbrev and_rest : AndOperator → List ℕ
and_rest LiteralAnd = codes "nd"
and_rest Ampersand = []

and_begins : (op : AndOperator) → and_sign op ≡ and_first op ∷ and_rest op
and_begins LiteralAnd = refl
and_begins Ampersand = refl

and_solid : (op : AndOperator) → is_solid (and_first op) ≡ true
and_solid LiteralAnd = refl
and_solid Ampersand = refl

end_length : (text : List ℕ) → blank_length text (length text) ≡ 0
unfolding blank_length
end_length text =
    let past : nat_lt (length text) (length text) ≡ false = le-ltb (length text) (length text) (omega arith) in
    rw past refl

-- at the end of a text no blank is passed
skip_end : (text : List ℕ) → skip text (length text) ≡ length text
unfolding skip
skip_end text = blanks_from-none text (length text) (length text) (end_length text)

-- the first byte of what is printed of a leaf is a letter
abbrev is_first : List ℕ → ℕ → Type 0
is_first text i = (c : ℕ) × (is_byte text i c ≡ true) × (is_solid c ≡ true)

module _ (text : List ℕ) where
  first_letter : (c : ℕ) (word rest : List ℕ) (i : ℕ) → is_solid c ≡ true → has_word text i ((c ∷ word) ++ rest) ≡ true → is_first text i
  first_letter c word rest i solid h = (c, (and_parts (is_byte text i c) _ h).0, solid)

  first_of_leaf : {S : Type 0} (l : Leaf S) (rest : List ℕ) (i : ℕ) → has_word text i (leaf_text l ++ rest) ≡ true → is_first text i
  first_of_leaf (Named Package matcher span) rest i h = (112, (and_parts (is_byte text i 112) _ h).0, refl)
  first_of_leaf (Named Deps matcher span) rest i h = (100, (and_parts (is_byte text i 100) _ h).0, refl)
  first_of_leaf (Named Rdeps matcher span) rest i h = (114, (and_parts (is_byte text i 114) _ h).0, refl)
  first_of_leaf (Named Kind matcher span) rest i h = (107, (and_parts (is_byte text i 107) _ h).0, refl)
  first_of_leaf (Named Binary matcher span) rest i h = (98, (and_parts (is_byte text i 98) _ h).0, refl)
  first_of_leaf (Named BinaryId matcher span) rest i h = (98, (and_parts (is_byte text i 98) _ h).0, refl)
  first_of_leaf (Named Test matcher span) rest i h = (116, (and_parts (is_byte text i 116) _ h).0, refl)
  first_of_leaf (Named Group matcher span) rest i h = (103, (and_parts (is_byte text i 103) _ h).0, refl)
  first_of_leaf (Named Feature matcher span) rest i h = (102, (and_parts (is_byte text i 102) _ h).0, refl)
  first_of_leaf (Platform platform span) rest i h = (112, (and_parts (is_byte text i 112) _ h).0, refl)
  first_of_leaf (Default span) rest i h = (100, (and_parts (is_byte text i 100) _ h).0, refl)
  first_of_leaf All rest i h = (97, (and_parts (is_byte text i 97) _ h).0, refl)
  first_of_leaf None rest i h = (110, (and_parts (is_byte text i 110) _ h).0, refl)

  -- what is printed begins with no blank
  first_of : {S : Type 0} (t : Tree S) (i : ℕ) → has_word text i (tree_text t) ≡ true → is_first text i
  first_of (not_of LiteralNot x) i h = (110, (and_parts (is_byte text i 110) _ h).0, refl)
  first_of (not_of Exclamation x) i h = (33, (and_parts (is_byte text i 33) _ h).0, refl)
  first_of (union_of op x y) i h = first_of x i (first_part text (tree_text x) _ i h)
  first_of (intersection_of op x y) i h = first_of x i (first_part text (tree_text x) _ i h)
  first_of (difference_of x y) i h = first_of x i (first_part text (tree_text x) _ i h)
  first_of (parens_of x) i h = (40, (and_parts (is_byte text i 40) _ h).0, refl)
  first_of (set_of l) i h = first_of_leaf l [] i (subst (λ w. has_word text i w ≡ true) (sym (append-nil (leaf_text l))) h)

  no_skip : {S : Type 0} (t : Tree S) (i : ℕ) → has_word text i (tree_text t) ≡ true → skip text i ≡ i
  no_skip t i h = let first = first_of t i h in skip_none text i first.0 first.1 first.2

  one_skip : {S : Type 0} (t : Tree S) (i : ℕ) → is_byte text i 32 ≡ true → has_word text (i + 1) (tree_text t) ≡ true → skip text i ≡ i + 1
  one_skip t i space h = let first = first_of t (i + 1) h in skip_one text i first.0 space first.1 first.2

  -- what is read depends on what stands after the blanks alone
  begun_at : {room level i k j : ℕ} {t : Tree SourceSpan} → skip text i ≡ skip text k → Reads text room level i t j → Reads text room level k t j
  begun_at {j = j} same (leaf {l = l} r) = leaf (subst (λ n. ReadsLeaf text n l j) same r)
  begun_at same (negated {m = m} {op = op} h r) = negated (subst (λ n. head_at text n ≡ Negates op m) same h) r
  begun_at same (parens {m = m} h r s) = parens (subst (λ n. head_at text n ≡ Opens m) same h) r s
  begun_at same (chain r more) = chain (begun_at same r) more

  -- one part more at the end
  more_snoc : {room level k j m n : ℕ} {a t b : Tree SourceSpan} (op : Operator) → MoreOf text room level k a t j → found_at text level (skip text j) ≡ Joins op m → Reads text room level m b n → MoreOf text room level k a (joined_of op t b) n
  more_snoc op none found r = one found r none
  more_snoc op (one g s more) found r = one g s (more_snoc op more found r)

  chain_snoc : {room level i j m n : ℕ} {t b : Tree SourceSpan} (op : Operator) → Reads text room (suc level) i t j → found_at text level (skip text j) ≡ Joins op m → Reads text room level m b n → Reads text room (suc level) i (joined_of op t b) n
  chain_snoc op (chain r more) found s = chain r (more_snoc op more found s)

  -- a tree is read as a part of a level, which is the printed one but for its spans
  abbrev IsBack : {S : Type 0} → ℕ → ℕ → ℕ → Tree S → ℕ → Type 0
  IsBack room level i t j = (u : Tree SourceSpan) × (bare u ≡ bare t) × Reads text room level i u j

  lifted : {S : Type 0} (room level i : ℕ) (t : Tree S) (j : ℕ) → IsBack room level i t j → IsBack room (suc level) i t j
  lifted room level i t j w = (w.0, w.1, chain w.2 none)

  as_operand : {S : Type 0} (room i : ℕ) (t : Tree S) (j : ℕ) → is_joined t ≡ false → IsBack room (level_of t) i t j → IsBack room 0 i t j
  as_operand room i t j operand w = subst (λ l. IsBack room l i t j) (operand_level t operand) w

  as_part : {S : Type 0} (room i : ℕ) (t : Tree S) (j : ℕ) → is_union t ≡ false → IsBack room (level_of t) i t j → IsBack room 1 i t j
  as_part room i (not_of op x) j e w = lifted room 0 i (not_of op x) j w
  as_part room i (union_of op x y) j e w = absurd (true≢false e)
  as_part room i (intersection_of op x y) j e w = w
  as_part room i (difference_of x y) j e w = w
  as_part room i (parens_of x) j e w = lifted room 0 i (parens_of x) j w
  as_part room i (set_of l) j e w = lifted room 0 i (set_of l) j w

  as_filter : {S : Type 0} (room i : ℕ) (t : Tree S) (j : ℕ) → IsBack room (level_of t) i t j → IsBack room 2 i t j
  as_filter room i (not_of op x) j w = lifted room 1 i (not_of op x) j (lifted room 0 i (not_of op x) j w)
  as_filter room i (union_of op x y) j w = w
  as_filter room i (intersection_of op x y) j w = lifted room 1 i (intersection_of op x y) j w
  as_filter room i (difference_of x y) j w = lifted room 1 i (difference_of x y) j w
  as_filter room i (parens_of x) j w = lifted room 1 i (parens_of x) j (lifted room 0 i (parens_of x) j w)
  as_filter room i (set_of l) j w = lifted room 1 i (set_of l) j (lifted room 0 i (set_of l) j w)

  -- the operators, each with a space after it
  or_back : (op : OrOperator) (i : ℕ) → has_word text i (or_sign op ++ 32 ∷ []) ≡ true → or_at text i ≡ Joins (Or op) (i + length (or_sign op))
  unfolding or_at
  or_back LiteralOr i h =
      cond-false _ _ _ (other_word text (codes "or ") (codes "||") i h refl) ∙ cond-false _ _ _ (other_whole text (codes "or ") (codes "OR") i h refl) ∙ cond-true _ _ _ (whole_word text (codes "or") i h)
  or_back Pipe i h =
      cond-false _ _ _ (other_word text (codes "| ") (codes "||") i h refl) ∙ cond-false _ _ _ (other_whole text (codes "| ") (codes "OR") i h refl) ∙ cond-false _ _ _ (other_whole text (codes "| ") (codes "or") i h refl) ∙ cond-true _ _ _ (first_part text (codes "|") (codes " ") i h)
  or_back Plus i h =
      cond-false _ _ _ (other_word text (codes "+ ") (codes "||") i h refl) ∙ cond-false _ _ _ (other_whole text (codes "+ ") (codes "OR") i h refl) ∙ cond-false _ _ _ (other_whole text (codes "+ ") (codes "or") i h refl) ∙ cond-false _ _ _ (other_word text (codes "+ ") (codes "|") i h refl) ∙ cond-true _ _ _ (first_part text (codes "+") (codes " ") i h)

  and_back : (op : AndOperator) (i : ℕ) → has_word text i (and_sign op ++ 32 ∷ []) ≡ true → and_at text i ≡ Joins (And op) (i + length (and_sign op))
  unfolding and_at
  and_back LiteralAnd i h =
      cond-false _ _ _ (other_word text (codes "and ") (codes "&&") i h refl) ∙ cond-false _ _ _ (other_whole text (codes "and ") (codes "AND") i h refl) ∙ cond-true _ _ _ (whole_word text (codes "and") i h)
  and_back Ampersand i h =
      cond-false _ _ _ (other_word text (codes "& ") (codes "&&") i h refl) ∙ cond-false _ _ _ (other_whole text (codes "& ") (codes "AND") i h refl) ∙ cond-false _ _ _ (other_whole text (codes "& ") (codes "and") i h refl) ∙ cond-true _ _ _ (first_part text (codes "&") (codes " ") i h)

  minus_back : (i : ℕ) → has_word text i (codes "- ") ≡ true → and_at text i ≡ Joins Minus (i + 1)
  unfolding and_at
  minus_back i h =
      cond-false _ _ _ (other_word text (codes "- ") (codes "&&") i h refl) ∙ cond-false _ _ _ (other_whole text (codes "- ") (codes "AND") i h refl) ∙ cond-false _ _ _ (other_whole text (codes "- ") (codes "and") i h refl) ∙ cond-false _ _ _ (other_word text (codes "- ") (codes "&") i h refl) ∙ cond-true _ _ _ (first_part text (codes "-") (codes " ") i h)

  -- two parts and the operator between them, with spaces
  joined_back : {S : Type 0} (op : Operator) (room level : ℕ) (sign : List ℕ) (c : ℕ) (tail : List ℕ) (x y t : Tree S) (i : ℕ) → sign ≡ c ∷ tail → is_solid c ≡ true → ((k : ℕ) → has_word text k (sign ++ 32 ∷ []) ≡ true → found_at text level k ≡ Joins op (k + length sign)) → ((a b : Tree SourceSpan) → bare a ≡ bare x → bare b ≡ bare y → bare (joined_of op a b) ≡ bare t) → (tree_text t ≡ joined_text (tree_text x) sign (tree_text y)) → has_word text i (tree_text t) ≡ true → IsBack room (suc level) i x (i + length (tree_text x)) → ((k : ℕ) → has_word text k (tree_text y) ≡ true → IsBack room level k y (k + length (tree_text y))) → IsBack room (suc level) i t (i + length (tree_text t))
  joined_back op room level sign c tail x y t i begins solid found same printed h left right =
      let word = subst (λ w. has_word text i w ≡ true) printed h in
      let k = i + length (tree_text x) in
      let behind = second_part text (tree_text x) _ i word in
      let space = (and_parts (is_byte text k 32) _ behind).0 in
      let after = (and_parts (is_byte text k 32) _ behind).1 in
      let start = subst (λ w. has_word text (k + 1) (w ++ (codes " " ++ tree_text y)) ≡ true) begins after in
      let blank : skip text k ≡ k + 1 = skip_one text k c space (and_parts (is_byte text (k + 1) c) _ start).0 solid in
      let spaced = subst (λ w. has_word text (k + 1) w ≡ true) (sym (append_assoc sign (codes " ") (tree_text y))) after in
      let operator = found (k + 1) (first_part text (sign ++ codes " ") (tree_text y) (k + 1) spaced) in
      let m = (k + 1) + length sign in
      let last = second_part text sign _ (k + 1) after in
      let gap = (and_parts (is_byte text m 32) _ last).0 in
      let operand = (and_parts (is_byte text m 32) _ last).1 in
      let read = right (m + 1) operand in
      let place : skip text (m + 1) ≡ skip text m = no_skip y (m + 1) operand ∙ sym (one_skip y m gap operand) in
      let size : i + length (tree_text t) ≡ (m + 1) + length (tree_text y) = omega (arith, ap length printed, length-append (tree_text x) (codes " " ++ (sign ++ (codes " " ++ tree_text y))), length-append sign (codes " " ++ tree_text y)) in
      let found_is = subst (λ n. found_at text level n ≡ Joins op m) (sym blank) operator in
      let reads = chain_snoc op left.2 found_is (begun_at place read.2) in
      (joined_of op left.0 read.0, same left.0 read.0 left.1 read.1, subst (λ n. Reads text room (suc level) i (joined_of op left.0 read.0) n) (sym size) reads)

  not_head : (op : NotOperator) (i : ℕ) → has_word text i (not_sign op ++ 32 ∷ []) ≡ true → head_at text i ≡ Negates op (i + length (not_sign op))
  unfolding plain_set_at sign_at
  not_head LiteralNot i h =
      not_named text (codes "not ") i h refl refl refl refl refl refl refl refl refl ∙ cond-false _ _ _ (other_word text (codes "not ") (codes "platform") i h refl) ∙ cond-false _ _ _ (other_word text (codes "not ") (codes "default") i h refl) ∙ cond-false _ _ _ (other_word text (codes "not ") (codes "all") i h refl) ∙ cond-false _ _ _ (other_word text (codes "not ") (codes "none") i h refl) ∙ cond-true _ _ _ (whole_word text (codes "not") i h)
  not_head Exclamation i h =
      not_named text (codes "! ") i h refl refl refl refl refl refl refl refl refl ∙ cond-false _ _ _ (other_word text (codes "! ") (codes "platform") i h refl) ∙ cond-false _ _ _ (other_word text (codes "! ") (codes "default") i h refl) ∙ cond-false _ _ _ (other_word text (codes "! ") (codes "all") i h refl) ∙ cond-false _ _ _ (other_word text (codes "! ") (codes "none") i h refl) ∙ cond-false _ _ _ (other_whole text (codes "! ") (codes "not") i h refl) ∙ cond-true _ _ _ (first_part text (codes "!") (codes " ") i h)

  parens_head : (i : ℕ) → has_word text i (codes "(") ≡ true → head_at text i ≡ Opens (i + 1)
  unfolding plain_set_at sign_at
  parens_head i h =
      not_named text (codes "(") i h refl refl refl refl refl refl refl refl refl ∙ cond-false _ _ _ (other_word text (codes "(") (codes "platform") i h refl) ∙ cond-false _ _ _ (other_word text (codes "(") (codes "default") i h refl) ∙ cond-false _ _ _ (other_word text (codes "(") (codes "all") i h refl) ∙ cond-false _ _ _ (other_word text (codes "(") (codes "none") i h refl) ∙ cond-false _ _ _ (other_whole text (codes "(") (codes "not") i h refl) ∙ cond-false _ _ _ (other_word text (codes "(") (codes "!") i h refl) ∙ cond-true _ _ _ h

  negated_back : {S : Type 0} (op : NotOperator) (room : ℕ) (x : Tree S) (i : ℕ) → has_word text i (tree_text (not_of op x)) ≡ true → ((k : ℕ) → has_word text k (tree_text x) ≡ true → IsBack room 0 k x (k + length (tree_text x))) → IsBack (suc room) 0 i (not_of op x) (i + length (tree_text (not_of op x)))
  negated_back op room x i h right =
      let sign = not_sign op in
      let m = i + length sign in
      let spaced = subst (λ w. has_word text i w ≡ true) (sym (append_assoc sign (codes " ") (tree_text x))) h in
      let begins = not_head op i (first_part text (sign ++ codes " ") (tree_text x) i spaced) in
      let last = second_part text sign _ i h in
      let gap = (and_parts (is_byte text m 32) _ last).0 in
      let operand = (and_parts (is_byte text m 32) _ last).1 in
      let read = right (m + 1) operand in
      let place : skip text (m + 1) ≡ skip text m = no_skip x (m + 1) operand ∙ sym (one_skip x m gap operand) in
      let size : i + length (tree_text (not_of op x)) ≡ (m + 1) + length (tree_text x) = omega (arith, length-append sign (codes " " ++ tree_text x)) in
      let here = subst (λ n. head_at text n ≡ Negates op m) (sym (no_skip (not_of op x) i h)) begins in
      (not_of op read.0, ap (not_of op) read.1, subst (λ n. Reads text (suc room) 0 i (not_of op read.0) n) (sym size) (negated here (begun_at place read.2)))

  parens_back : {S : Type 0} (room : ℕ) (x : Tree S) (i : ℕ) → has_word text i (tree_text (parens_of x)) ≡ true → ((k : ℕ) → has_word text k (tree_text x) ≡ true → IsBack room 2 k x (k + length (tree_text x))) → IsBack (suc room) 0 i (parens_of x) (i + length (tree_text (parens_of x)))
  parens_back room x i h right =
      let inside = (and_parts (is_byte text i 40) _ h).1 in
      let end = (i + 1) + length (tree_text x) in
      let read = right (i + 1) (first_part text (tree_text x) (codes ")") (i + 1) inside) in
      let closes = stands_here text end 41 (first_byte text 41 [] end (second_part text (tree_text x) (codes ")") (i + 1) inside)) refl in
      let size : i + length (tree_text (parens_of x)) ≡ end + 1 = omega (arith, length-append (tree_text x) (codes ")")) in
      let begins = parens_head i (first_part text (codes "(") _ i h) in
      let here = subst (λ n. head_at text n ≡ Opens (i + 1)) (sym (no_skip (parens_of x) i h)) begins in
      (parens_of read.0, ap parens_of read.1, subst (λ n. Reads text (suc room) 0 i (parens_of read.0) n) (sym size) (parens here read.2 closes))

  pub tree_back : {S : Type 0} (room : ℕ) (t : Tree S) (i : ℕ) → IsPrintableIn room t → IsMadeTree t → has_word text i (tree_text t) ≡ true → IsBack room (level_of t) i t (i + length (tree_text t))
  tree_back zero (not_of op x) i printable made h = absurd printable
  tree_back (suc room) (not_of op x) i printable made h =
      negated_back op room x i h (λ k word. as_operand room k x _ printable.0 (tree_back room x k printable.1 made word))
  tree_back room (union_of op x y) i printable made h =
      joined_back (Or op) room 1 (or_sign op) (or_first op) (or_rest op) x y (union_of op x y) i (or_begins op) (or_solid op) (or_back op) (λ a b p q. ap₂ (union_of op) p q) refl h (as_filter room i x _ (tree_back room x i printable.1 made.0 (first_part text (tree_text x) _ i h))) (λ k word. as_part room k y _ printable.0 (tree_back room y k printable.2 made.1 word))
  tree_back room (intersection_of op x y) i printable made h =
      joined_back (And op) room 0 (and_sign op) (and_first op) (and_rest op) x y (intersection_of op x y) i (and_begins op) (and_solid op) (and_back op) (λ a b p q. ap₂ (intersection_of op) p q) refl h (as_part room i x _ printable.0 (tree_back room x i printable.2 made.0 (first_part text (tree_text x) _ i h))) (λ k word. as_operand room k y _ printable.1 (tree_back room y k printable.3 made.1 word))
  tree_back room (difference_of x y) i printable made h =
      joined_back Minus room 0 (codes "-") 45 [] x y (difference_of x y) i refl refl minus_back (λ a b p q. ap₂ difference_of p q) refl h (as_part room i x _ printable.0 (tree_back room x i printable.2 made.0 (first_part text (tree_text x) _ i h))) (λ k word. as_operand room k y _ printable.1 (tree_back room y k printable.3 made.1 word))
  tree_back zero (parens_of x) i printable made h = absurd printable
  tree_back (suc room) (parens_of x) i printable made h =
      parens_back room x i h (λ k word. as_filter room k x _ (tree_back room x k printable made word))
  tree_back room (set_of l) i printable made h =
      let read = leaf_back text l i printable made h in
      let here = no_skip (set_of l) i h in
      (set_of read.0, ap set_of read.1, leaf (subst (λ n. ReadsLeaf text n read.0 (i + length (leaf_text l))) (sym here) read.2))

pub printed_filters_read_back : PrintedFiltersReadBack
printed_filters_read_back x printable =
    let text = tree_text (tree_of x) in
    let back = as_filter text 256 0 (tree_of x) _ (tree_back text 256 (tree_of x) 0 printable (tree_made x) (whole_text text)) in
    let size : 0 + length text ≡ length text = omega arith in
    (back.0, (length text, subst (λ j. Reads text 256 2 0 back.0 j) size back.2, skip_end text), back.1)
