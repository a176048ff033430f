-- The steps of reading: what each takes from the parts before it, and gives to those after it.
use Rattle.std.proofs.Common.{◌≡◌, ◌↔◌, ℕ, suc, ◌+◌, ◌-◌, ◌<◌, ◌≤◌, ◌++◌, true, false, List, [], Option, Some, None, IfSome, IfNone, length, vec_len, refl, sym, ◌∙◌, ap, subst, arith}
use Rattle.nextest_filter_matchers.specs.declared.source_span.SourceSpan.{SourceSpan}
use Rattle.nextest_filter_tokens.specs.declared.operator_signs.NotOperator.{NotOperator}
use Rattle.nextest_filter_tokens.specs.Bytes.{skip}
use Rattle.nextest_filter_tokens.specs.FaultLists.{AreSomeOf, pattern_spans}
use Rattle.nextest_filter_tokens.specs.ReadingSteps.{GoesOn, Grows, KeepsPatterns, RefusesSomeOf, Spoils, SpoilsSyntax}
use Rattle.nextest_filter_tokens.specs.declared.fault_list.FaultList.{FaultList}
use Rattle.nextest_filter_tokens.proofs.SpanFacts.{refuses_all, refuses_both, refuses_none, refuses_then_none}
use Rattle.nextest_filter_tokens.specs.Heads.{head_at}
use Rattle.nextest_filter_tokens.specs.declared.heads.Head.{Head}
use Rattle.nextest_filter_tokens.specs.declared.heads.Head.TheVariants.{Negates, Opens}
use Rattle.nextest_filter_tokens.specs.declared.operators.Operator.{Operator}
use Rattle.nextest_filter_tokens.specs.declared.operators.Operator.TheVariants.{Or, And, Minus}
use Rattle.nextest_filter_tokens.specs.declared.operators.Found.{Found}
use Rattle.nextest_filter_tokens.specs.declared.operators.Found.TheVariants.{Nothing, Joins, Wrong}
use Rattle.nextest_filter_syntax.specs.Leaves.{Leaf, leaf_of}
use Rattle.nextest_filter_syntax.specs.LeafGrammar.{LeafBy, Stands, leaf_places}
use Rattle.nextest_filter_syntax.specs.declared.parsed_leaf.ParsedLeaf.{ParsedLeaf}
use Rattle.nextest_filter_syntax.proofs.LeafStepFacts.{goes_from}
use Rattle.nextest_filter_syntax.specs.declared.parsed_expr.ParsedExpr.{ParsedExpr}
use Rattle.nextest_filter_syntax.specs.Trees.{Tree, not_of, parens_of, set_of, tree_of}
use Rattle.nextest_filter_syntax.specs.Grammar.{MoreOf, Reads, ReadsWhole, chain, found_at, joined_of, leaf, negated, none, one, parens, tree_places}
use Rattle.nextest_filter_syntax.specs.Reading.{Ends, IsReading, IsTree, is_wrong, joined_part, leaf_part, negated_part, parens_part, part_of, place_of}
use Rattle.nextest_filter_syntax.proofs.GrammarFacts.{OperandOf, BehindOf, behind_at, level_of_chain, operand_at, part_ends, texts_read_as_one}

-- what some part says of itself, some other says that has its value
some_same : {A : Type 0} {x y : A} → Some x ≡ Some y → x ≡ y
some_same e = cc

none_some : {A : Type 0} {x : A} → None ≡ Some x → ⊥
none_some e = cc

no_room : {room d : ℕ} → room ≡ 0 → room ≡ suc d → ⊥
no_room full some = omega (arith, full, some)

-- where a spoiled part is a fault, it is one in a longer list
pub spoiled_grows : {A : Type 0} (o : Option A) (n m : ℕ) → IfNone o (0 < n) → n ≤ m → IfNone o (0 < m)
spoiled_grows (Some v) n m some more = tt
spoiled_grows None n m some more = omega (arith, some, more)

-- where a whole part has no refused pattern, there is none
pub built_whole : {A : Type 0} (o : Option A) (i j k : List SourceSpan) → i ≡ [] → k ≡ j → IfSome o (λ _. j ≡ i) → IfSome o (λ _. length k ≡ 0)
built_whole (Some v) i j k empty last same = ap length (last ∙ same ∙ empty)
built_whole None i j k empty last same = tt

-- a part is no spoiled one where a spoiled one is a fault and there is none
pub fault_none : {A : Type 0} (B : Type 0) (o : Option A) (all syntax : ℕ) → syntax ≡ 0 → IfNone o ((0 < all) × (0 < syntax)) → IfNone o B
fault_none B (Some v) all syntax clean fault = tt
fault_none B None all syntax clean fault = absurd (omega (arith, clean, fault.1))

-- what goes on from the end of a head goes on from before it
pub goes_from_head : (text : List ℕ) (at start next end : ℕ) (f g : FaultList) → at ≤ start → start < next → GoesOn text next end f g → GoesOn text at end f g
goes_from_head text at start next end f g up over on = goes_from text at next end f g (omega (arith, up, over)) on

pub goes_after : (text : List ℕ) (i j : ℕ) (f g h : FaultList) → GoesOn text i j f g → Grows text g h → GoesOn text i j f h
goes_after text i j f g h p q =
    (p.0, p.1, (omega (arith, p.2.0, q.0), omega (arith, p.2.1, q.1), q.2))

-- reading that stays where it is, before blanks within the text
pub stays : (text : List ℕ) (at start : ℕ) (f g : FaultList) → at ≤ start → start ≤ length text → Grows text f g → GoesOn text at at f g
stays text at start f g up within grows = (omega arith, omega (arith, up, within), grows)

-- an expression is spoiled exactly where the part is that it is made of
pub leaf_spoils : (l : Option (ParsedLeaf SourceSpan)) (x : Option (ParsedExpr SourceSpan)) (f g : FaultList) → part_of x ≡ leaf_part l → Spoils l f g → Spoils x f g
leaf_spoils (Some l) (Some x) f g same p = p
leaf_spoils (Some l) None f g same p = absurd (none_some same)
leaf_spoils None (Some x) f g same p = absurd (none_some (sym same))
leaf_spoils None None f g same p = p

pub platform_spoils : (l : Option (ParsedLeaf SourceSpan)) (x : Option (ParsedExpr SourceSpan)) (f g : FaultList) → part_of x ≡ leaf_part l → SpoilsSyntax l f g → Spoils x f g
platform_spoils (Some l) (Some x) f g same p = p
platform_spoils (Some l) None f g same p = absurd (none_some same)
platform_spoils None (Some x) f g same p = absurd (none_some (sym same))
platform_spoils None None f g same p = (tt, p.1.0)

pub negated_spoils : (op : NotOperator) (x y : Option (ParsedExpr SourceSpan)) (f g : FaultList) → part_of y ≡ negated_part op (part_of x) → Spoils x f g → Spoils y f g
negated_spoils op (Some x) (Some y) f g same p = p
negated_spoils op (Some x) None f g same p = absurd (none_some same)
negated_spoils op None (Some y) f g same p = absurd (none_some (sym same))
negated_spoils op None None f g same p = p

parens_alike : (x y : Option (ParsedExpr SourceSpan)) (f g : FaultList) → part_of y ≡ parens_part (part_of x) → Spoils x f g → Spoils y f g
parens_alike (Some x) (Some y) f g same p = p
parens_alike (Some x) None f g same p = absurd (none_some same)
parens_alike None (Some y) f g same p = absurd (none_some (sym same))
parens_alike None None f g same p = p

-- what is or is not spoiled stays so where no pattern is refused after it
pub spoils_after : (x : Option (ParsedExpr SourceSpan)) (f g h : FaultList) → Spoils x f g → KeepsPatterns g h → vec_len g.list ≤ vec_len h.list → Spoils x f h
spoils_after (Some x) f g h p keeps more = (keeps ∙ p.0, tt)
spoils_after None f g h p keeps more = (tt, omega (arith, p.1, more))

pub parens_spoils : (x y : Option (ParsedExpr SourceSpan)) (f g h : FaultList) → part_of y ≡ parens_part (part_of x) → Spoils x f g → KeepsPatterns g h → vec_len g.list ≤ vec_len h.list → Spoils y f h
parens_spoils x y f g h same p keeps more = spoils_after y f g h (parens_alike x y f g same p) keeps more

module _ (text : List ℕ) where
  -- a tree is that of the expression which has its value, unless it is spoiled
  part_is : (x : Option (ParsedExpr SourceSpan)) (t : Tree SourceSpan) → part_of x ≡ Some t → IsTree x t
  part_is (Some v) t same = some_same same
  part_is None t same = tt

  part_none : (x : Option (ParsedExpr SourceSpan)) (t : Tree SourceSpan) → part_of x ≡ None → IsTree x t
  part_none (Some v) t same = absurd (none_some (sym same))
  part_none None t same = tt

  pub set_read : (room at end start : ℕ) (h : Head) (l : Leaf SourceSpan) → start ≡ skip text at → h ≡ head_at text start → LeafBy text start l end h → Reads text room 0 at (set_of l) end
  set_read room at end start h l is begins r =
      leaf (subst (λ k. LeafBy text k l end (head_at text k)) is (subst (λ g. LeafBy text start l end g) begins r))

  pub leaf_read : (room at end start : ℕ) (h : Head) (l : Option (ParsedLeaf SourceSpan)) (x : Option (ParsedExpr SourceSpan)) → start ≡ skip text at → h ≡ head_at text start → part_of x ≡ leaf_part l → IfSome l (λ v. LeafBy text start (leaf_of v) end h) → (before after : FaultList) → IfSome l (λ _. KeepsPatterns before after) → IfNone l ((m : Leaf SourceSpan) × LeafBy text start m end h × (pattern_spans after.list.items ≡ pattern_spans before.list.items ++ leaf_places text m)) → IsReading text room 0 at x end before after
  leaf_read room at end start h (Some w) x is begins same r before after keeps otherwise =
      (set_of (leaf_of w), set_read room at end start h (leaf_of w) is begins r, part_is x (set_of (leaf_of w)) same, refuses_none _ _ _ keeps)
  leaf_read room at end start h None x is begins same r before after keeps otherwise =
      (set_of otherwise.0, set_read room at end start h otherwise.0 is begins otherwise.1, part_none x (set_of otherwise.0) same, refuses_all _ _ _ otherwise.2)

  -- what an operand is made of, where it is known what it begins with
  pub operand_is : (room at j start : ℕ) (t : Tree SourceSpan) (h : Head) → start ≡ skip text at → h ≡ head_at text start → Reads text room 0 at t j → OperandOf text room at t j h
  operand_is room at j start t h is begins r =
      subst (OperandOf text room at t j) (sym (begins ∙ ap (head_at text) is)) (operand_at text room at j t r)

  negated_is : (op : NotOperator) (x y : Option (ParsedExpr SourceSpan)) (t : Tree SourceSpan) → part_of y ≡ negated_part op (part_of x) → IsTree x t → IsTree y (not_of op t)
  negated_is op (Some w) y t same is = part_is y (not_of op t) (same ∙ ap (λ u. Some (not_of op u)) is)
  negated_is op None y t same is = part_none y (not_of op t) same

  pub negated_read : (room at start next end : ℕ) (op : NotOperator) (x y : Option (ParsedExpr SourceSpan)) (before after : FaultList) → start ≡ skip text at → Negates op next ≡ head_at text start → 0 < room → part_of y ≡ negated_part op (part_of x) → IsReading text (room - 1) 0 next x end before after → IsReading text room 0 at y end before after
  negated_read room at start next end op x y before after is begins some same w =
      let more : suc (room - 1) ≡ room = omega arith in
      let here = subst (λ d. Reads text d 0 at (not_of op w.0) end) more (negated (sym (begins ∙ ap (head_at text) is)) w.1) in
      (not_of op w.0, here, negated_is op x y w.0 same w.2, w.3)

  pub negated_only : (room at start next j : ℕ) (op : NotOperator) (t : Tree SourceSpan) → start ≡ skip text at → Negates op next ≡ head_at text start → Reads text room 0 at t j → (x : Tree SourceSpan) × Reads text (room - 1) 0 next x j
  negated_only room at start next j op t is begins r =
      let w = operand_is room at j start t (Negates op next) is begins r in
      let less : w.1 ≡ room - 1 = omega (arith, w.2) in
      (w.0, subst (λ d. Reads text d 0 next w.0 j) less w.4)

  parens_is : (x y : Option (ParsedExpr SourceSpan)) (t : Tree SourceSpan) → part_of y ≡ parens_part (part_of x) → IsTree x t → IsTree y (parens_of t)
  parens_is (Some w) y t same is = part_is y (parens_of t) (same ∙ ap (λ u. Some (parens_of u)) is)
  parens_is None y t same is = part_none y (parens_of t) same

  pub parens_read : (room at start next end after : ℕ) (x y : Option (ParsedExpr SourceSpan)) (f g h : FaultList) → start ≡ skip text at → Opens next ≡ head_at text start → 0 < room → part_of y ≡ parens_part (part_of x) → IsReading text (room - 1) 2 next x end f g → Stands text end 41 after → KeepsPatterns g h → IsReading text room 0 at y after f h
  parens_read room at start next end after x y f g h is begins some same w closes keeps =
      let more : suc (room - 1) ≡ room = omega arith in
      let here = subst (λ d. Reads text d 0 at (parens_of w.0) after) more (parens (sym (begins ∙ ap (head_at text) is)) w.1 closes) in
      (parens_of w.0, here, parens_is x y w.0 same w.2, refuses_then_none _ _ _ _ w.3 keeps)

  pub parens_only : (room at start next j : ℕ) (t : Tree SourceSpan) → start ≡ skip text at → Opens next ≡ head_at text start → Reads text room 0 at t j → (x : Tree SourceSpan) × (k : ℕ) × Reads text (room - 1) 2 next x k × Stands text k 41 j
  parens_only room at start next j t is begins r =
      let w = operand_is room at j start t (Opens next) is begins r in
      let less : w.1 ≡ room - 1 = omega (arith, w.3) in
      (w.0, w.2, subst (λ d. Reads text d 2 next w.0 w.2) less w.5, w.6)

  -- where there is no room, no negation and no parentheses stand
  pub negated_deep : (room at start next j : ℕ) (op : NotOperator) (t : Tree SourceSpan) → start ≡ skip text at → Negates op next ≡ head_at text start → room ≡ 0 → Reads text room 0 at t j → ⊥
  negated_deep room at start next j op t is begins full r =
      let w = operand_is room at j start t (Negates op next) is begins r in
      no_room full w.2

  pub parens_deep : (room at start next j : ℕ) (t : Tree SourceSpan) → start ≡ skip text at → Opens next ≡ head_at text start → room ≡ 0 → Reads text room 0 at t j → ⊥
  parens_deep room at start next j t is begins full r =
      let w = operand_is room at j start t (Opens next) is begins r in
      no_room full w.3

  -- a tree is that of the expression, and the parts that join it make a part of a level
  abbrev pub IsBegun : ℕ → ℕ → ℕ → ℕ → Option (ParsedExpr SourceSpan) → ℕ → FaultList → FaultList → Type 0
  IsBegun room level lower at x end before after =
      (a : Tree SourceSpan) × IsTree x a × RefusesSomeOf (tree_places text a) (pattern_spans before.list.items) (pattern_spans after.list.items) × ((t : Tree SourceSpan) (j : ℕ) → MoreOf text room lower end a t j → Reads text room level at t j)

  -- the first part of a level
  pub first_read : (room level lower at end : ℕ) (x : Option (ParsedExpr SourceSpan)) (before after : FaultList) → suc lower ≡ level → IsReading text room lower at x end before after → IsBegun room level lower at x end before after
  first_read room level lower at end x before after is w =
      (w.0, w.2, w.3, λ t j more. subst (λ l. Reads text room l at t j) is (chain w.1 more))

  pub first_only : (room level lower at j : ℕ) (t : Tree SourceSpan) → suc lower ≡ level → Reads text room level at t j → Ends text level j → (a : Tree SourceSpan) × (m : ℕ) × Reads text room lower at a m × MoreOf text room lower m a t j × Ends text lower m
  first_only room level lower at j t is r ends =
      let w = level_of_chain text (subst (λ l. Reads text room l at t j) (sym is) r) in
      (w.0, w.1, w.2, w.3, part_ends text room lower w.1 j w.0 t w.3 (subst (λ l. Ends text l j) (sym is) ends))

  -- the last one
  pub last_read : (room level lower at end : ℕ) (x : Option (ParsedExpr SourceSpan)) (f g h : FaultList) → IsBegun room level lower at x end f g → KeepsPatterns g h → IsReading text room level at x end f h
  last_read room level lower at end x f g h w keeps =
      (w.0, w.3 w.0 end none, w.1, refuses_then_none _ _ _ _ w.2 keeps)

  pub nothing_of : (found : Found) → place_of found ≡ None → found ≡ Nothing
  nothing_of Nothing e = refl
  nothing_of (Joins op m) e = absurd (none_some (sym e))
  nothing_of (Wrong m) e = absurd (none_some (sym e))

  pub last_only : (room level lower end j : ℕ) (a t : Tree SourceSpan) (found : Found) → suc lower ≡ level → found ≡ found_at text lower (skip text end) → found ≡ Nothing → MoreOf text room lower end a t j → Ends text level j → end ≡ j
  last_only room level lower end j a t found is stands nothing more ends =
      (subst (BehindOf text room lower end a t j) (sym stands ∙ nothing) (behind_at text room lower end j a t more (subst (λ l. Ends text l j) (sym is) ends))).1

  joined_is : (op : Operator) (m : ℕ) (x y z : Option (ParsedExpr SourceSpan)) (a b : Tree SourceSpan) → part_of z ≡ joined_part (Joins op m) (part_of x) (part_of y) → IsTree x a → IsTree y b → IsTree z (joined_of op a b)
  joined_is op m (Some v) (Some w) z a b same is also =
      part_is z (joined_of op a b) (same ∙ ap (λ t. Some (joined_of op t (tree_of w))) is ∙ ap (λ t. Some (joined_of op a t)) also)
  joined_is op m (Some v) None z a b same is also = part_none z (joined_of op a b) same
  joined_is op m None y z a b same is also = part_none z (joined_of op a b) same

  joined_places : (op : Operator) (a b : Tree SourceSpan) → tree_places text a ++ tree_places text b ≡ tree_places text (joined_of op a b)
  joined_places (Or op) a b = refl
  joined_places (And op) a b = refl
  joined_places Minus a b = refl

  refuses_joined : (op : Operator) (a b : Tree SourceSpan) (i j k l : List SourceSpan) → RefusesSomeOf (tree_places text a) i j → k ≡ j → RefusesSomeOf (tree_places text b) k l → RefusesSomeOf (tree_places text (joined_of op a b)) i l
  refuses_joined op a b i j k l first same second =
      subst (λ places. RefusesSomeOf places i l) (joined_places op a b) (refuses_both _ _ _ _ _ (refuses_then_none _ _ _ _ first same) second)

  -- one part more
  pub step_read : (room level lower at end next after : ℕ) (found : Found) (x y z : Option (ParsedExpr SourceSpan)) (f g h k : FaultList) → found ≡ found_at text lower (skip text end) → place_of found ≡ Some next → (is_wrong found ≡ true → ⊥) → part_of z ≡ joined_part found (part_of x) (part_of y) → IsBegun room level lower at x end f g → (is_wrong found ≡ false → KeepsPatterns g h) → IsReading text room lower next y after h k → IsBegun room level lower at z after f k
  step_read room level lower at end next after Nothing x y z f g h k stands place right same first keeps second = absurd (none_some place)
  step_read room level lower at end next after (Wrong m) x y z f g h k stands place right same first keeps second =
      absurd (right refl)
  step_read room level lower at end next after (Joins op m) x y z f g h k stands place right same first keeps second =
      let here : m ≡ next = some_same place in
      let reads = subst (λ k. Reads text room lower k second.0 after) (sym here) second.1 in
      (joined_of op first.0 second.0, joined_is op m x y z first.0 second.0 same first.1 second.2, refuses_joined op first.0 second.0 _ _ _ _ first.2 (keeps refl) second.3, λ t j more. first.3 t j (one (sym stands) reads more))

  pub step_patterns : (found : Found) (next : ℕ) (i j k l : List SourceSpan) (x y z : Option (ParsedExpr SourceSpan)) → place_of found ≡ Some next → part_of z ≡ joined_part found (part_of x) (part_of y) → IfSome x (λ _. j ≡ i) → (is_wrong found ≡ false → k ≡ j) → IfSome y (λ _. l ≡ k) → IfSome z (λ _. l ≡ i)
  step_patterns found next i j k l x y None place same first right second = tt
  step_patterns Nothing next i j k l x y (Some v) place same first right second = absurd (none_some place)
  step_patterns (Wrong m) next i j k l x y (Some v) place same first right second = absurd (none_some (sym same))
  step_patterns (Joins op m) next i j k l None y (Some v) place same first right second = absurd (none_some (sym same))
  step_patterns (Joins op m) next i j k l (Some a) None (Some v) place same first right second = absurd (none_some (sym same))
  step_patterns (Joins op m) next i j k l (Some a) (Some b) (Some v) place same first right second = second ∙ right refl ∙ first

  pub step_spoiled : (found : Found) (next n i m : ℕ) (x y z : Option (ParsedExpr SourceSpan)) → place_of found ≡ Some next → part_of z ≡ joined_part found (part_of x) (part_of y) → IfNone x (0 < n) → (is_wrong found ≡ true → 0 < i) → IfNone y (0 < m) → n ≤ m → i ≤ m → IfNone z (0 < m)
  step_spoiled found next n i m x y (Some v) place same first wrong second p q = tt
  step_spoiled Nothing next n i m x y None place same first wrong second p q = absurd (none_some place)
  step_spoiled (Wrong k) next n i m x y None place same first wrong second p q = omega (arith, wrong refl, q)
  step_spoiled (Joins op k) next n i m None y None place same first wrong second p q = omega (arith, first, p)
  step_spoiled (Joins op k) next n i m (Some a) None None place same first wrong second p q = second
  step_spoiled (Joins op k) next n i m (Some a) (Some b) None place same first wrong second p q = absurd (none_some same)

  -- what stands behind a tree, where an operator follows it
  pub record IsStep (room lower next : ℕ) (a t : Tree SourceSpan) (j : ℕ) (found : Found) : Type 0 where
    pub right : is_wrong found ≡ false
    pub op : Operator
    pub operand : Tree SourceSpan
    pub after : ℕ
    pub reads : Reads text room lower next operand after
    pub more : MoreOf text room lower after (joined_of op a operand) t j
    pub ends : Ends text lower after

  behind_step : (room lower end next j : ℕ) (a t : Tree SourceSpan) (found : Found) → place_of found ≡ Some next → Ends text (suc lower) j → BehindOf text room lower end a t j found → IsStep room lower next a t j found
  behind_step room lower end next j a t Nothing place ends w = absurd (none_some place)
  behind_step room lower end next j a t (Wrong m) place ends w = absurd w
  behind_step room lower end next j a t (Joins o m) place ends w =
      let here : m ≡ next = some_same place in
      record {
        right = refl;
        op = o;
        operand = w.0;
        after = w.1;
        reads = subst (λ k. Reads text room lower k w.0 w.1) here w.2;
        more = w.3;
        ends = part_ends text room lower w.1 j (joined_of o a w.0) t w.3 ends;
      }

  pub step_only : (room level lower end next j : ℕ) (a t : Tree SourceSpan) (found : Found) → suc lower ≡ level → found ≡ found_at text lower (skip text end) → place_of found ≡ Some next → MoreOf text room lower end a t j → Ends text level j → IsStep room lower next a t j found
  step_only room level lower end next j a t found is stands place more ends =
      let all = subst (λ l. Ends text l j) (sym is) ends in
      behind_step room lower end next j a t found place all (subst (BehindOf text room lower end a t j) (sym stands) (behind_at text room lower end j a t more all))

  -- the tree that is read is the only one
  pub whole_tree : (end : ℕ) (x : Option (ParsedExpr SourceSpan)) (t : Tree SourceSpan) (before after : FaultList) → IsReading text 256 2 0 x end before after → skip text end ≡ length text → ReadsWhole text t → IsTree x t
  whole_tree end x t before after w stands whole =
      subst (IsTree x) (texts_read_as_one text w.0 t (end, w.1, stands) whole) w.2

  -- and the patterns that are refused are some of its own
  pub whole_places : (end : ℕ) (x : Option (ParsedExpr SourceSpan)) (t : Tree SourceSpan) (f g h : FaultList) → pattern_spans f.list.items ≡ [] → IsReading text 256 2 0 x end f g → KeepsPatterns g h → skip text end ≡ length text → ReadsWhole text t → AreSomeOf (pattern_spans h.list.items) (tree_places text t)
  whole_places end x t f g h empty w keeps stands whole =
      let all = w.3.1 ∙ ap (λ xs. xs ++ w.3.0) empty in
      let some = subst (λ xs. AreSomeOf xs (tree_places text w.0)) (sym (keeps ∙ all)) w.3.2 in
      subst (λ u. AreSomeOf (pattern_spans h.list.items) (tree_places text u)) (texts_read_as_one text w.0 t (end, w.1, stands) whole) some

  -- an expression that is not spoiled has the tree
  whole_part : (n : ℕ) (x : Option (ParsedExpr SourceSpan)) (t : Tree SourceSpan) → n ≡ 0 → IfNone x (0 < n) → IsTree x t → part_of x ≡ Some t
  whole_part n (Some v) t empty some is = ap Some is
  whole_part n None t empty some is = absurd (omega (arith, empty, some))

  part_some : (x : Option (ParsedExpr SourceSpan)) (t : Tree SourceSpan) {B : Type 0} → part_of x ≡ Some t → IfSome x (λ _. B) → B
  part_some (Some v) t is b = b
  part_some None t is b = absurd (none_some is)

  -- no fault is listed exactly where the tree that is read is answered
  pub whole_exact : (x : Option (ParsedExpr SourceSpan)) (n i k : ℕ) → i + k ≡ n → IfNone x (0 < n) → IfSome x (λ _. k ≡ 0) → (i ≡ 0 → (t : Tree SourceSpan) × ReadsWhole text t × IsTree x t) → ((t : Tree SourceSpan) → ReadsWhole text t → i ≡ 0) → (n ≡ 0 ↔ ((t : Tree SourceSpan) × ReadsWhole text t × (part_of x ≡ Some t)))
  whole_exact x n i k all spoiled built read only = (
    λ empty. let w = read (omega (arith, all, empty)) in (w.0, w.1, whole_part n x w.0 empty spoiled w.2),
    λ w.
        let clean = only w.0 w.1 in
        let built_all = part_some x w.0 w.2 built in
        omega (arith, all, clean, built_all),
  )
