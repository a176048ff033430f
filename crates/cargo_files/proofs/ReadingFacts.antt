-- An expression by what it begins with, and a group by its first expression.
use Rattle.std.proofs.Common.{◌≡◌, ℕ, suc, ◌+◌, Bool, true, false, cond, ◌&&◌, ◌||◌, List, Option, Some, None, refl, sym, subst, ap, ◌∙◌, arith, slice_range}
use Rattle.cargo_files.specs.Bytes.{after}
use Rattle.cargo_files.specs.Heads.{head_at}
use Rattle.cargo_files.specs.Settings.{Setting}
use Rattle.cargo_files.specs.Expressions.{Cfg, constant_of, name_of, pair_of, not_of, joined_of, says}
use Rattle.cargo_files.specs.Grammar.{Reads, ReadsEach, constant, name, pair, negated, group, closed, one, next_place}
use Rattle.cargo_files.specs.declared.head.Head.{Head}
use Rattle.cargo_files.specs.declared.head.Head.TheVariants.{Group, Not, Constant, Name, Pair, Wrong}

module _ (text : List ℕ) where
  -- what an expression is made of, by what it begins with
  abbrev pub MadeOf : ℕ → Cfg → ℕ → Head → Type 0
  MadeOf room x j (Constant b e) = (x ≡ constant_of b) × (j ≡ e)
  MadeOf room x j (Name s e) = (x ≡ name_of (slice_range text s e)) × (j ≡ e)
  MadeOf room x j (Pair s e q c) = (x ≡ pair_of (slice_range text s e) (slice_range text q c)) × (j ≡ c + 1)
  MadeOf room x j (Not m) = (y : Cfg) × (d : ℕ) × (k : ℕ) × (room ≡ suc d) × (x ≡ not_of y) × Reads text d m y k × (after text k 41 ≡ Some j)
  MadeOf room x j (Group every m) = (d : ℕ) × (room ≡ suc d) × ReadsEach text d every m x j
  MadeOf room x j (Wrong f) = ⊥

  pub made_of : (room i j : ℕ) (x : Cfg) → Reads text room i x j → MadeOf room x j (head_at text i)
  made_of room i j x (constant h) = subst (MadeOf room x j) (sym h) (refl, refl)
  made_of room i j x (name h) = subst (MadeOf room x j) (sym h) (refl, refl)
  made_of room i j x (pair h) = subst (MadeOf room x j) (sym h) (refl, refl)
  made_of room i j x (negated {room = d} {k = k} {x = y} h r c) =
      subst (MadeOf room x j) (sym h) (y, d, k, refl, refl, r, c)
  made_of room i j x (group {room = d} h r) = subst (MadeOf room x j) (sym h) (d, refl, r)

  -- what a group is made of, by whether it closes at once
  abbrev pub EachOf : ℕ → Bool → ℕ → Cfg → ℕ → Option ℕ → Type 0
  EachOf room every i x j (Some e) = (x ≡ constant_of every) × (j ≡ e)
  EachOf room every i x j None =
      (y : Cfg) × (z : Cfg) × (m : ℕ) × (k : ℕ) × (x ≡ joined_of every y z) × Reads text room i y m × (next_place text m ≡ Some k) × ReadsEach text room every k z j

  pub each_of : (room : ℕ) (every : Bool) (i j : ℕ) (x : Cfg) → ReadsEach text room every i x j → EachOf room every i x j (after text i 41)
  each_of room every i j x (closed h) = subst (EachOf room every i x j) (sym h) (refl, refl)
  each_of room every i j x (one {m = m} {k = k} {x = y} {y = z} h r n more) =
      subst (EachOf room every i x j) (sym h) (y, z, m, k, refl, r, n, more)

  same_room : {d e : ℕ} → suc d ≡ suc e → d ≡ e
  same_room h = omega arith

  -- a negation and a group with the room that is left inside
  pub negation_inside : (room inside i j m : ℕ) (x : Cfg) → room ≡ suc inside → Not m ≡ head_at text i → Reads text room i x j → (y : Cfg) × (k : ℕ) × (x ≡ not_of y) × Reads text inside m y k × (after text k 41 ≡ Some j)
  negation_inside room inside i j m x is h r =
      let w = subst (MadeOf room x j) (sym h) (made_of room i j x r) in
      (w.0, w.2, w.4, subst (λ d. Reads text d m w.0 w.2) (same_room (sym w.3 ∙ is)) w.5, w.6)

  pub group_inside : (room inside i j m : ℕ) (every : Bool) (x : Cfg) → room ≡ suc inside → Group every m ≡ head_at text i → Reads text room i x j → ReadsEach text inside every m x j
  group_inside room inside i j m every x is h r =
      let w = subst (MadeOf room x j) (sym h) (made_of room i j x r) in
      subst (λ d. ReadsEach text d every m x j) (same_room (sym w.1 ∙ is)) w.2

-- two answers of a group
abbrev pub joined : Bool → Bool → Bool → Bool
joined every a b = cond every (a && b) (a || b)

pub says_joined : (settings : List Setting) (every : Bool) (x y : Cfg) → says settings (joined_of every x y) ≡ joined every (says settings x) (says settings y)
says_joined settings true x y = refl
says_joined settings false x y = refl

pub joined_once_more : (every a b c : Bool) → joined every (joined every a b) c ≡ joined every a (joined every b c)
joined_once_more true true b c = refl
joined_once_more true false b c = refl
joined_once_more false true b c = refl
joined_once_more false false b c = refl

pub joined_last : (every a : Bool) → joined every a every ≡ a
joined_last true true = refl
joined_last true false = refl
joined_last false true = refl
joined_last false false = refl

pub joined_first : (every a : Bool) → joined every every a ≡ a
joined_first true a = refl
joined_first false a = refl

-- what is left of a group from a place on, and what it says behind the answer so far
pub record Gathers (text : List ℕ) (settings : List Setting) (room : ℕ) (every : Bool) (place : ℕ) (value : Bool) (x : Cfg) (j : ℕ) : Type 0 where
  pub rest : Cfg
  pub reads : ReadsEach text room every place rest j
  pub says : says settings x ≡ joined every value (says settings rest)

-- where no parenthesis closes the group, its next expression and what follows that
pub record Goes (text : List ℕ) (settings : List Setting) (room : ℕ) (every : Bool) (place : ℕ) (value : Bool) (x : Cfg) (j : ℕ) : Type 0 where
  pub first : Cfg
  pub others : Cfg
  pub end : ℕ
  pub next : ℕ
  pub reads : Reads text room place first end
  pub follows : next_place text end ≡ Some next
  pub more : ReadsEach text room every next others j
  pub says : says settings x ≡ joined every (joined every value (says settings first)) (says settings others)

pub goes_on : (text : List ℕ) (settings : List Setting) (room : ℕ) (every : Bool) (place : ℕ) (value : Bool) (x : Cfg) (j : ℕ) → after text place 41 ≡ None → Gathers text settings room every place value x j → Goes text settings room every place value x j
goes_on text settings room every place value x j none from =
    let w = subst (EachOf text room every place from.rest j) none (each_of text room every place j from.rest from.reads) in
    let is : says settings from.rest ≡ joined every (says settings w.0) (says settings w.1) = ap (says settings) w.4 ∙ says_joined settings every w.0 w.1 in
    record {
      first = w.0;
      others = w.1;
      end = w.2;
      next = w.3;
      reads = w.5;
      follows = w.6;
      more = w.7;
      says = from.says ∙ ap (joined every value) is ∙ sym (joined_once_more every value (says settings w.0) (says settings w.1));
    }

pub closes : (text : List ℕ) (settings : List Setting) (room : ℕ) (every : Bool) (place : ℕ) (value : Bool) (x : Cfg) (j end : ℕ) → after text place 41 ≡ Some end → Gathers text settings room every place value x j → (value ≡ says settings x) × (end ≡ j)
closes text settings room every place value x j end some from =
    let w = subst (EachOf text room every place from.rest j) some (each_of text room every place j from.rest from.reads) in
    let is : says settings from.rest ≡ every = ap (says settings) w.0 in
    (sym (from.says ∙ ap (joined every value) is ∙ joined_last every value), sym w.1)

-- the first expression was read as far as the place, and its answer joins those before
pub gathers_more : (text : List ℕ) (settings : List Setting) (room : ℕ) (every : Bool) (place : ℕ) (value : Bool) (x : Cfg) (j end next : ℕ) (item : Bool) (from : Goes text settings room every place value x j) → (item ≡ says settings from.first) × (end ≡ from.end) → next_place text end ≡ Some next → Gathers text settings room every next (joined every value item) x j
gathers_more text settings room every place value x j end next item from same follows =
    let follow : Some next ≡ Some from.next = sym follows ∙ ap (next_place text) same.1 ∙ from.follows in
    let is : next ≡ from.next = (cc) in
    record {
      rest = from.others;
      reads = subst (λ k. ReadsEach text room every k from.others j) (sym is) from.more;
      says = from.says ∙ ap (λ b. joined every (joined every value b) (says settings from.others)) (sym same.0);
    }

pub follows_nothing : (text : List ℕ) (end at next : ℕ) → next_place text end ≡ None → end ≡ at → next_place text at ≡ Some next → ⊥
follows_nothing text end at next none is some =
    let wrong : None ≡ Some next = sym none ∙ ap (next_place text) is ∙ some in
    (cc)

pub closes_nothing : (text : List ℕ) (end at j : ℕ) → after text end 41 ≡ None → end ≡ at → after text at 41 ≡ Some j → ⊥
closes_nothing text end at j none is some =
    let wrong : None ≡ Some j = sym none ∙ ap (λ k. after text k 41) is ∙ some in
    (cc)

pub closes_there : (text : List ℕ) (end at j k : ℕ) → after text end 41 ≡ Some k → end ≡ at → after text at 41 ≡ Some j → k ≡ j
closes_there text end at j k there is some =
    let same : Some k ≡ Some j = sym there ∙ ap (λ n. after text n 41) is ∙ some in
    (cc)
