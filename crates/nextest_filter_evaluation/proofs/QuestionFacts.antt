-- The filters of a question, made ready, say the same together.
use Rattle.std.proofs.Common.{◌≡◌, ◌∙◌, ◌↔◌, ◌+◌, ◌<◌, ◌≤◌, ℕ, zero, suc, ◌||◌, ◌⊎◌, inl, inr, refl, sym, ap, subst, arith, Bool, true, false, true≢false, IsTrue, List, [], ◌∷◌, ◌++◌, length, map, append_assoc, Some, slice_get, slice_index_or, Contains}
use Rattle.std.specs.Prelude.{take, drop, nat_lt}
use Rattle.std.specs.List.{list_any}
use Rattle.std.proofs.lemmas.Bool.{ltb-true, lt-ltb}
use Rattle.std.proofs.lemmas.List.{length-map, map_more, length-append, append-nil, drop_more, drop_all}
use Rattle.list_facts.proofs.Membership.{Contains-first, Contains-rest, Contains-none, Contains-cons_cases}
use Rattle.regex.specs.Patterns.{Re}
use Rattle.workspace_record.specs.Records.{Text}
use Rattle.nextest_filter_evaluation.specs.NameTests.{NameTest}
use Rattle.nextest_binaries.specs.Queries as asked
use Rattle.nextest_binaries.specs.Queries.{binary_of}
use Rattle.nextest_filter_evaluation.specs.Compiled.{Leaf, Packages, Kind, Platform, Binary, BinaryId, Test, Group, Default, All, is_group}
use Rattle.nextest_filter_evaluation.specs.Compiled as compiled
use Rattle.nextest_filter_evaluation.specs.Formulas.{Formula, Holds, has_leaf}
use Rattle.nextest_filter_evaluation.specs.Meaning.{DefaultHolds, LeafHolds, Passes}
use Rattle.nextest_filter_evaluation.proofs.FormulaFacts.{each_map, each_of, each_without, holds_alike}
use Rattle.nextest_filter_evaluation.specs.Searches.{HasAt, searches}
use Rattle.nextest_filter_evaluation.specs.Ready.{HoldsOf, IsReady, IsSuited, Question, Says}
use Rattle.nextest_filter_evaluation.specs.Questions.{AllHold, AllSay, AreReady, IsFirst, IsGrouped, Lent, ReadyView, all_searches, lent_searches}
use Rattle.nextest_filter_evaluation.specs.declared.ready_context.ReadyContext.{ReadyContext}
use Rattle.nextest_filter_evaluation.proofs.ReducingFacts.{has_parts, has_whole, iff_trans, no_some}

-- ---- the patterns of several filters

all_searches_more : (fs : List (Formula Leaf)) (f : Formula Leaf) → all_searches (fs ++ f ∷ []) ≡ all_searches fs ++ searches f
all_searches_more [] f = append-nil (searches f)
all_searches_more (g ∷ fs) f = ap (λ xs. searches g ++ xs) (all_searches_more fs f) ∙ sym (append_assoc (searches g) (all_searches fs) (searches f))

module _ {X : Type 0} (c : X → Formula Leaf) where
  pub searches_next : (xs : List X) (i : ℕ) (d : X) → i < length xs → all_searches (map c (take (i + 1) xs)) ≡ all_searches (map c (take i xs)) ++ searches (c (slice_index_or xs i d))
  searches_next xs i d lt = ap all_searches (map_more c xs i d lt) ∙ all_searches_more (map c (take i xs)) (c (slice_index_or xs i d))

  pub searches_within : (xs : List X) (i : ℕ) (d : X) → i < length xs → length (all_searches (map c (take i xs))) + length (searches (c (slice_index_or xs i d))) ≤ length (all_searches (map c xs))
  searches_within [] i d lt = absurd (omega arith)
  searches_within (x ∷ xs) zero d lt = omega (arith, length-append (searches (c x)) (all_searches (map c xs)))
  searches_within (x ∷ xs) (suc i) d lt =
      omega (arith, searches_within xs i d (omega arith), length-append (searches (c x)) (all_searches (map c xs)), length-append (searches (c x)) (all_searches (map c (take i xs))))

module _ {X : Type 0} (c : X → Formula Leaf) (xs : List X) (i : ℕ) (x : X) (lt : i < length xs) (is : x ≡ slice_index_or xs i x) where
  pub item_within : length (all_searches (map c (take i xs))) + length (searches (c x)) ≤ length (all_searches (map c xs))
  item_within = subst (λ y. length (all_searches (map c (take i xs))) + length (searches (c y)) ≤ length (all_searches (map c xs))) (sym is) (searches_within c xs i x lt)

  item_next : all_searches (map c (take (i + 1) xs)) ≡ all_searches (map c (take i xs)) ++ searches (c x)
  item_next = searches_next c xs i x lt ∙ ap (λ y. all_searches (map c (take i xs)) ++ searches (c y)) (sym is)

  pub pushed_next : (old now new : List Re) → now ≡ old ++ all_searches (map c (take i xs)) → new ≡ now ++ searches (c x) → new ≡ old ++ all_searches (map c (take (i + 1) xs))
  pushed_next old now new was more =
      more ∙ ap (λ ys. ys ++ searches (c x)) was ∙ append_assoc old (all_searches (map c (take i xs))) (searches (c x)) ∙ ap (λ ys. old ++ ys) (sym item_next)

-- a step of the search for the first
module _ {X F : Type 0} (P : F → Type 0) (f : X → F) (xs : List X) where
  pub first_bound : (fs : List F) (k : ℕ) → IsFirst P fs k → k ≤ length fs
  first_bound [] k is = omega (arith, is)
  first_bound (y ∷ fs) zero is = omega arith
  first_bound (y ∷ fs) (suc k) is = omega (arith, first_bound fs k is.1)

  abbrev pub Found : ℕ → Type 0
  Found i = (k : ℕ) → IsFirst P (map f (drop i xs)) k → IsFirst P (map f xs) (i + k)

  pub found_none : (i : ℕ) → length xs ≤ i → Found i → IsFirst P (map f xs) (length xs)
  found_none i high found =
      let here = found 0 (subst (λ ys. IsFirst P (map f ys) 0) (sym (drop_all i xs high)) refl) in
      subst (λ k. IsFirst P (map f xs) k) (omega (arith, high, first_bound (map f xs) (i + 0) here, length-map xs f)) here

  module _ (i : ℕ) (x : X) (lt : i < length xs) (is : x ≡ slice_index_or xs i x) (found : Found i) where
    left : drop i xs ≡ x ∷ drop (i + 1) xs
    left = drop_more xs i x lt ∙ ap (λ y. y ∷ drop (i + 1) xs) (sym is)

    pub found_here : P (f x) → IsFirst P (map f xs) i
    found_here p =
        subst (λ k. IsFirst P (map f xs) k) (omega arith) (found 0 (subst (λ ys. IsFirst P (map f ys) 0) (sym left) p))

    pub found_later : (P (f x) → ⊥) → Found (i + 1)
    found_later none k more =
        subst (λ n. IsFirst P (map f xs) n) (omega arith) (found (suc k) (subst (λ ys. IsFirst P (map f ys) (suc k)) (sym left) (none, more)))

-- ---- several filters made ready

module _ (cx : ReadyContext) where
  pub ready_more : (at : ℕ) (fs : List (Formula Leaf)) (rs : List (Formula Question)) (f : Formula Leaf) (r : Formula Question) → AreReady cx at fs rs → IsReady cx (λ all. HasAt all (at + length (all_searches fs)) (searches f)) f r → AreReady cx at (fs ++ f ∷ []) (rs ++ r ∷ [])
  ready_more at [] [] f r are is = (subst (λ k. IsReady cx (λ all. HasAt all k (searches f)) f r) (omega arith) is, tt)
  ready_more at [] (q ∷ rs) f r are is = absurd are
  ready_more at (g ∷ fs) [] f r are is = absurd are
  ready_more at (g ∷ fs) (q ∷ rs) f r are is = (
    are.0,
    ready_more (at + length (searches g)) fs rs f r are.1 (subst (λ k. IsReady cx (λ all. HasAt all k (searches f)) f r) (omega (arith, length-append (searches g) (all_searches fs))) is),
  )

  module _ {X : Type 0} (c : X → Formula Leaf) (xs : List X) (i : ℕ) (x : X) (lt : i < length xs) (item : x ≡ slice_index_or xs i x) (at next end : ℕ) (is : next ≡ at + length (all_searches (map c (take i xs)))) where
    pub next_end : end ≡ next + length (searches (c x)) → end ≡ at + length (all_searches (map c (take (i + 1) xs)))
    next_end ends =
        omega (arith, is, ends, ap length (item_next c xs i x lt item), length-append (all_searches (map c (take i xs))) (searches (c x)))

    pub next_ready : (rs new : List (Formula Question)) (r : Formula Question) → AreReady cx at (map c (take i xs)) rs → IsReady cx (λ all. HasAt all next (searches (c x))) (c x) r → new ≡ rs ++ r ∷ [] → AreReady cx at (map c (take (i + 1) xs)) new
    next_ready rs new r are one made =
        let all : AreReady cx at (map c (take i xs) ++ c x ∷ []) (rs ++ r ∷ []) = ready_more at (map c (take i xs)) rs (c x) r are (subst (λ k. IsReady cx (λ all. HasAt all k (searches (c x))) (c x) r) is one) in
        let whole : map c (take (i + 1) xs) ≡ map c (take i xs) ++ c x ∷ [] = map_more c xs i x lt ∙ ap (λ y. map c (take i xs) ++ c y ∷ []) (sym item) in
        subst (λ qs. AreReady cx at (map c (take (i + 1) xs)) qs) (sym made) (subst (λ fs. AreReady cx at fs (rs ++ r ∷ [])) (sym whole) all)

-- ---- lists whose elements say the same

AreAlike : {F G : Type 0} → (F → Type 0) → (G → Type 0) → List F → List G → Type 0
AreAlike P Q [] [] = Unit {0}
AreAlike P Q (f ∷ fs) (g ∷ gs) = (P f ↔ Q g) × AreAlike P Q fs gs
AreAlike P Q _ _ = ⊥

ready_alike : (cx : ReadyContext) (patterns : List Re) (group : ℕ) (name : Text) (at : ℕ) (fs : List (Formula Leaf)) (rs : List (Formula Question)) → AreReady cx at fs rs → HasAt patterns at (all_searches fs) → AreAlike (Holds (Says patterns group name)) (Holds (HoldsOf cx group name)) rs fs
unfolding AreAlike
ready_alike cx patterns group name at [] [] are stand = tt
ready_alike cx patterns group name at [] (r ∷ rs) are stand = absurd are
ready_alike cx patterns group name at (f ∷ fs) [] are stand = absurd are
ready_alike cx patterns group name at (f ∷ fs) (r ∷ rs) are stand =
    let w = has_parts patterns at (searches f) (all_searches fs) stand in
    (are.0 patterns group name w.0, ready_alike cx patterns group name (at + length (searches f)) fs rs are.1 w.1)

module _ {F G : Type 0} (P : F → Type 0) (Q : G → Type 0) where
  first_alike : (fs : List F) (gs : List G) (k : ℕ) → AreAlike P Q fs gs → IsFirst P fs k ↔ IsFirst Q gs k
  unfolding AreAlike
  first_alike [] [] k are = (λ e. e, λ e. e)
  first_alike [] (g ∷ gs) k are = absurd are
  first_alike (f ∷ fs) [] k are = absurd are
  first_alike (f ∷ fs) (g ∷ gs) zero are = are.0
  first_alike (f ∷ fs) (g ∷ gs) (suc k) are =
      let h = first_alike fs gs k are.1 in
      (λ w. (λ q. w.0 (are.0.1 q), h.0 w.1), λ w. (λ p. w.0 (are.0.0 p), h.1 w.1))

  some_alike : (fs : List F) (gs : List G) → AreAlike P Q fs gs → ((f : F) × Contains fs f × P f) → (g : G) × Contains gs g × Q g
  unfolding AreAlike
  some_alike [] [] are w = absurd (Contains-none w.0 w.1)
  some_alike [] (g ∷ gs) are w = absurd are
  some_alike (f ∷ fs) [] are w = absurd are
  some_alike (f ∷ fs) (g ∷ gs) are w =
      elim (Contains-cons_cases f fs w.0 w.1) [
        | inl e ↦ (g, Contains-first g gs, are.0.0 (subst P (sym e) w.2))
        | inr c ↦ let s = some_alike fs gs are.1 (w.0, c, w.2) in (s.0, Contains-rest g gs s.0 s.1, s.2)
      ]

-- ---- the first of a list

pub first_once : {F : Type 0} (P : F → Type 0) (fs : List F) (a b : ℕ) → IsFirst P fs a → IsFirst P fs b → a ≡ b
first_once P [] a b x y = x ∙ sym y
first_once P (f ∷ fs) zero zero x y = refl
first_once P (f ∷ fs) zero (suc b) x y = absurd (y.0 x)
first_once P (f ∷ fs) (suc a) zero x y = absurd (x.0 y)
first_once P (f ∷ fs) (suc a) (suc b) x y = ap suc (first_once P fs a b x.1 y.1)

-- there is one exactly if its place is one of the list's
pub first_some : {F : Type 0} (P : F → Type 0) (fs : List F) (k : ℕ) → IsFirst P fs k → (k < length fs) ↔ ((f : F) × Contains fs f × P f)
first_some P [] k is = (λ lt. absurd (omega (arith, is)), λ w. absurd (Contains-none w.0 w.1))
first_some P (f ∷ fs) zero is = (λ lt. (f, Contains-first f fs, is), λ w. omega arith)
first_some P (f ∷ fs) (suc k) is =
    let h = first_some P fs k is.1 in (
      λ lt. let w = h.0 (omega arith) in (w.0, Contains-rest f fs w.0 w.1, w.2),
      λ w.
          elim (Contains-cons_cases f fs w.0 w.1) [
            | inl e ↦ absurd (is.0 (subst P (sym e) w.2))
            | inr c ↦ omega (arith, h.1 (w.0, c, w.2))
          ],
    )

-- whether all that is ready says yes of a test, by the first group and the first text that do
pub all_say : (old mid new : List Re) (R : ReadyView) (name : Text) (b : Bool) (group k n : ℕ) (groups texts : List (Formula Question)) → mid ≡ old → new ≡ mid → groups ≡ R.groups → texts ≡ R.texts → n ≡ length R.texts → (IsTrue b ↔ Holds (Says old 0 name) R.default) → b ≡ true → IsFirst (Holds (Says mid 0 name)) groups group → IsFirst (Holds (Says new group name)) texts k → IsTrue (nat_lt k n) ↔ AllSay old R name
all_say old mid new R name b group k n groups texts same_1 same_2 groups_are texts_are count says passes first_group first_text =
    let g : IsFirst (Holds (Says old 0 name)) R.groups group = subst (λ gs. IsFirst (Holds (Says old 0 name)) gs group) groups_are (subst (λ ps. IsFirst (Holds (Says ps 0 name)) groups group) same_1 first_group) in
    let t : IsFirst (Holds (Says old group name)) R.texts k = subst (λ ts. IsFirst (Holds (Says old group name)) ts k) texts_are (subst (λ ps. IsFirst (Holds (Says ps group name)) texts k) (same_2 ∙ same_1) first_text) in
    let some = first_some (Holds (Says old group name)) R.texts k t in (
      λ h. (says.0 passes, (group, g, some.0 (omega (arith, ltb-true k n h, count)))),
      λ w.
          let same : w.1.0 ≡ group = first_once _ R.groups w.1.0 group w.1.1 g in
          lt-ltb k n (omega (arith, count, some.1 (subst (λ j. (q : Formula Question) × Contains R.texts q × Holds (Says old j name) q) same w.1.2))),
    )

-- ---- what is said of groups and of the default filter

same : (P : Type 0) → P ↔ P
same P = (λ p. p, λ p. p)

module _ (member other : NameTest → Type 0) (default another : Type 0) (t : asked.Test) (groups : (m : NameTest) → member m ↔ other m) (defaults : default ↔ another) where
  leaf_alike : (l : Leaf) → LeafHolds member default t l ↔ LeafHolds other another t l
  leaf_alike (Packages ids) = same _
  leaf_alike (Kind test span) = same _
  leaf_alike (Platform platform span) = same _
  leaf_alike (Binary test span) = same _
  leaf_alike (BinaryId test span) = same _
  leaf_alike (Test test span) = same _
  leaf_alike (Group test span) = groups test
  leaf_alike Default = defaults
  leaf_alike All = same _
  leaf_alike compiled.None = same _

  pub filter_alike : (f : Formula Leaf) → Holds (LeafHolds member default t) f ↔ Holds (LeafHolds other another t) f
  filter_alike f = holds_alike _ _ f (each_of _ f leaf_alike)

-- the same of a filter that names no group, whatever is said of groups
module _ (member other : NameTest → Type 0) (default another : Type 0) (t : asked.Test) (defaults : default ↔ another) where
  leaf_without : (l : Leaf) → is_group l ≡ false → LeafHolds member default t l ↔ LeafHolds other another t l
  leaf_without (Packages ids) e = same _
  leaf_without (Kind test span) e = same _
  leaf_without (Platform platform span) e = same _
  leaf_without (Binary test span) e = same _
  leaf_without (BinaryId test span) e = same _
  leaf_without (Test test span) e = same _
  leaf_without (Group test span) e = absurd (true≢false e)
  leaf_without Default e = defaults
  leaf_without All e = same _
  leaf_without compiled.None e = same _

  filter_without : (f : Formula Leaf) → has_leaf is_group f ≡ false → Holds (LeafHolds member default t) f ↔ Holds (LeafHolds other another t) f
  filter_without f none = holds_alike _ _ f (each_map _ _ f leaf_without (each_without is_group f none))

left_off : (a b : Bool) → (a || b) ≡ false → a ≡ false
left_off true b e = e
left_off false b e = refl

right_off : (a b : Bool) → (a || b) ≡ false → b ≡ false
right_off true b e = absurd (true≢false e)
right_off false b e = e

-- a first place is never denied
first_undenied : {F : Type 0} (P : F → Type 0) (fs : List F) → ((k : ℕ) → IsFirst P fs k → ⊥) → ⊥
first_undenied P [] none = none 0 refl
first_undenied P (f ∷ fs) none = first_undenied P fs (λ k is. none (suc k) (λ p. none 0 p, is))

flip : {A B : Type 0} → A ↔ B → B ↔ A
flip f = (f.1, f.0)

alike_so : {F G : Type 0} (P : F → Type 0) (Q R : G → Type 0) (fs : List F) (gs : List G) → ((g : G) → Q g ↔ R g) → AreAlike P Q fs gs → AreAlike P R fs gs
unfolding AreAlike
alike_so P Q R [] [] h are = tt
alike_so P Q R [] (g ∷ gs) h are = are
alike_so P Q R (f ∷ fs) [] h are = are
alike_so P Q R (f ∷ fs) (g ∷ gs) h are = (iff_trans are.0 (h g), alike_so P Q R fs gs h are.1)

alike_without : {F G : Type 0} (P : F → Type 0) (Q R : G → Type 0) (test : G → Bool) (fs : List F) (gs : List G) → ((g : G) → test g ≡ false → Q g ↔ R g) → list_any test gs ≡ false → AreAlike P Q fs gs → AreAlike P R fs gs
unfolding AreAlike
alike_without P Q R test [] [] h none are = tt
alike_without P Q R test [] (g ∷ gs) h none are = are
alike_without P Q R test (f ∷ fs) [] h none are = are
alike_without P Q R test (f ∷ fs) (g ∷ gs) h none are = (
  iff_trans are.0 (h g (left_off (test g) (list_any test gs) none)),
  alike_without P Q R test fs gs h (right_off (test g) (list_any test gs) none) are.1,
)

turned : {F G : Type 0} (P : F → Type 0) (Q : G → Type 0) (fs : List F) (gs : List G) → AreAlike P Q fs gs → AreAlike Q P gs fs
unfolding AreAlike
turned P Q [] [] are = tt
turned P Q [] (g ∷ gs) are = are
turned P Q (f ∷ fs) [] are = are
turned P Q (f ∷ fs) (g ∷ gs) are = (flip are.0, turned P Q fs gs are.1)

-- ---- the question

module _ (b : asked.Binary) (name : Text) where
  abbrev there : asked.Test
  there = record { binary = b; name = name }

  said : (cx : ReadyContext) (group : ℕ) (member : NameTest → Type 0) (default : Type 0) → binary_of cx.binary_query ≡ b → ((m : NameTest) → IsSuited (map (λ t. t.now) cx.group_names.now) group m ↔ member m) → (IsTrue cx.default ↔ default) → (f : Formula Leaf) → Holds (HoldsOf cx group name) f ↔ Holds (LeafHolds member default there) f
  said cx group member default at members defaults f =
      subst (λ x. Holds (LeafHolds (IsSuited (map (λ t. t.now) cx.group_names.now) group) (IsTrue cx.default) (record { binary = x; name = name })) f ↔ Holds (LeafHolds member default there) f) (sym at) (filter_alike _ _ _ _ there members defaults f)

  said_without : (cx : ReadyContext) (group : ℕ) (member : NameTest → Type 0) (default : Type 0) → binary_of cx.binary_query ≡ b → (IsTrue cx.default ↔ default) → (f : Formula Leaf) → has_leaf is_group f ≡ false → Holds (HoldsOf cx group name) f ↔ Holds (LeafHolds member default there) f
  said_without cx group member default at defaults f none =
      subst (λ x. Holds (LeafHolds (IsSuited (map (λ t. t.now) cx.group_names.now) group) (IsTrue cx.default) (record { binary = x; name = name })) f ↔ Holds (LeafHolds member default there) f) (sym at) (filter_without _ _ _ _ there defaults f none)

  nobody : (names : List Text) (group : ℕ) → names ≡ [] → (m : NameTest) → IsSuited names group m ↔ ⊥
  nobody names group e m = (λ w. no_some (subst (λ ns. slice_get ns group ≡ Some w.0) e w.1), λ x. absurd x)

  module _ (F : Lent) (R : ReadyView) (ungrouped passed grouped : ReadyContext) (at_1 at_2 : ℕ)
      (same_1 : at_1 ≡ length (searches F.default)) (same_2 : at_2 ≡ at_1 + length (all_searches F.groups))
      (binary_0 : binary_of ungrouped.binary_query ≡ b) (binary_1 : binary_of passed.binary_query ≡ b) (binary_2 : binary_of grouped.binary_query ≡ b)
      (names_0 : map (λ t. t.now) ungrouped.group_names.now ≡ []) (names_1 : map (λ t. t.now) passed.group_names.now ≡ []) (names_2 : map (λ t. t.now) grouped.group_names.now ≡ F.names)
      (default_0 : ungrouped.default ≡ false) (default_1 : passed.default ≡ true) (default_2 : grouped.default ≡ true)
      (default_is : IsReady ungrouped (λ all. HasAt all 0 (searches F.default)) F.default R.default)
      (groups_are : AreReady passed at_1 F.groups R.groups) (texts_are : AreReady grouped at_2 F.texts R.texts) where
    all : List Re
    all = lent_searches F

    stand_0 : HasAt (lent_searches F) 0 (searches F.default)
    stand_0 = (has_parts (lent_searches F) 0 (searches F.default) (all_searches F.groups ++ all_searches F.texts) (has_whole (lent_searches F) (lent_searches F) refl)).0

    stand_rest : HasAt (lent_searches F) at_1 (all_searches F.groups) × HasAt (lent_searches F) (at_1 + length (all_searches F.groups)) (all_searches F.texts)
    stand_rest =
        has_parts (lent_searches F) at_1 (all_searches F.groups) (all_searches F.texts) (subst (λ k. HasAt (lent_searches F) k (all_searches F.groups ++ all_searches F.texts)) (omega (arith, same_1)) (has_parts (lent_searches F) 0 (searches F.default) (all_searches F.groups ++ all_searches F.texts) (has_whole (lent_searches F) (lent_searches F) refl)).1)

    default_says : Holds (Says (lent_searches F) 0 name) R.default ↔ DefaultHolds F.default there
    default_says =
        iff_trans (default_is (lent_searches F) 0 name stand_0) (said ungrouped 0 (λ _. ⊥) ⊥ binary_0 (nobody _ 0 names_0) (λ e. true≢false (sym e ∙ default_0), λ x. absurd x) F.default)

    module _ (holds : DefaultHolds F.default there) where
      groups_say : AreAlike (Holds (Says (lent_searches F) 0 name)) (Passes F.default (λ _. ⊥) there) R.groups F.groups
      groups_say =
          alike_so _ _ _ R.groups F.groups (said passed 0 (λ _. ⊥) (DefaultHolds F.default there) binary_1 (nobody _ 0 names_1) (λ _. holds, λ _. default_1)) (ready_alike passed (lent_searches F) 0 name at_1 F.groups R.groups groups_are stand_rest.0)

      module _ (group : ℕ) (is : IsFirst (Holds (Says (lent_searches F) 0 name)) R.groups group) where
        placed : IsFirst (Passes F.default (λ _. ⊥) there) F.groups group
        placed = (first_alike _ _ R.groups F.groups group groups_say).0 is

        members : (m : NameTest) → IsSuited (map (λ t. t.now) grouped.group_names.now) group m ↔ IsGrouped F there m
        members m = (
          λ w. (group, placed, subst (λ ns. IsSuited ns group m) names_2 w),
          λ w. subst (λ k. IsSuited (map (λ t. t.now) grouped.group_names.now) k m) (first_once _ F.groups w.0 group w.1 placed) (subst (λ ns. IsSuited ns w.0 m) (sym names_2) w.2),
        )

        texts_say : AreAlike (Holds (Says (lent_searches F) group name)) (Passes F.default (IsGrouped F there) there) R.texts F.texts
        texts_say =
            alike_so _ _ _ R.texts F.texts (said grouped group (IsGrouped F there) (DefaultHolds F.default there) binary_2 members (λ _. holds, λ _. default_2)) (ready_alike grouped (lent_searches F) group name at_2 F.texts R.texts texts_are (subst (λ k. HasAt (lent_searches F) k (all_searches F.texts)) (sym same_2) stand_rest.1))

    -- an answer to what is ready is one to the filters
    answers_alike : (answer : Bool) → (IsTrue answer ↔ AllSay (lent_searches F) R name) → IsTrue answer ↔ AllHold F there
    answers_alike true h = (
      λ e.
          let w = h.0 e in
          let holds = default_says.0 w.0 in
          (holds, some_alike _ _ R.texts F.texts (texts_say holds w.1.0 w.1.1) w.1.2),
      λ _. refl,
    )
    answers_alike false h = (
      λ e. absurd (true≢false (sym e)),
      λ w.
          absurd (first_undenied (Holds (Says (lent_searches F) 0 name)) R.groups (λ k is. true≢false (sym (h.1 (default_says.1 w.0, (k, is, some_alike _ _ F.texts R.texts (turned _ _ R.texts F.texts (texts_say w.0 k is)) w.1)))))),
    )

    -- the same where no text names a group, and no group is looked for
    module _ (T : ReadyView) (default_same : T.default ≡ R.default) (texts_same : T.texts ≡ R.texts) (no_groups : T.groups ≡ []) (none : list_any (has_leaf is_group) F.texts ≡ false) where
      texts_say_without : DefaultHolds F.default there → (group : ℕ) → AreAlike (Holds (Says (lent_searches F) group name)) (Passes F.default (IsGrouped F there) there) R.texts F.texts
      texts_say_without holds group =
          alike_without _ _ _ (has_leaf is_group) R.texts F.texts (said_without grouped group (IsGrouped F there) (DefaultHolds F.default there) binary_2 (λ _. holds, λ _. default_2)) none (ready_alike grouped (lent_searches F) group name at_2 F.texts R.texts texts_are (subst (λ k. HasAt (lent_searches F) k (all_searches F.texts)) (sym same_2) stand_rest.1))

      default_of : Holds (Says (lent_searches F) 0 name) T.default ↔ DefaultHolds F.default there
      default_of = subst (λ d. Holds (Says (lent_searches F) 0 name) d ↔ DefaultHolds F.default there) (sym default_same) default_says

      answers_without : (answer : Bool) → (IsTrue answer ↔ AllSay (lent_searches F) T name) → IsTrue answer ↔ AllHold F there
      answers_without true h = (
        λ e.
            let w = h.0 e in
            let holds = default_of.0 w.0 in
            (holds, some_alike _ _ R.texts F.texts (texts_say_without holds w.1.0) (subst (λ ts. (q : Formula Question) × Contains ts q × Holds (Says (lent_searches F) w.1.0 name) q) texts_same w.1.2)),
        λ _. refl,
      )
      answers_without false h = (
        λ e. absurd (true≢false (sym e)),
        λ w.
            let first : IsFirst (Holds (Says (lent_searches F) 0 name)) T.groups 0 = subst (λ gs. IsFirst (Holds (Says (lent_searches F) 0 name)) gs 0) (sym no_groups) refl in
            let some = some_alike _ _ F.texts R.texts (turned _ _ R.texts F.texts (texts_say_without w.0 0)) w.1 in
            absurd (true≢false (sym (h.1 (default_of.1 w.0, (0, first, subst (λ ts. (q : Formula Question) × Contains ts q × Holds (Says (lent_searches F) 0 name) q) (sym texts_same) some))))),
      )

    -- the same of what is ready with the filters of the groups, or without them where no text names a group
    pub answers_either : (T : ReadyView) → T.default ≡ R.default → T.texts ≡ R.texts → (T.groups ≡ R.groups) ⊎ ((T.groups ≡ []) × (list_any (has_leaf is_group) F.texts ≡ false)) → (answer : Bool) → (IsTrue answer ↔ AllSay (lent_searches F) T name) → IsTrue answer ↔ AllHold F there
    answers_either T default_same texts_same (inl groups_same) answer says =
        let whole : T ≡ R = λ i. record { default = default_same i; groups = groups_same i; texts = texts_same i } in
        answers_alike answer (subst (λ V. IsTrue answer ↔ AllSay (lent_searches F) V name) whole says)
    answers_either T default_same texts_same (inr left) answer says = answers_without T default_same texts_same left.0 left.1 answer says
