-- A filter that is made ready says the same.
use Rattle.std.proofs.Common.{◌≡◌, ◌↔◌, ◌+◌, ◌<◌, ℕ, zero, suc, inl, inr, refl, sym, ap, subst, arith, Bool, true, IsTrue, List, [], ◌∷◌, ◌++◌, length, map, append_assoc, Some, None, slice_get, true≢false}
use Rattle.std.specs.Prelude.{is_some, unwrap_or, slice_index_or, take}
use Rattle.std.proofs.lemmas.List.{length_push, map_more}
use Rattle.regex.specs.Patterns.{Re}
use Rattle.workspace_record.specs.Records.{Text}
use Rattle.nextest_filter_evaluation.specs.NameTests.{NameTest, Suits}
use Rattle.nextest_filter_evaluation.specs.Compiled.{Leaf}
use Rattle.nextest_filter_evaluation.specs.Formulas.{Formula, negation, either, both}
use Rattle.nextest_filter_evaluation.specs.Searches.{HasAt, searches}
use Rattle.nextest_filter_evaluation.specs.Ready.{AreSuited, IsReady, IsSuited, Question, SayAlike, ready_of, turned_over}
use Rattle.nextest_filter_evaluation.specs.declared.ready_expr.ReadyExpr.{ReadyExpr, Known, Not', Union', Intersection', Equal, Contains, Glob as OfGlob, Pattern, Groups}
use Rattle.nextest_filter_evaluation.specs.declared.ready_context.ReadyContext.{ReadyContext}

pub iff_trans : {A B C : Type 0} → A ↔ B → B ↔ C → A ↔ C
iff_trans f g = (λ a. g.0 (f.0 a), λ c. f.1 (g.1 c))

pub some_same : {X : Type 0} {x y : X} → Some x ≡ Some y → x ≡ y
some_same {X} {x} {y} e = ap (λ o. unwrap_or o x) e

pub no_some : {X : Type 0} {x : X} → None ≡ Some x → ⊥
no_some {X} {x} e = true≢false (sym (ap is_some e))

pub has_parts : (all : List Re) (at : ℕ) (xs ys : List Re) → HasAt all at (xs ++ ys) → HasAt all at xs × HasAt all (at + length xs) ys
has_parts all at [] ys h = (tt, subst (λ k. HasAt all k ys) (omega arith) h)
has_parts all at (x ∷ xs) ys h =
    let w = has_parts all (at + 1) xs ys h.1 in
    ((h.0, w.0), subst (λ k. HasAt all k ys) (omega arith) w.1)

at_behind : (front : List Re) (x : Re) (more : List Re) → slice_get (front ++ x ∷ more) (length front) ≡ Some x
at_behind [] x more = refl
at_behind (y ∷ front) x more = at_behind front x more

has_behind : (front more : List Re) (n : ℕ) → n ≡ length front → HasAt (front ++ more) n more
has_behind front [] n e = tt
has_behind front (x ∷ more) n e = (
  subst (λ k. slice_get (front ++ x ∷ more) k ≡ Some x) (sym e) (at_behind front x more),
  subst (λ all. HasAt all (n + 1) more) (append_assoc front (x ∷ []) more) (has_behind (front ++ x ∷ []) more (n + 1) (omega (arith, e, length_push front x))),
)

pub has_whole : (all xs : List Re) → all ≡ xs → HasAt all 0 xs
has_whole all xs e = subst (λ ys. HasAt all 0 ys) e (has_behind [] all 0 refl)

-- parts that say alike make wholes that do
alike_over : (above : ReadyExpr) (f g : Formula Question) → SayAlike f g → SayAlike (turned_over above f) (turned_over above g)
alike_over (Not' p x) f g fg =
    alike_over x (negation f) (negation g) (λ patterns group name. let h = fg patterns group name in (λ n a. n (h.1 a), λ n a. n (h.0 a)))
alike_over (Union' p x q y) f g fg =
    alike_over x (either f (ready_of y)) (either g (ready_of y)) (λ patterns group name.
    let h = fg patterns group name in
    (λ s. elim s [ inl a ↦ inl (h.0 a) | inr b ↦ inr b ], λ s. elim s [ inl a ↦ inl (h.1 a) | inr b ↦ inr b ]))
alike_over (Intersection' p x q y) f g fg =
    alike_over x (both f (ready_of y)) (both g (ready_of y)) (λ patterns group name. let h = fg patterns group name in (λ s. (h.0 s.0, s.1), λ s. (h.1 s.0, s.1)))
alike_over (Known value) f g fg = fg
alike_over (Equal text) f g fg = fg
alike_over (Contains text) f g fg = fg
alike_over (OfGlob glob) f g fg = fg
alike_over (Pattern place) f g fg = fg
alike_over (Groups flags) f g fg = fg

-- a part that says alike may stand for another
pub turned_step : (above : ReadyExpr) (built part whole : Formula Question) → SayAlike built part → SayAlike (turned_over above part) whole → SayAlike (turned_over above built) whole
turned_step above built part whole alike is patterns group name =
    iff_trans (alike_over above built part alike patterns group name) (is patterns group name)

pub alike_self : (f : Formula Question) → SayAlike f f
alike_self f patterns group name = (λ h. h, λ h. h)

module _ (cx : ReadyContext) where
  pub ready_alike : (stand : List Re → Type 0) (f : Formula Leaf) (x r : Formula Question) → IsReady cx stand f x → SayAlike r x → IsReady cx stand f r
  ready_alike stand f x r is alike patterns group name stands =
      iff_trans (alike patterns group name) (is patterns group name stands)

  pub ready_not : (stand : List Re → Type 0) (f : Formula Leaf) (x r : Formula Question) → IsReady cx stand f x → SayAlike r (negation x) → IsReady cx stand (negation f) r
  ready_not stand f x r is alike patterns group name stands =
      let h = is patterns group name stands in
      iff_trans (alike patterns group name) (λ n a. n (h.1 a), λ n a. n (h.0 a))

  module _ (at next : ℕ) (xs ys : List Re) (same : next ≡ at + length xs) (a b : Formula Leaf) (x y r : Formula Question) (first : IsReady cx (λ all. HasAt all at xs) a x) (second : IsReady cx (λ all. HasAt all next ys) b y) where
    pub ready_either : SayAlike r (either x y) → IsReady cx (λ all. HasAt all at (xs ++ ys)) (either a b) r
    ready_either alike patterns group name stands =
        let w = has_parts patterns at xs ys stands in
        let h = first patterns group name w.0 in
        let k = second patterns group name (subst (λ n. HasAt patterns n ys) (sym same) w.1) in
        iff_trans (alike patterns group name) (
          λ s. elim s [ inl p ↦ inl (h.0 p) | inr q ↦ inr (k.0 q) ],
          λ s. elim s [ inl p ↦ inl (h.1 p) | inr q ↦ inr (k.1 q) ],
        )

    pub ready_both : SayAlike r (both x y) → IsReady cx (λ all. HasAt all at (xs ++ ys)) (both a b) r
    ready_both alike patterns group name stands =
        let w = has_parts patterns at xs ys stands in
        let h = first patterns group name w.0 in
        let k = second patterns group name (subst (λ n. HasAt patterns n ys) (sym same) w.1) in
        iff_trans (alike patterns group name) (λ s. (h.0 s.0, k.0 s.1), λ s. (h.1 s.0, k.1 s.1))

  -- where the searchers end tells where they begin
  pub ready_from : (f : Formula Leaf) (r : Formula Question) (at start end : ℕ) → start + length (searches f) ≡ end → end ≡ at + length (searches f) → IsReady cx (λ all. HasAt all start (searches f)) f r → IsReady cx (λ all. HasAt all at (searches f)) f r
  ready_from f r at start end ends is ready = subst (λ k. IsReady cx (λ all. HasAt all k (searches f)) f r) (omega (arith, ends, is)) ready

-- the flag of a group is that of its name
pub flag_suits : (test : NameTest) (names : List Text) (flags : List Bool) (group : ℕ) → AreSuited test names flags → (slice_get flags group ≡ Some true) ↔ IsSuited names group test
flag_suits test [] [] group h = (λ e. absurd (no_some e), λ w. absurd (no_some w.1))
flag_suits test [] (flag ∷ flags) group h = absurd h
flag_suits test (name ∷ names) [] group h = absurd h
flag_suits test (name ∷ names) (flag ∷ flags) zero h = (
  λ e. (name, refl, h.0.0 (some_same e)),
  λ w. ap Some (h.0.1 (subst (Suits test) (sym (some_same w.1)) w.2)),
)
flag_suits test (name ∷ names) (flag ∷ flags) (suc group) h = flag_suits test names flags group h.1

pub suited_more : (test : NameTest) (names : List Text) (flags : List Bool) (name : Text) (flag : Bool) → AreSuited test names flags → (IsTrue flag ↔ Suits test name) → AreSuited test (names ++ name ∷ []) (flags ++ flag ∷ [])
suited_more test [] [] name flag h s = (s, tt)
suited_more test [] (f ∷ flags) name flag h s = absurd h
suited_more test (n ∷ names) [] name flag h s = absurd h
suited_more test (n ∷ names) (f ∷ flags) name flag h s = (h.0, suited_more test names flags name flag h.1 s)

pub suited_next : {X : Type 0} (f : X → Text) (test : NameTest) (names : List X) (flags more : List Bool) (i : ℕ) (flag : Bool) (d : X) → i < length names → AreSuited test (map f (take i names)) flags → (IsTrue flag ↔ Suits test (f (slice_index_or names i d))) → more ≡ flags ++ flag ∷ [] → AreSuited test (map f (take (i + 1) names)) more
suited_next f test names flags more i flag d lt h s e =
    let all = suited_more test (map f (take i names)) flags (f (slice_index_or names i d)) flag h s in
    subst (λ fs. AreSuited test (map f (take (i + 1) names)) fs) (sym e) (subst (λ ns. AreSuited test ns (flags ++ flag ∷ [])) (sym (map_more f names i d lt)) all)
