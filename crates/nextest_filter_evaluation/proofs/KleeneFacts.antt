-- Values that may be unknown tell exactly which values are given.
use Rattle.std.proofs.Common.{◌≡◌, ◌↔◌, refl, sym, ap, subst, true≢false, Bool, true, false, ◌||◌, ◌&&◌, not, Option, Some, None, IsTrue}
use Rattle.nextest_filter_evaluation.specs.Kleene.{Tells, known_both, known_either, known_not, may_be}
use Rattle.nextest_filter_evaluation.specs.Meaning.{Gives}
use Rattle.nextest_filter_evaluation.proofs.FormulaFacts.{or_left, or_right}

-- a test that says whether something holds tells its value
pub tells_test : (P : Type 0) (b : Bool) → (IsTrue b ↔ P) → Tells (Some b) (Gives P)
tells_test P true h = (h.0 refl, λ out. out (h.0 refl))
tells_test P false h = (λ p. true≢false (sym (h.1 p)), λ p. true≢false (sym (h.1 p)))

pub tells_itself : (o : Option Bool) → Tells o (may_be o)
tells_itself (Some true) = (refl, λ e. true≢false e)
tells_itself (Some false) = (refl, λ e. true≢false (sym e))
tells_itself None = (tt, tt)

same_value : (G : Bool → Type 0) (v x : Bool) → G v → (G (not x) → ⊥) → v ≡ x
same_value G true true g n = refl
same_value G true false g n = absurd (n g)
same_value G false true g n = absurd (n g)
same_value G false false g n = refl

each_value : (G : Bool → Type 0) (x : Bool) → G true → G false → G x
each_value G true t f = t
each_value G false t f = f

-- so it may be exactly the values that are given
pub may_be_given : (o : Option Bool) (G : Bool → Type 0) → Tells o G → (v : Bool) → may_be o v ↔ G v
may_be_given (Some w) G h v = (λ e. subst G e h.0, λ g. sym (same_value G v w g h.1))
may_be_given None G h v = (λ _. each_value G v h.0 h.1, λ _. tt)

pub tells_alike : (o : Option Bool) (G H : Bool → Type 0) → ((v : Bool) → G v ↔ H v) → Tells o G → Tells o H
tells_alike (Some v) G H alike h = ((alike v).0 h.0, λ x. h.1 ((alike (not v)).1 x))
tells_alike None G H alike h = ((alike true).0 h.0, (alike false).0 h.1)

abbrev known : Bool → Option Bool → Bool
known d (Some v) = v
known d None = not d

-- a value is known exactly if the other is not given
pub known_iff : (o : Option Bool) (G : Bool → Type 0) → Tells o G → (v : Bool) → (o ≡ Some v) ↔ (G (not v) → ⊥)
known_iff (Some w) G h v = (λ e. subst (λ x. G (not x) → ⊥) (ap (known true) e) h.1, λ n. ap Some (same_value G w v h.0 n))
known_iff None G h true = (λ e. absurd (true≢false (sym (ap (known true) e))), λ n. absurd (n h.1))
known_iff None G h false = (λ e. absurd (true≢false (ap (known false) e)), λ n. absurd (n h.0))

-- what is known of a negation
pub tells_not : (o : Option Bool) (G : Bool → Type 0) → Tells o G → Tells (known_not o) (λ v. G (not v))
tells_not (Some true) G h = h
tells_not (Some false) G h = h
tells_not None G h = (h.1, h.0)

some_given : (o : Option Bool) (G : Bool → Type 0) → Tells o G → (v : Bool) × G v
some_given (Some v) G h = (v, h.0)
some_given None G h = (true, h.0)

no_or : (x y : Bool) → (x || y) ≡ true → (x ≡ true → ⊥) → (y ≡ true → ⊥) → ⊥
no_or true y e p q = p refl
no_or false y e p q = q e

no_and : (x y : Bool) → (x && y) ≡ false → (x ≡ false → ⊥) → (y ≡ false → ⊥) → ⊥
no_and false y e p q = p refl
no_and true y e p q = q e

and_first : (x y : Bool) → (x && y) ≡ true → x ≡ true
and_first true y e = refl
and_first false y e = e

and_last : (x y : Bool) → (x && y) ≡ true → y ≡ true
and_last true y e = e
and_last false y e = absurd (true≢false (sym e))

-- what is known of two of which one holds
pub tells_either : (a b : Option Bool) (G H : Bool → Type 0) → Tells a G → Tells b H → Tells (known_either a b) (λ v. (x : Bool) × (y : Bool) × G x × H y × ((x || y) ≡ v))
tells_either (Some true) b G H g h =
    let y = some_given b H h in
    ((true, y.0, g.0, y.1, refl), λ s. g.1 (subst G (or_left s.0 s.1 s.4) s.2))
tells_either (Some false) (Some true) G H g h =
    ((false, true, g.0, h.0, refl), λ s. h.1 (subst H (or_right s.0 s.1 s.4) s.3))
tells_either (Some false) (Some false) G H g h =
    ((false, false, g.0, h.0, refl), λ s. no_or s.0 s.1 s.4 (λ e. g.1 (subst G e s.2)) (λ e. h.1 (subst H e s.3)))
tells_either (Some false) None G H g h = ((false, true, g.0, h.0, refl), (false, false, g.0, h.1, refl))
tells_either None (Some true) G H g h =
    ((true, true, g.0, h.0, refl), λ s. h.1 (subst H (or_right s.0 s.1 s.4) s.3))
tells_either None (Some false) G H g h = ((true, false, g.0, h.0, refl), (false, false, g.1, h.0, refl))
tells_either None None G H g h = ((true, true, g.0, h.0, refl), (false, false, g.1, h.1, refl))

-- what is known of two that both hold
pub tells_both : (a b : Option Bool) (G H : Bool → Type 0) → Tells a G → Tells b H → Tells (known_both a b) (λ v. (x : Bool) × (y : Bool) × G x × H y × ((x && y) ≡ v))
tells_both (Some false) b G H g h =
    let y = some_given b H h in
    ((false, y.0, g.0, y.1, refl), λ s. g.1 (subst G (and_first s.0 s.1 s.4) s.2))
tells_both (Some true) (Some false) G H g h =
    ((true, false, g.0, h.0, refl), λ s. h.1 (subst H (and_last s.0 s.1 s.4) s.3))
tells_both (Some true) (Some true) G H g h =
    ((true, true, g.0, h.0, refl), λ s. no_and s.0 s.1 s.4 (λ e. g.1 (subst G e s.2)) (λ e. h.1 (subst H e s.3)))
tells_both (Some true) None G H g h = ((true, true, g.0, h.0, refl), (true, false, g.0, h.1, refl))
tells_both None (Some false) G H g h =
    ((false, false, g.1, h.0, refl), λ s. h.1 (subst H (and_last s.0 s.1 s.4) s.3))
tells_both None (Some true) G H g h = ((true, true, g.0, h.0, refl), (false, true, g.1, h.0, refl))
tells_both None None G H g h = ((true, true, g.0, h.0, refl), (false, false, g.1, h.1, refl))
