-- What is said of a state is said of what is seen of it.
use Rattle.std.proofs.Common.{◌≡◌, ℕ, List, Option, None, Some, IfNone, subst}
use Rattle.numbered_graph.specs.declared.direction.Direction.{Direction}
use Rattle.numbered_offers.specs.declared.edge.Edge.{Edge}
use Rattle.numbered_offers.specs.Runs.{Run}

pub carry : (P : Direction → List Edge → List ℕ → Run → Type 0) (d e : Direction) (xs ys : List Edge) (starts others : List ℕ) (run more : Run) → d ≡ e → xs ≡ ys → starts ≡ others → run ≡ more → P d xs starts run → P e ys others more
carry P d e xs ys starts others run more a b c f h = subst (λ x. P e ys others x) f (subst (λ x. P e ys x run) c (subst (λ x. P e x starts run) b (subst (λ x. P x xs starts run) a h)))

-- two things that hold where there is nothing
pub none_then : {X A B C : Type 0} (r : Option X) → IfNone r A → IfNone r B → (A → B → C) → IfNone r C
none_then None a b f = f a b
none_then (Some x) a b f = tt
