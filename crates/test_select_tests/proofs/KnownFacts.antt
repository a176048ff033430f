-- Values that are known, or not.
use Rattle.std.proofs.Common.{◌≡◌, ◌∙◌, ◌↔◌, sym, true≢false, Bool, true, false, not, Option, Some, None, IsTrue}
use Rattle.std.specs.Option.{option_eq}
use mathlib.Core.Bool.{beq}
use Rattle.nextest_filter_evaluation.specs.Kleene.{Tells}

-- what is not known to be false may be true
pub known_may : (o : Option Bool) (gives : Bool → Type 0) (n : Bool) → Tells o gives → n ≡ not (option_eq beq o (Some false)) → IsTrue n ↔ gives true
known_may (Some true) gives n h e = (λ _. h.0, λ _. e)
known_may (Some false) gives n h e = (λ t. absurd (true≢false (sym t ∙ e)), λ g. absurd (h.1 g))
known_may None gives n h e = (λ _. h.0, λ _. e)
