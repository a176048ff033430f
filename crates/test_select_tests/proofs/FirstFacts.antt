-- The first of several filters that holds.
use Rattle.std.proofs.Common.{◌≤◌, arith, ℕ, List, length, Contains}
use Rattle.nextest_filter_evaluation.specs.Questions.{IsFirst}
use Rattle.nextest_filter_evaluation.proofs.QuestionFacts.{first_some}

-- where the first place is behind all, none holds
pub none_holds : {F : Type 0} (holds : F → Type 0) (fs : List F) (place : ℕ) → IsFirst holds fs place → length fs ≤ place → (f : F) → Contains fs f → holds f → ⊥
none_holds holds fs place is behind f among h =
    let within = (first_some holds fs place is).1 (f, among, h) in omega (arith, within, behind)
