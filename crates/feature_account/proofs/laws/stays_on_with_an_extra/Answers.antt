use Rattle.std.proofs.Common.{◌∷◌, ◌++◌, refl, subst, ⊎_elim, Contains}
use Rattle.list_facts.proofs.Membership.{Contains-append_left, Contains-append_right, Contains-append_cases, Contains-rest}
use Rattle.feature_account.proofs.ClosedSets.{stays_on}
use Rattle.feature_account.proofs.laws.stays_on_with_an_extra.Goals as goal

pub returns : goal.returns
returns c = λ w choice table front back extra f e.
    stays_on w choice (record choice { extras = front ++ extra ∷ back }) table table refl (λ g h.
    ⊎_elim (Contains-append_left front (extra ∷ back) g) (λ b. Contains-append_right front (extra ∷ back) g (Contains-rest extra back g b)) (Contains-append_cases front back g (subst (λ xs. Contains xs g) e h))) (λ spec h. h) f
