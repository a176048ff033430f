use Rattle.feature_account_rules.specs.declared.rule.Premises.{Premises}
use Rattle.feature_account_rules.specs.declared.rule.Premises.TheVariants.{None, One, Two}
use Rattle.feature_account_rules.specs.declared.lent_rule.LentPremises.{LentPremises}
use Rattle.feature_account_rules.specs.declared.lent_rule.LentPremises.TheVariants as code

-- what contracts see of lent premises
abbrev pub lent_premises_view : LentPremises → Premises
lent_premises_view code.None = None
lent_premises_view (code.One f) = One f
lent_premises_view (code.Two f g) = Two f g
