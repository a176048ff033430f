use Rattle.workspace_record.specs.Features.{LabelValue, Base, Named, Dep}
use Rattle.feature_account_rules.specs.declared.feature_ref.LentLabel.{LentLabel}
use Rattle.feature_account_rules.specs.declared.feature_ref.LentLabel.TheVariants as code

-- what contracts see of a lent label
abbrev pub lent_label_view : LentLabel → LabelValue
lent_label_view code.Base = Base
lent_label_view (code.Named name) = Named name.now
lent_label_view (code.Dep name) = Dep name.now
