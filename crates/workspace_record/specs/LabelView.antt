use Rattle.std.specs.Prelude.{string_bytes}
use Rattle.workspace_record.specs.Features.{LabelValue, Base, Named, Dep}
use Rattle.workspace_record.specs.declared.label.Label.{Label}
use Rattle.workspace_record.specs.declared.label.Label.TheVariants as code

-- what contracts see of a label
abbrev pub label_view : Label → LabelValue
label_view code.Base = Base
label_view (code.Named name) = Named (string_bytes name)
label_view (code.Dep name) = Dep (string_bytes name)
