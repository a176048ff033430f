-- Names of rows that were seen.
use Rattle.workspace_record.specs.Features.{LabelValue, Base, Named, Dep}
use Rattle.nextest_filtering.specs.SameFilters.{AreBytes}

-- the name, where the label has that of a feature, is made of bytes
abbrev pub IsByteLabel : LabelValue → Type 0
IsByteLabel Base = Unit {0}
IsByteLabel (Named name) = AreBytes name
IsByteLabel (Dep name) = Unit {0}
