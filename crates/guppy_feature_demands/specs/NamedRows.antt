use Rattle.std.specs.Prelude.{◌≡◌, true}
use Rattle.std.specs.Ordering.{on}
use Rattle.std.specs.Cmp.{IsEquivalence}
use Rattle.std.specs.Hash as fed
use Rattle.std.proofs.Common.{ap}
use Rattle.workspace_record.specs.Equality.{equivalence, texts_decide}
use Rattle.workspace_record.specs.Records.{FeatureEntry}
use Rattle.guppy_feature_demands.specs.Demands.{same_name}
use Rattle.guppy_feature_demands.specs.Equivalences.{on_equivalence}
use Rattle.guppy_feature_demands.specs.declared.named_entries.NamedRow.{NamedRow}

-- what contracts see of a feature's row that is told by its name
abbrev pub named_view : NamedRow → FeatureEntry
named_view r = r.row.now

pub same_name_equivalence : IsEquivalence same_name
same_name_equivalence = on_equivalence (λ (f : FeatureEntry). f.name) (equivalence texts_decide)

pub named_rows_equivalence : IsEquivalence (on named_view same_name)
named_rows_equivalence = on_equivalence named_view same_name_equivalence

pub same_name_writes : (a b : NamedRow) → same_name (named_view a) (named_view b) ≡ true → fed.str (named_view a).name ≡ fed.str (named_view b).name
same_name_writes a b h = ap fed.str ((texts_decide (named_view a).name (named_view b).name).0 h)
