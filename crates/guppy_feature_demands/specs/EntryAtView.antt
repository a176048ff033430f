use Rattle.guppy_feature_demands.specs.EntriesAt.{EntryPlace}
use Rattle.workspace_record.specs.EntryView.{entry_view}
use Rattle.guppy_feature_demands.specs.declared.entries.EntryAt.{EntryAt}

-- what contracts see of an entry where it stands
abbrev pub entry_at_view : EntryAt → EntryPlace
entry_at_view at = record { package_id = at.id.text.now; feature = at.feature.now; entry = entry_view at.entry }
