use Rattle.workspace_record.specs.Entries.{EntryValue, OwnFeature, Dependency, Strong, Weak}
use Rattle.workspace_record.specs.declared.entry.Entry.{Entry}
use Rattle.workspace_record.specs.declared.entry.Entry.TheVariants as code

-- what contracts see of an entry
abbrev pub entry_view : Entry → EntryValue
entry_view (code.OwnFeature name) = OwnFeature name.now
entry_view (code.Dependency name) = Dependency name.now
entry_view (code.Strong name feature) = Strong name.now feature.now
entry_view (code.Weak name feature) = Weak name.now feature.now
