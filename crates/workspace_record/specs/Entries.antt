-- What an entry of a feature's list says.
use Rattle.std.specs.Prelude.{ℕ, ◌-◌, ◌==◌, Bool, length, take, drop, nat_eq, codes, if◌then◌else◌}
use Rattle.std.specs.List.{list_any, starts_with, ends_with, before_first, after_first}
use Rattle.workspace_record.specs.Records.{Text}

pub data EntryValue : Type 0 where
  -- `name`: a feature of the same package
  OwnFeature : Text → EntryValue
  -- `dep:name`: an optional dependency
  Dependency : Text → EntryValue
  -- `name/feature`: a feature of a dependency, which is switched on with it
  Strong : Text → Text → EntryValue
  -- `name?/feature`: a feature of a dependency, where that is on
  Weak : Text → Text → EntryValue

-- the byte of `/`
abbrev pub is_slash : ℕ → Bool
is_slash byte = byte == 47

-- what stands before the first slash names the dependency, and a question mark at its end makes the entry weak
abbrev pub slash_entry : Text → Text → EntryValue
slash_entry name feature =
    if ends_with nat_eq name (codes "?") then Weak (take (length name - 1) name) feature else Strong name feature

-- how Cargo reads an entry (from Cargo's reference, "Features")
abbrev pub entry_value : Text → EntryValue
entry_value entry =
    if starts_with nat_eq entry (codes "dep:") then Dependency (drop 4 entry) else (if list_any is_slash entry then slash_entry (before_first is_slash entry) (after_first is_slash entry) else OwnFeature entry)
