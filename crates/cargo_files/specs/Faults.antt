-- The faults of words.
use Rattle.std.specs.Prelude.{◌≡◌, string_bytes}
use Rattle.workspace_record.specs.Records.{Text}
use Rattle.cargo_files.specs.declared.choice_fault.ChoiceFault.{ChoiceFault}
use Rattle.cargo_files.specs.declared.choice_fault.ChoiceFault.TheVariants.{NoFeature, NoMember}

-- the fault is that of a missing feature, and names the word
abbrev pub MissesFeature : Text → ChoiceFault → Type 0
MissesFeature word (NoFeature named near) = string_bytes named ≡ word
MissesFeature word _ = ⊥

-- the fault is that of a missing member, and names the word
abbrev pub MissesMember : Text → ChoiceFault → Type 0
MissesMember word (NoMember named near) = string_bytes named ≡ word
MissesMember word _ = ⊥
