-- Editions of Rust.
use Rattle.std.specs.Prelude.{codes}
use Rattle.workspace_record.specs.Records.{Text}

-- the edition of a package or target that names none
abbrev pub default_edition : Text
default_edition = codes "2021"
