-- Lines that are chosen by their kind, and by whether they are optional.
use Rattle.std.specs.Prelude.{Bool, ◌&&◌, if◌then◌else◌}
use Rattle.workspace_record.specs.Records.{Line}
use Rattle.guppy_package_parts.specs.Lines.{is_kind}
use Rattle.guppy_package_parts.specs.declared.lines.LineChoice.{LineChoice}

-- the line is of the kind, and of the half that is chosen, or of one of both
abbrev pub takes : LineChoice → Line → Bool
takes choice line = is_kind choice.kind line && (if line.optional then choice.optional else choice.required)
