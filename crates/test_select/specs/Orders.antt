-- How the order in which the packages of a workspace build is printed.
use Rattle.std.specs.Prelude.{◌++◌, codes}
use Rattle.workspace_record.specs.Records.{Text}

-- an id and a line feed
abbrev pub order_line : Text → Text
order_line id = id ++ codes "\n"
