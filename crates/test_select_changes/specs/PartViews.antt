-- Lists of parts that are lent from paths.
use Rattle.std.specs.Prelude.{List, Option, Vec, map, option_map}
use Rattle.std.specs.Borrow.{Bor}
use Rattle.std.specs.Global.{Global}
use Rattle.std.specs.Cmp.Lexicographic.{slice_cmp}
use Rattle.std.specs.declared.cmp.Ordering.{Ordering}
use Rattle.list_facts.specs.Ascending.{text_cmp}
use Rattle.workspace_record.specs.Records.{Text}

-- the parts themselves
abbrev pub lent_parts : List (Bor Text) → List Text
lent_parts lent = map (λ part. part.now) lent

-- the same of a list that may be there
abbrev pub found_parts : Option (Vec (Bor Text) Global) → Option (List Text)
found_parts found = option_map (λ lent. lent_parts lent.items) found

-- part by part, each byte by byte; a list before each longer one that begins with it
abbrev pub parts_cmp : List Text → List Text → Ordering
parts_cmp = slice_cmp text_cmp
