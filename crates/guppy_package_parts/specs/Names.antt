-- Names in ascending order, each once.
use Rattle.std.specs.Prelude.{Bool, true, List, [], ◌∷◌, ◌++◌, filter, Option, None, Some, if◌then◌else◌}
use Rattle.std.specs.BTreeSet.{insert_key}
use Rattle.std.specs.List.{flat_map}
use Rattle.std.specs.Ordering.{is_lt}
use Rattle.list_facts.specs.Ascending.{text_cmp}
use Rattle.workspace_record.specs.Records.{Text, Line}
use Rattle.guppy_package_parts.specs.Lines.{is_optional, is_required}

-- the names put one by one among others that ascend, where they are not there yet
abbrev pub put_among : List Text → List Text → List Text
put_among sorted [] = sorted
put_among sorted (name ∷ names) = put_among (insert_key text_cmp sorted name) names

-- the names in ascending order, each once (from guppy's `features`)
abbrev pub each_once : List Text → List Text
each_once names = put_among [] names

-- the features that lines list
abbrev pub listed : List Line → List Text
listed lines = flat_map (λ line. line.features) lines

-- the features that required lines list, and then those that optional ones do, each half in ascending order and each name once in it
-- (from guppy's `features`)
abbrev pub features_of : List Line → List Text
features_of lines = each_once (listed (filter is_required lines)) ++ each_once (listed (filter is_optional lines))

-- the name comes after the last one, if there is one
abbrev pub is_above : Option Text → Text → Bool
is_above None name = true
is_above (Some last) name = is_lt (text_cmp last name)

-- the lesser one
abbrev pub lower : Option Text → Text → Option Text
lower None name = Some name
lower (Some least) name = if is_lt (text_cmp name least) then Some name else Some least

-- the lesser one of those above the last one
abbrev pub lower_above : Option Text → Option Text → Text → Option Text
lower_above last least name = if is_above last name then lower least name else least

-- the lowest one of all
abbrev pub lowest_from : Option Text → List Text → Option Text
lowest_from least [] = least
lowest_from least (name ∷ names) = lowest_from (lower least name) names
