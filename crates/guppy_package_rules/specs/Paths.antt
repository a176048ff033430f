-- The components of paths, and paths compared by them.
use Rattle.std.specs.Prelude.{ℕ, ◌==◌, Bool, not, ◌||◌, List, ◌∷◌, length, filter, codes, slice_index_or, if◌then◌else◌}
use Rattle.std.specs.Cmp.{IsTotalOrder, bool_cmp_total, on_total, then_total}
use Rattle.std.specs.Cmp.Lexicographic.{slice_cmp, nat_list_cmp_total}
use Rattle.std.specs.List.{slice_split}
use Rattle.std.specs.Ordering.{bool_cmp, ordering_then}
use Rattle.std.specs.Str.{bytes_eq}
use Rattle.std.specs.declared.cmp.Ordering.{Ordering}
use Rattle.std.proofs.lemmas.Cmp.{lists_total}
use Rattle.list_facts.specs.Ascending.{text_cmp}
use Rattle.workspace_record.specs.Records.{Text}

-- `/`
abbrev pub is_slash : ℕ → Bool
is_slash byte = byte == 47

-- the path does not begin with a `/`
abbrev pub is_relative : Text → Bool
is_relative path = not (is_slash (slice_index_or path 0 0))

-- what stands between two slashes is a part, unless it is empty or `.`
abbrev pub is_part : Text → Bool
is_part text = not (length text == 0 || bytes_eq text (codes "."))

-- the parts of a path, which is split at each `/`
abbrev pub parts : Text → List Text
parts path = filter is_part (slice_split is_slash path)

-- the text before others, where it is a part
abbrev pub with_part : Text → List Text → List Text
with_part text texts = if is_part text then text ∷ texts else texts

-- whether the path is relative, and its parts
abbrev pub components : Text → Bool × List Text
components path = (is_relative path, parts path)

-- paths component by component: those that begin with a `/` first, and then by their parts, each byte by byte
abbrev pub path_cmp : Text → Text → Ordering
path_cmp a b = ordering_then (bool_cmp (is_relative a) (is_relative b)) (slice_cmp text_cmp (parts a) (parts b))

pub path_cmp_total : IsTotalOrder path_cmp
path_cmp_total = then_total (on_total is_relative bool_cmp_total) (on_total parts (lists_total nat_list_cmp_total))
