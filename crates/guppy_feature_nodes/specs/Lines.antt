-- The lines behind an edge, by what they declare.
use Rattle.std.specs.Prelude.{ℕ, Bool, false, ◌&&◌, nat_eq, List, map, filter, if◌then◌else◌}
use Rattle.std.specs.List.{list_any}
use Rattle.std.specs.Option.{option_map_or}
use Rattle.workspace_record.specs.Records.{Line, Link}
use Rattle.workspace_record.specs.declared.kinds.LineKind.{LineKind}
use Rattle.guppy_package_parts.specs.Lines.{is_kind, line_at}
use Rattle.guppy_feature_demands.specs.Kinds.{has_optional, has_required}
use Rattle.guppy_feature_demands.specs.declared.link_declarations.LinkDeclarations.{LinkDeclarations}
use Rattle.guppy_feature_demands.specs.Nodes.{first_of_each}

-- the line is among those that declare what is shown of an edge (from guppy's `LinkDeclarations`)
abbrev pub declares : LinkDeclarations → Line → Bool
declares shown line = if line.optional then has_optional shown else has_required shown

-- the same of a line that is named by its link and its place in it
abbrev pub declares_at : List Link → LinkDeclarations → ℕ × ℕ → Bool
declares_at links shown place = option_map_or (declares shown) (line_at links place) false

-- it is of the kind too
abbrev pub declares_kind_at : List Link → LinkDeclarations → LineKind → ℕ × ℕ → Bool
declares_kind_at links shown kind place = option_map_or (λ line. is_kind kind line && declares shown line) (line_at links place) false

-- some of these lines declares what is shown (from guppy's `LinkDeclarations`)
abbrev pub is_declared : List Link → LinkDeclarations → List (ℕ × ℕ) → Bool
is_declared links shown places = list_any (declares_at links shown) places

-- those of these lines that are of a kind and declare what is shown (from guppy's `LinkDeclarations`)
abbrev pub lines_shown : List Link → LinkDeclarations → LineKind → List (ℕ × ℕ) → List (ℕ × ℕ)
lines_shown links shown kind places = filter (declares_kind_at links shown kind) places

-- the links of those that declare what is shown, each once (from guppy's `LinkDeclarations`)
abbrev pub links_shown : List Link → LinkDeclarations → List (ℕ × ℕ) → List ℕ
links_shown links shown places = first_of_each nat_eq (map (λ place. place.0) (filter (declares_at links shown) places))
