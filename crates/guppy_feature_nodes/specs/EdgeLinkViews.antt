use Rattle.std.specs.Prelude.{◌≡◌, ◌==◌, ℕ, List, length, if◌then◌else◌}
use Rattle.workspace_record.specs.Records.{Link}
use Rattle.guppy_feature_demands.specs.declared.link_declarations.LinkDeclarations.{LinkDeclarations}
use Rattle.guppy_feature_demands.specs.declared.link_declarations.LinkDeclarations.TheVariants.{Unsplit, Required, Optional}
use Rattle.guppy_feature_nodes.specs.Lines.{links_shown}
use Rattle.guppy_feature_nodes.specs.declared.edge_links.EdgeLinks.{EdgeLinks}

-- the links of all lines: those of one half, where the other has none
abbrev pub joined : List ℕ → List ℕ → List ℕ → List ℕ
joined required optional both = if length optional == 0 then required else (if length required == 0 then optional else both)

-- the links of the lines that declare what is shown
abbrev pub shown_of : EdgeLinks → LinkDeclarations → List ℕ
shown_of links Unsplit = joined links.required.items links.optional.items links.unsplit.items
shown_of links Required = links.required.items
shown_of links Optional = links.optional.items

-- of these lines the links of those that declare what is shown are kept
pub record AreEdgeLinks (links : List Link) (places : List (ℕ × ℕ)) (kept : EdgeLinks) : Type 0 where
  pub each : (shown : LinkDeclarations) → shown_of kept shown ≡ links_shown links shown places
