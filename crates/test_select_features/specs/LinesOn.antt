-- The links of a package graph with just their lines that are on.
use Rattle.std.specs.Prelude.{Bool, ◌&&◌, List, [], ◌∷◌, None, filter, map, if◌then◌else◌}
use Rattle.std.specs.List.{list_any}
use Rattle.workspace_record.specs.Records.{Line, Link, Workspace}
use Rattle.workspace_record.specs.Features.{FeatureValue}
use Rattle.workspace_record.specs.declared.choice.PlatformTable.{PlatformTable}
use Rattle.feature_account.specs.Accounts.{concluded_set}
use Rattle.feature_account_rules.specs.Lines.{counts_for, is_in_force, is_workspace_package}
use Rattle.feature_account_rules.specs.RuleList.{line_start}
use Rattle.guppy_package_table.specs.Tables.{TableValue}

-- the rows of a graph as a record, without groups
abbrev pub rows_of : TableValue → Workspace
rows_of g = record { packages = g.packages; links = g.links; workspace = g.workspace; groups = []; default_filter = None }

-- a line is on, where its link's source is a workspace package or not: it counts, and its start is among the features
abbrev pub line_is_on : Bool → List FeatureValue → PlatformTable → Link → Line → Bool
line_is_on in_workspace on table link line = (counts_for in_workspace line.kind && is_in_force table line.spec) && concluded_set on (line_start link line)

-- of a link that is on, the link with just its lines that are; of another nothing
abbrev pub link_on : Bool → List FeatureValue → PlatformTable → Link → List Link
link_on in_workspace on table link =
    if list_any (line_is_on in_workspace on table link) link.lines then record link { lines = filter (line_is_on in_workspace on table link) link.lines } ∷ [] else []

-- a line is on by the graph
abbrev pub is_line_on : TableValue → List FeatureValue → PlatformTable → Link → Line → Bool
is_line_on g on table link line = line_is_on (is_workspace_package (rows_of g) link.from) on table link line

-- a link is on where one of its lines is (from Cargo's reference, "Features")
abbrev pub is_link_on : TableValue → List FeatureValue → PlatformTable → Link → Bool
is_link_on g on table link = list_any (is_line_on g on table link) link.lines

-- the link with just its lines that are on (from Cargo's reference, "Features")
abbrev pub with_lines_on : TableValue → List FeatureValue → PlatformTable → Link → Link
with_lines_on g on table link = record link { lines = filter (is_line_on g on table link) link.lines }

-- of a link of the graph that is on, the link with just its lines that are; of another nothing
abbrev pub link_on_of : TableValue → List FeatureValue → PlatformTable → Link → List Link
link_on_of g on table link = link_on (is_workspace_package (rows_of g) link.from) on table link

-- the links that are on, each with just its lines that are (from Cargo's reference, "Features")
abbrev pub links_on : TableValue → List FeatureValue → PlatformTable → List Link
links_on g on table = map (with_lines_on g on table) (filter (is_link_on g on table) g.links)
