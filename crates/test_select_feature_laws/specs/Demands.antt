-- When a set of nodes is closed under what the rows of a feature graph demand. A demand leads always, or by a line.
use Rattle.std.specs.Prelude.{◌≡◌, ℕ, ◌<◌, Bool, true, false, length, List, Contains, Some, is_some}
use Rattle.workspace_record.specs.Records.{Line, Text}
use Rattle.workspace_record.specs.Features.{FeatureValue}
use Rattle.workspace_record.specs.declared.choice.PlatformTable.{PlatformTable}
use Rattle.feature_account_rules.specs.Lines.{counts_for, is_in_force}
use Rattle.guppy_package_parts.specs.Lines.{line_at}
use Rattle.guppy_package_table.specs.Tables.{member_of}
use Rattle.guppy_feature_demands.specs.Demands.{FormValue, FeatureToBase, NamedFeature, NamedFeatureDepColon, StrongSlash, WeakSlash, DependenciesSection, NumberedValue}
use Rattle.guppy_feature_nodes.specs.GraphEdges.{waits_for}
use Rattle.guppy_feature_nodes.specs.Graphs.{FeatureGraphValue, feature_at}

-- a demand of this form leads always
abbrev pub is_firm : FormValue → Bool
is_firm FeatureToBase = true
is_firm NamedFeature = true
is_firm NamedFeatureDepColon = true
is_firm (StrongSlash name) = false
is_firm (WeakSlash name) = false
is_firm DependenciesSection = false

-- a demand of this form leads by lines of whichever sort
abbrev pub is_lined : FormValue → Bool
is_lined FeatureToBase = false
is_lined NamedFeature = false
is_lined NamedFeatureDepColon = false
is_lined (StrongSlash name) = true
is_lined (WeakSlash name) = false
is_lined DependenciesSection = true

-- the line at a place counts, where it leads from a node (from Cargo's reference, "Features")
pub record CountsAt (table : PlatformTable) (g : FeatureGraphValue) (from : ℕ) (place : ℕ × ℕ) : Type 0 where
  pub line : Line
  pub at : line_at g.rows.links place ≡ Some line
  pub counts_by_kind : counts_for (is_some (member_of g.rows (feature_at g from).package_id)) line.kind ≡ true
  pub in_force : is_in_force table line.spec ≡ true

-- where the line is optional, the set holds the node for which a weak entry waits (from Cargo's reference, "Features")
abbrev pub Waits : FeatureGraphValue → List FeatureValue → (ℕ → Type 0) → ℕ → Text → Line → Type 0
Waits g nodes holds from name line = line.optional ≡ true → (waits_for nodes from name < length g.nodes) × holds (waits_for nodes from name)

-- the set goes on along each demand that leads always, and along the others by a line that counts, along a weak entry's
-- optional line only together with the dependency (from Cargo's reference, "Features")
pub record AreDemandsClosed (table : PlatformTable) (g : FeatureGraphValue) (ds : List NumberedValue) (nodes : List FeatureValue) (holds : ℕ → Type 0) : Type 0 where
  pub firm : (d : NumberedValue) → Contains ds d → is_firm d.form ≡ true → holds d.from → holds d.to
  pub lined : (d : NumberedValue) → Contains ds d → is_lined d.form ≡ true → (x : ℕ × ℕ) → d.line ≡ Some x → CountsAt table g d.from x → holds d.from → holds d.to
  pub weak : (d : NumberedValue) → Contains ds d → (name : Text) → d.form ≡ WeakSlash name → (x : ℕ × ℕ) → d.line ≡ Some x → (c : CountsAt table g d.from x) → Waits g nodes holds d.from name c.line → holds d.from → holds d.to
