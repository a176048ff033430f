-- The feature graph of a record.
use Rattle.std.specs.Prelude.{◌≡◌, ◌≢◌, true, List, All, AllPairs, Contains}
use Rattle.workspace_record.specs.Records.{Line, Link, Package, Workspace}
use Rattle.guppy_package_rules.specs.Kept.{AreKept}
use Rattle.guppy_feature_nodes.specs.Graphs.{FeatureGraphValue, IsFeatureGraph}

-- each optional line of the link has the link's name among the optional dependencies of its source
abbrev pub HasOptionalNames : List Package → Link → Type 0
HasOptionalNames packages link = (p : Package) → Contains packages p → p.id ≡ link.from → (line : Line) → Contains link.lines line → line.optional ≡ true → Contains p.optional link.name

-- no package names a feature or an optional dependency twice
pub record HasDistinctFeatures (p : Package) : Type 0 where
  pub features : AllPairs (λ f g. f.name ≢ g.name) p.features
  pub optional : AllPairs (λ a b. a ≢ b) p.optional

-- the graph is that of the record, which keeps the rules
pub record IsGraphOf (w : Workspace) (g : FeatureGraphValue) : Type 0 where
  pub kept : AreKept w.packages w.links w.workspace
  pub optional_names : All (HasOptionalNames w.packages) w.links
  pub distinct : All HasDistinctFeatures w.packages
  pub packages : g.rows.packages ≡ w.packages
  pub links : g.rows.links ≡ w.links
  pub workspace : g.rows.workspace ≡ w.workspace
  pub built : IsFeatureGraph g
