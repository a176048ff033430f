-- Nodes by which they are kept: the place of the package, and the label.
use Rattle.std.specs.Prelude.{◌≡◌, ℕ, Bool, true, List, ◌++◌, nat_eq}
use Rattle.std.specs.Ordering.{on}
use Rattle.std.specs.Cmp.{IsEquivalence, unsigned_Decides}
use Rattle.std.specs.Hash as fed
use Rattle.std.proofs.Common.{ap, refl}
use Rattle.workspace_record.specs.Equality.{DecidesEquality, decide_by, equivalence, pair_eq, pairs_decide}
use Rattle.workspace_record.specs.Features.{FeatureValue, LabelValue, label_eq, label_writes, labels_decide}
use Rattle.workspace_record.specs.Records.{Text}
use Rattle.guppy_feature_demands.specs.LabelViews.{label_view}
use Rattle.guppy_package_table.specs.Tables.{place_among}
use Rattle.guppy_feature_nodes.specs.declared.node_names.LentNode.{LentNode}

-- a label of the package at a place
pub record NodeValue : Type 0 where
  pub place : ℕ
  pub label : LabelValue

-- a feature, whose package is found among ids
abbrev pub node_of : List Text → FeatureValue → NodeValue
node_of ids f = record { place = place_among ids f.package_id; label = f.label }

-- two nodes are the same
abbrev pub node_eq : NodeValue → NodeValue → Bool
node_eq = on (λ n. (n.place, n.label)) (pair_eq nat_eq label_eq)

pub nodes_decide : DecidesEquality node_eq
nodes_decide = decide_by _ (λ p. record { place = p.0; label = p.1 }) (λ n. refl) (pairs_decide unsigned_Decides labels_decide)

-- what a node feeds a hasher
abbrev pub node_writes : NodeValue → fed.HashWrites
node_writes n = fed.usize n.place ++ label_writes n.label

pub same_node_writes : (a b : NodeValue) → node_eq a b ≡ true → node_writes a ≡ node_writes b
same_node_writes a b h = ap node_writes ((nodes_decide a b).0 h)

-- what contracts see of a node whose label is lent
abbrev pub lent_view : LentNode → NodeValue
lent_view n = record { place = n.place; label = label_view n.label }

pub lent_equivalence : IsEquivalence (on lent_view node_eq)
lent_equivalence =
    let here = equivalence nodes_decide in
    record {
      refl = λ x. here.refl (lent_view x);
      symm = λ x y. here.symm (lent_view x) (lent_view y);
      congr = λ x y z. here.congr (lent_view x) (lent_view y) (lent_view z);
    }
