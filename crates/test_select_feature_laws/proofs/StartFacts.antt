-- Where a line starts, and for what a weak entry waits.
use Rattle.std.proofs.Common.{◌≡◌, Bool, true, false, cond, List, [], length, Contains, Some, refl, ap, ◌∙◌}
use Rattle.std.specs.Option.{option_map_or}
use Rattle.std.proofs.lemmas.Option.{slice_get-get_or}
use Rattle.workspace_record.specs.Records.{Text, Line, Link}
use Rattle.workspace_record.specs.Features.{FeatureValue}
use Rattle.guppy_feature_demands.specs.Demands.{line_start}
use Rattle.guppy_feature_demands.specs.Nodes.{base_of, dep_of, number_of}
use Rattle.guppy_feature_nodes.specs.GraphEdges.{waits_for}
use Rattle.guppy_feature_nodes.proofs.DistinctFacts.{at_number, number_known}

-- a line starts in the source of its link
pub start_id : (link : Link) (line : Line) → (line_start link line).package_id ≡ link.from
start_id link line = by line.optional
  where
    by : (b : Bool) → (cond b (dep_of link.from link.name) (base_of link.from)).package_id ≡ link.from
    by true = refl
    by false = refl

-- a weak entry waits for the node of its dependency
pub waits_at : (nodes : List FeatureValue) (f : FeatureValue) → Contains nodes f → (name : Text) → waits_for nodes (number_of nodes f) name ≡ number_of nodes (dep_of f.package_id name)
waits_at nodes f h name =
    let known = number_known nodes f h in
    ap (λ o. option_map_or (λ (x : FeatureValue). number_of nodes (dep_of x.package_id name)) o (length nodes)) (slice_get-get_or nodes (number_of nodes f) (base_of []) known ∙ ap Some (at_number nodes f known))
