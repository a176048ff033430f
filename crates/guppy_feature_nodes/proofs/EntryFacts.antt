-- Groups with their keys, as contracts see them.
use Rattle.std.proofs.Common.{◌≡◌, map, Bool, true, false, cond, List, [], ◌∷◌, Option, Some, None, refl, ◌∙◌, ap}
use Rattle.std.specs.Map.{lookup}
use Rattle.std.specs.Option.{option_map, unwrap_or}
use Rattle.indexmap.specs.IndexMap.{insert_entry}
use Rattle.guppy_feature_nodes.specs.GroupViews.{entry_view, group_view}
use Rattle.guppy_feature_nodes.specs.Joining.{key_eq}
use Rattle.guppy_feature_nodes.specs.KeyViews.{key_view, same_key}
use Rattle.guppy_feature_nodes.specs.declared.edge_key.EdgeKey.{EdgeKey}
use Rattle.guppy_feature_nodes.specs.declared.groups.Group.{Group}

map-cond : {X Y : Type 0} (f : X → Y) (b : Bool) (xs ys : List X) → map f (cond b xs ys) ≡ cond b (map f xs) (map f ys)
map-cond f true xs ys = refl
map-cond f false xs ys = refl

option-cond : {X Y : Type 0} (f : X → Y) (b : Bool) (x y : Option X) → option_map f (cond b x y) ≡ cond b (option_map f x) (option_map f y)
option-cond f true x y = refl
option-cond f false x y = refl

pub insert_seen : (k : EdgeKey) (v : Group) (es : List (EdgeKey × Group)) → map entry_view (insert_entry same_key es k v) ≡ insert_entry key_eq (map entry_view es) (key_view k) (group_view v)
insert_seen k v [] = refl
insert_seen k v (e ∷ es) =
    map-cond entry_view (same_key k e.0) ((e.0, v) ∷ es) (e ∷ insert_entry same_key es k v) ∙ ap (λ rest. cond (same_key k e.0) ((key_view e.0, group_view v) ∷ map entry_view es) (entry_view e ∷ rest)) (insert_seen k v es)

pub lookup_seen : (k : EdgeKey) (es : List (EdgeKey × Group)) → option_map group_view (lookup (same_key k) es) ≡ lookup (key_eq (key_view k)) (map entry_view es)
lookup_seen k [] = refl
lookup_seen k (e ∷ es) =
    option-cond group_view (same_key k e.0) (Some e.1) (lookup (same_key k) es) ∙ ap (λ rest. cond (same_key k e.0) (Some (group_view e.1)) rest) (lookup_seen k es)

pub found_seen : (found : Option Group) (empty : Group) → group_view (unwrap_or found empty) ≡ unwrap_or (option_map group_view found) (group_view empty)
found_seen None empty = refl
found_seen (Some group) empty = refl
