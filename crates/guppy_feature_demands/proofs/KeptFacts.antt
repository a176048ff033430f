-- One demand more among those that are kept.
use Rattle.std.proofs.Common.{append_assoc, refl, ◌≡◌, ℕ, ◌+◌, ◌<◌, List, [], ◌∷◌, ◌++◌, filter, length, get_or, map, take, ap, sym, ◌∙◌}
use Rattle.std.proofs.lemmas.List.{map-append}
use Rattle.std.proofs.lemmas.List.Elements.{filter-append}
use Rattle.list_facts.proofs.Lists.{map-take_more}
use Rattle.workspace_record.specs.Features.{FeatureValue}
use Rattle.guppy_feature_demands.specs.Demands.{DemandValue, NumberedValue, is_between_nodes, kept_demands, with_numbers}

kept-append : (nodes : List FeatureValue) (ds es : List DemandValue) → kept_demands nodes (ds ++ es) ≡ kept_demands nodes ds ++ kept_demands nodes es
kept-append nodes ds es =
    ap (λ xs. filter (is_between_nodes (length nodes)) xs) (map-append (with_numbers nodes) ds es) ∙ filter-append (is_between_nodes (length nodes)) (map (with_numbers nodes) ds) (map (with_numbers nodes) es)

kept_more : {X : Type 0} (nodes : List FeatureValue) (view : X → DemandValue) (xs : List X) (i : ℕ) (d : X) → i < length xs → (old new : List NumberedValue) → old ≡ kept_demands nodes (map view (take i xs)) → new ≡ old ++ kept_demands nodes (view (get_or xs i d) ∷ []) → new ≡ kept_demands nodes (map view (take (i + 1) xs))
kept_more nodes view xs i d lt old new before pushed =
    let one = view (get_or xs i d) ∷ [] in
    pushed ∙ ap (λ ks. ks ++ kept_demands nodes one) before ∙ sym (kept-append nodes (map view (take i xs)) one) ∙ ap (kept_demands nodes) (sym (map-take_more view xs i d lt))

-- one demand more, whose numbers were found among nodes that are these
pub kept_next : {X : Type 0} (nodes ns : List FeatureValue) (view : X → DemandValue) (xs : List X) (i : ℕ) (d : X) → i < length xs → (old new : List NumberedValue) (n : NumberedValue) → old ≡ kept_demands nodes (map view (take i xs)) → ns ≡ nodes → n ≡ with_numbers ns (view (get_or xs i d)) → new ≡ old ++ filter (is_between_nodes (length nodes)) (n ∷ []) → new ≡ kept_demands nodes (map view (take (i + 1) xs))
kept_next nodes ns view xs i d lt old new n before same is pushed =
    let numbered = is ∙ ap (λ ms. with_numbers ms (view (get_or xs i d))) same in
    kept_more nodes view xs i d lt old new before (pushed ∙ ap (λ m. old ++ filter (is_between_nodes (length nodes)) (m ∷ [])) numbered)

-- the same behind those that were kept before
pub kept_after : {X : Type 0} (nodes ns : List FeatureValue) (view : X → DemandValue) (xs : List X) (i : ℕ) (d : X) → i < length xs → (first old new : List NumberedValue) (n : NumberedValue) → old ≡ first ++ kept_demands nodes (map view (take i xs)) → ns ≡ nodes → n ≡ with_numbers ns (view (get_or xs i d)) → new ≡ old ++ filter (is_between_nodes (length nodes)) (n ∷ []) → new ≡ first ++ kept_demands nodes (map view (take (i + 1) xs))
kept_after nodes ns view xs i d lt first old new n before same is pushed =
    let kept = kept_demands nodes (map view (take i xs)) in
    let one = filter (is_between_nodes (length nodes)) (n ∷ []) in
    pushed ∙ ap (λ ks. ks ++ one) before ∙ append_assoc first kept one ∙ ap (λ ks. first ++ ks) (kept_next nodes ns view xs i d lt kept (kept ++ one) n refl same is refl)

-- what is kept of three parts, one after the other
pub kept_parts : (nodes : List FeatureValue) (a b c : List DemandValue) (none one two three : List NumberedValue) → none ≡ [] → one ≡ none ++ kept_demands nodes a → two ≡ one ++ kept_demands nodes b → three ≡ two ++ kept_demands nodes c → three ≡ kept_demands nodes (a ++ (b ++ c))
kept_parts nodes a b c none one two three empty first second third =
    let kept = kept_demands nodes in
    third ∙ ap (λ ks. ks ++ kept c) (second ∙ ap (λ ks. ks ++ kept b) (first ∙ ap (λ ks. ks ++ kept a) empty)) ∙ append_assoc (kept a) (kept b) (kept c) ∙ sym (kept-append nodes a (b ++ c) ∙ ap (λ ks. kept a ++ ks) (kept-append nodes b c))
