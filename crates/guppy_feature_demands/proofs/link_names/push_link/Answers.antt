use Rattle.std.proofs.Common.{◌≡◌, ◌∙◌, ◌++◌, ◌∷◌, [], ℕ, List, Vec, Global, arith, cond, map, ap, sym, unwrap_or}
use Rattle.std.proofs.lemmas.Grind.{common_steps}
use Rattle.std.proofs.lemmas.List.{map-append}
use Rattle.std.specs.Str.{bytes_eq}
use Rattle.std.proofs.Common.{◌&&◌}
use Rattle.indexmap.specs.Entry.{map_with_value}
use Rattle.indexmap.specs.IndexMap.{get}
use Rattle.workspace_record.specs.Records.{Link}
use Rattle.guppy_feature_demands.specs.IdHashes.{text_hash}
use Rattle.guppy_feature_demands.specs.LinkNames.{key_eq, keys_equivalence}
use Rattle.guppy_feature_demands.specs.Numbered.{is_named_link}
use Rattle.guppy_feature_demands.specs.NumberedViews.{ends_view, link_view}
use Rattle.guppy_feature_demands.specs.LinkNames.{links_in}
use Rattle.guppy_feature_demands.specs.declared.numbered.NumberedLink.{NumberedLink}
use Rattle.guppy_feature_demands.proofs.LinkFacts.{grown, guarded, links_at, same_group}
use Rattle.guppy_feature_demands.proofs.link_names.push_link.Goals as goal

pub returns : goal.returns
returns c = λ id name q of_q.
    let k = c.of-key.result in
    let of_k = c.of-key.ensures in
    let x = ends_view c.args.ends in
    let old = c.args.names.now.groups in
    let from_is : x.1.from ≡ k.from.now = sym (of_k.from ∙ c.args.ends.from_row) in
    let name_is : x.1.name ≡ k.name.now = sym (of_k.name_is ∙ c.as_str.ensures.value ∙ ap (λ (l : Link). l.name) c.row.view_is) in
    let same_id : is_named_link q.from.now q.name.now x ≡ key_eq q k = (λ i. bytes_eq q.from.now (from_is i) && bytes_eq q.name.now (name_is i)) ∙ sym (guarded q.from.now k.from.now q.hash k.hash (bytes_eq q.name.now k.name.now) (of_q.hash ∙ ap text_hash (sym of_q.from)) (of_k.hash ∙ ap text_hash (sym of_k.from))) in
    let named : is_named_link id name x ≡ key_eq k q = (λ i. is_named_link (sym of_q.from i) (sym of_q.name_is i) x) ∙ same_id ∙ keys_equivalence.symm q k in
    let empty = c.new.result in
    let group = c.push.new.self in
    let was = ap (λ (v : Vec NumberedLink Global). map link_view v.items) (c.or_insert-group.ensures.value ∙ ap (λ o. unwrap_or o empty) c.in_ok-names.ensures.value) ∙ links_at (get key_eq old k) empty c.new.ensures.items in
    let items = ap (map link_view) c.in_ok-push.ensures.items ∙ map-append link_view _ (c.args.ends.at ∷ []) ∙ ap (λ (ls : List (ℕ × Link)). ls ++ x ∷ []) was in
    let put = (c.in_ok-names.ensures.update.0 group).0 q in
    let added : links_in (get key_eq (map_with_value c.in_ok-names.field-0 group) q) ≡ links_in (get key_eq old q) ++ cond (is_named_link id name x) (x ∷ []) [] = grown (key_eq k q) (is_named_link id name x) (get key_eq old q) (get key_eq old k) _ group x (same_group old k q) named put items in
    grind (arith, common_steps, added)
