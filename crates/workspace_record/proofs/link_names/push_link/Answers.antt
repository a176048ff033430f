use Rattle.std.proofs.Common.{◌≡◌, ◌∙◌, ◌++◌, ◌∷◌, ◌&&◌, [], List, Vec, Global, arith, cond, map, ap, sym, unwrap_or}
use Rattle.std.proofs.lemmas.Grind.{common_steps}
use Rattle.std.proofs.lemmas.List.{map-append}
use Rattle.std.specs.Str.{bytes_eq}
use Rattle.indexmap.specs.Entry.{map_with_value}
use Rattle.indexmap.specs.IndexMap.{get}
use Rattle.workspace_record.specs.Records.{Link}
use Rattle.workspace_record.specs.LinkNames.{key_eq, keys_equivalence, link_view, links_in}
use Rattle.workspace_record.specs.declared.link_names.LinkName.{LinkName}
use Rattle.workspace_record.specs.declared.link_names.LentLink.{LentLink}
use Rattle.workspace_record.proofs.LinkFacts.{grown, links_at, same_group}
use Rattle.workspace_record.proofs.link_names.push_link.Goals as goal

pub returns : goal.returns
returns c = λ q.
    let k : LinkName = record { from = c.as_str.result; name = c.as_str-2.result } in
    let x = c.args.link.now in
    let old = c.args.names.now.groups in
    let from_is : x.from ≡ k.from.now = sym (c.as_str.ensures.value ∙ ap (λ (l : Link). l.from) c.link.view_is) in
    let name_is : x.name ≡ k.name.now = sym (c.as_str-2.ensures.value ∙ ap (λ (l : Link). l.name) c.link.view_is) in
    let named : (bytes_eq q.from.now x.from && bytes_eq q.name.now x.name) ≡ key_eq k q = (λ i. bytes_eq q.from.now (from_is i) && bytes_eq q.name.now (name_is i)) ∙ keys_equivalence.symm q k in
    let empty = c.new.result in
    let group = c.push.new.self in
    let was = ap (λ (v : Vec LentLink Global). map link_view v.items) (c.or_insert-group.ensures.value ∙ ap (λ o. unwrap_or o empty) c.in_ok-names.ensures.value) ∙ links_at (get key_eq old k) empty c.new.ensures.items in
    let items = ap (map link_view) c.in_ok-push.ensures.items ∙ map-append link_view _ (record { row = c.args.link } ∷ []) ∙ ap (λ (ls : List Link). ls ++ x ∷ []) was in
    let put = (c.in_ok-names.ensures.update.0 group).0 q in
    let added : links_in (get key_eq (map_with_value c.in_ok-names.field-0 group) q) ≡ links_in (get key_eq old q) ++ cond (bytes_eq q.from.now x.from && bytes_eq q.name.now x.name) (x ∷ []) [] = grown (key_eq k q) (bytes_eq q.from.now x.from && bytes_eq q.name.now x.name) (get key_eq old q) (get key_eq old k) _ group x (same_group old k q) named put items in
    grind (arith, common_steps, added)
