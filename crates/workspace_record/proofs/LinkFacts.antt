-- One link more among those of a name.
use Rattle.std.proofs.Common.{◌≡◌, ℕ, ◌+◌, ◌<◌, length, get_or, take, List, Bool, true, false, cond, ◌&&◌, [], ◌∷◌, ◌++◌, append-nil, map, unwrap_or, Option, Some, None, Vec, Global, refl, sym, ◌∙◌, ap}
use Rattle.std.specs.Str.{bytes_eq}
use Rattle.std.proofs.lemmas.List.{take_more}
use Rattle.std.proofs.lemmas.List.Elements.{filter-append}
use Rattle.indexmap.specs.IndexMap.{IndexMap, get}
use Rattle.workspace_record.specs.Records.{Link}
use Rattle.workspace_record.specs.LinkNames.{NamesLinks, key_eq, keys_equivalence, link_view, links_in, links_named}
use Rattle.workspace_record.specs.declared.link_names.LinkName.{LinkName}
use Rattle.workspace_record.specs.declared.link_names.LinkNames.{LinkNames}
use Rattle.workspace_record.specs.declared.link_names.LentLink.{LentLink}

-- under the link's name its group grows by the link, and under other names nothing changes
pub grown : (b n : Bool) (here under new : Option (Vec LentLink Global)) (group : Vec LentLink Global) (x : Link) → (b ≡ true → here ≡ under) → n ≡ b → new ≡ cond b (Some group) here → map link_view group.items ≡ links_in under ++ x ∷ [] → links_in new ≡ links_in here ++ cond n (x ∷ []) []
grown true n here under new group x same named put is =
    ap links_in put ∙ is ∙ ap (λ o. links_in o ++ x ∷ []) (sym (same refl)) ∙ ap (λ c. links_in here ++ cond c (x ∷ []) []) (sym named)
grown false n here under new group x same named put is =
    ap links_in put ∙ sym (append-nil (links_in here)) ∙ ap (λ c. links_in here ++ cond c (x ∷ []) []) (sym named)

-- the links of an entry are those that its name has, or none
pub links_at : (found : Option (Vec LentLink Global)) (empty : Vec LentLink Global) → empty.items ≡ [] → map link_view (unwrap_or found empty).items ≡ links_in found
links_at None empty none = ap (map link_view) none
links_at (Some group) empty none = refl

-- a map has the same at equal keys
pub same_group : {S : Type 0} (m : IndexMap LinkName (Vec LentLink Global) S) (k q : LinkName) → key_eq k q ≡ true → get key_eq m q ≡ get key_eq m k
same_group m k q h = sym (λ i. get_with m (λ x. keys_equivalence.congr k q x h i))
  where
    get_with : {S : Type 0} → IndexMap LinkName (Vec LentLink Global) S → (LinkName → Bool) → Option (Vec LentLink Global)
    get_with m t = get (λ _. t) m k

-- one link more
pub names_more : (xs : List Link) (i : ℕ) (d : Link) → i < length xs → d ≡ get_or xs i d → (old new : LinkNames) → NamesLinks (take i xs) old → ((q : LinkName) → links_in (get key_eq new.groups q) ≡ links_in (get key_eq old.groups q) ++ links_named (d ∷ []) q.from.now q.name.now) → NamesLinks (take (i + 1) xs) new
names_more xs i d lt is old new before after = record {
  each = λ q. after q ∙ (λ j. before.each q j ++ links_named (d ∷ []) q.from.now q.name.now) ∙ sym (filter-append (λ l. bytes_eq q.from.now l.from && bytes_eq q.name.now l.name) (take i xs) (d ∷ [])) ∙ ap (λ ls. links_named ls q.from.now q.name.now) (ap (λ one. take i xs ++ one ∷ []) is ∙ sym (take_more xs i d lt));
}
