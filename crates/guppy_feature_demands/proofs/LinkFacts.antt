-- One link more among those of a name.
use Rattle.std.proofs.Common.{◌≡◌, ℕ, ◌+◌, ◌<◌, length, get_or, take, List, Bool, true, false, cond, ◌&&◌, nat_eq, [], ◌∷◌, ◌++◌, append-nil, map, unwrap_or, Option, Some, None, Vec, Global, refl, sym, ◌∙◌, ap}
use Rattle.std.proofs.lemmas.List.Elements.{filter-append}
use Rattle.list_facts.proofs.Lists.{map-take_more}
use Rattle.indexmap.specs.IndexMap.{IndexMap, get}
use Rattle.std.specs.Cmp.{unsigned_Decides}
use Rattle.workspace_record.specs.Equality.{text_eq, texts_decide}
use Rattle.workspace_record.specs.Records.{Link, Text}
use Rattle.guppy_feature_demands.specs.IdHashes.{text_hash}
use Rattle.guppy_feature_demands.specs.LinkNames.{IsNameOf, NamesLinks, key_eq, keys_equivalence, links_in}
use Rattle.guppy_feature_demands.specs.Numbered.{is_named_link, links_named}
use Rattle.guppy_feature_demands.specs.NumberedViews.{link_view}
use Rattle.guppy_feature_demands.specs.declared.numbered.NumberedLink.{NumberedLink}
use Rattle.guppy_feature_demands.specs.declared.link_names.LinkName.{LinkName}
use Rattle.guppy_feature_demands.specs.declared.link_names.LinkNames.{LinkNames}

-- under the link's name its group grows by the link, and under other names nothing changes
pub grown : (b n : Bool) (here under new : Option (Vec NumberedLink Global)) (group : Vec NumberedLink Global) (x : ℕ × Link) → (b ≡ true → here ≡ under) → n ≡ b → new ≡ cond b (Some group) here → map link_view group.items ≡ links_in under ++ x ∷ [] → links_in new ≡ links_in here ++ cond n (x ∷ []) []
grown true n here under new group x same named put is =
    ap links_in put ∙ is ∙ ap (λ o. links_in o ++ x ∷ []) (sym (same refl)) ∙ ap (λ c. links_in here ++ cond c (x ∷ []) []) (sym named)
grown false n here under new group x same named put is =
    ap links_in put ∙ sym (append-nil (links_in here)) ∙ ap (λ c. links_in here ++ cond c (x ∷ []) []) (sym named)

-- the links of an entry are those that its name has, or none
pub links_at : (found : Option (Vec NumberedLink Global)) (empty : Vec NumberedLink Global) → empty.items ≡ [] → map link_view (unwrap_or found empty).items ≡ links_in found
links_at None empty none = ap (map link_view) none
links_at (Some group) empty none = refl

-- a map has the same at equal keys
pub same_group : {S : Type 0} (m : IndexMap LinkName (Vec NumberedLink Global) S) (k q : LinkName) → key_eq k q ≡ true → get key_eq m q ≡ get key_eq m k
same_group m k q h = sym (λ i. get_with m (λ x. keys_equivalence.congr k q x h i))
  where
    get_with : {S : Type 0} → IndexMap LinkName (Vec NumberedLink Global) S → (LinkName → Bool) → Option (Vec NumberedLink Global)
    get_with m t = get (λ _. t) m k

never : (b : Bool) → false ≡ (b && false)
never true = refl
never false = refl

-- the hashes add nothing to a test by what they are of
pub guarded : (x y : Text) (h k : ℕ) (n : Bool) → h ≡ text_hash x → k ≡ text_hash y → (nat_eq h k && (text_eq x y && n)) ≡ (text_eq x y && n)
guarded x y h k n hx ky = by (text_eq x y) refl
  where
    by : (b : Bool) → text_eq x y ≡ b → (nat_eq h k && (b && n)) ≡ (b && n)
    by true e = ap (λ c. c && n) ((unsigned_Decides h k).1 (hx ∙ ap text_hash ((texts_decide x y).0 e) ∙ sym ky))
    by false e = sym (never (nat_eq h k))

-- one link more
pub names_more : {X : Type 0} (view : X → ℕ × Link) (xs : List X) (i : ℕ) (d : X) → i < length xs → d ≡ get_or xs i d → (old new : LinkNames) → NamesLinks (map view (take i xs)) old → ((id name : Text) (q : LinkName) → IsNameOf id name q → links_in (get key_eq new.groups q) ≡ links_in (get key_eq old.groups q) ++ links_named (view d ∷ []) id name) → NamesLinks (map view (take (i + 1) xs)) new
names_more view xs i d lt is old new before after =
    let one = view (get_or xs i d) ∷ [] in
    record {
      each = λ id name q of_q. after id name q of_q ∙ (λ j. before.each id name q of_q j ++ links_named (view (is j) ∷ []) id name) ∙ sym (filter-append (is_named_link id name) (map view (take i xs)) one) ∙ ap (λ ls. links_named ls id name) (sym (map-take_more view xs i d lt));
    }
