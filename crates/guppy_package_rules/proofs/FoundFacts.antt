-- Sets and maps of lent texts, as they are filled.
use Rattle.std.proofs.Common.{◌≡◌, Bool, true, false, cond, List, [], ◌∷◌, ◌++◌, Option, Some, None, is_some, unwrap_or, find, map, refl, sym, ◌∙◌, ap, subst, Bor, true≢false}
use Rattle.std.specs.BTreeMap as tree
use Rattle.std.specs.BTreeMap.{BTreeMap}
use Rattle.std.specs.Cmp.{IsEquivalence, eq_by_cmp_equiv, on_equiv}
use Rattle.std.proofs.lemmas.Cmp.{nat_list_eq_equiv}
use Rattle.indexmap.specs.IndexSet.{IndexSet}
use Rattle.std.specs.Option.{option_map, option_or}
use Rattle.std.specs.Str.{bytes_eq}
use Rattle.std.specs.declared.cmp.Ordering.{Ordering}
use Rattle.std.proofs.lemmas.List.Folds.{find-append}
use Rattle.std.proofs.lemmas.Map.Text.{is_eq-slice_cmp, btree_map_updates_str}
use Rattle.std.proofs.lemmas.Map.Views.{tells_apart}
use Rattle.list_facts.specs.Ascending.{text_cmp}
use Rattle.list_facts.proofs.Ascending.{text_total, text_exact}
use Rattle.list_facts.proofs.Quantifiers.{list_any-map}
use Rattle.workspace_record.specs.Records.{Text, Package, Member}
use Rattle.guppy_package_rules.specs.Found.{finds, text_at, HoldsTexts, HoldsNames}
use Rattle.guppy_package_rules.specs.Rules.{is_package_id, member_name}
use Rattle.guppy_package_rules.proofs.PlaceFacts.{HoldsSeen}

-- equal texts are the same
pub same_text : (x y : Text) → bytes_eq x y ≡ true → x ≡ y
same_text x y e = tells_apart text_exact x y (is_eq-slice_cmp x y ∙ e)

flipped : (x y : Text) → bytes_eq x y ≡ false → bytes_eq y x ≡ false
flipped x y e = sym (is_eq-slice_cmp y x) ∙ IsEquivalence.symm (eq_by_cmp_equiv text_total) y x ∙ is_eq-slice_cmp x y ∙ e

abbrev lent_cmp : Bor Text → Bor Text → Ordering
lent_cmp a b = text_cmp a.now b.now

abbrev lent_eq : Bor Text → Bor Text → Bool
lent_eq a b = bytes_eq a.now b.now

pub lent_texts : IsEquivalence lent_eq
lent_texts = on_equiv (λ t. t.now) nat_list_eq_equiv

-- a text behind a reference
abbrev lent : Text → Bor Text
lent text = record { ref_ptr = (0, 0); now = text }

-- a set that tells the keys that were seen holds their texts
pub holds_texts : {S : Type 0} (set : IndexSet (Bor Text) S) (texts : List (Bor Text)) → HoldsSeen lent_texts set.keys texts → HoldsTexts set (map (λ t. t.now) texts)
holds_texts set texts held q = held (lent q) ∙ sym (list_any-map (bytes_eq q) (λ t. t.now) texts)

-- what a set of ids finds is a package id
pub is_found : {S : Type 0} (set : IndexSet (Bor Text) S) (packages : List Package) → HoldsTexts set (map (λ p. p.id) packages) → (q : Text) → finds set q ≡ is_package_id packages q
is_found set packages held q = held q ∙ list_any-map (bytes_eq q) (λ p. p.id) packages

or_none : {A : Type 0} (x : Option A) → option_or x None ≡ x
or_none None = refl
or_none (Some x) = refl

or_first : {A : Type 0} (x y : Option A) → is_some x ≡ true → option_or x y ≡ x
or_first None y e = absurd (true≢false (sym e))
or_first (Some x) y e = refl

is_none : {A B : Type 0} (f : A → B) (x : Option A) → is_some (option_map f x) ≡ false → x ≡ None
is_none f None e = refl
is_none f (Some x) e = absurd (true≢false e)

is_there : {A B : Type 0} (f : A → B) (x : Option A) → is_some (option_map f x) ≡ true → is_some x ≡ true
is_there f None e = e
is_there f (Some x) e = refl

map_keeps : {A B : Type 0} (f : A → B) (x : Option A) → is_some (option_map f x) ≡ is_some x
map_keeps f None = refl
map_keeps f (Some x) = refl

abbrev found : List Package → Text → Option Package
found ps q = find (λ p. bytes_eq q p.id) ps

abbrev name_at : BTreeMap (Bor Text) (Bor Text) → Text → Option (Bor Text)
name_at names q = tree.get_by (λ k. text_cmp q k.now) names

module _ (ps : List Package) (p : Package) where
  -- another package is not found by this id
  passed_over : (q : Text) → bytes_eq q p.id ≡ false → found (ps ++ p ∷ []) q ≡ found ps q
  passed_over q apart =
      find-append (λ p. bytes_eq q p.id) ps (p ∷ []) ∙ ap (λ b. option_or (found ps q) (cond b (Some p) None)) apart ∙ or_none (found ps q)

  -- the first package with the id stays the first
  stays_found : (q : Text) → is_some (found ps q) ≡ true → found (ps ++ p ∷ []) q ≡ found ps q
  stays_found q there = find-append (λ p. bytes_eq q p.id) ps (p ∷ []) ∙ or_first (found ps q) _ there

  -- the package is the first with its id
  newly_found : (q : Text) → bytes_eq q p.id ≡ true → found ps q ≡ None → found (ps ++ p ∷ []) q ≡ Some p
  newly_found q same none =
      find-append (λ p. bytes_eq q p.id) ps (p ∷ []) ∙ ap (λ x. option_or x (cond (bytes_eq q p.id) (Some p) None)) none ∙ ap (λ b. cond b (Some p) None) same

-- a package whose id has a name already changes nothing
pub names_stay : (names : BTreeMap (Bor Text) (Bor Text)) (ps : List Package) (p : Package) (id : Text) → id ≡ p.id → HoldsNames names ps → is_some (name_at names id) ≡ true → HoldsNames names (ps ++ p ∷ [])
names_stay names ps p id is held there q = by (bytes_eq q p.id) refl
  where
    by : (b : Bool) → bytes_eq q p.id ≡ b → text_at names q ≡ option_map (λ p. p.name) (found (ps ++ p ∷ []) q)
    by true same =
        let e = is ∙ sym (same_text q p.id same) in
        let some : is_some (found ps q) ≡ true = is_there (λ p. p.name) (found ps q) (sym (ap is_some (held q)) ∙ map_keeps (λ n. n.now) (name_at names q) ∙ subst (λ t. is_some (name_at names t) ≡ true) e there) in
        held q ∙ ap (option_map (λ p. p.name)) (sym (stays_found ps p q some))
    by false apart = held q ∙ ap (option_map (λ p. p.name)) (sym (passed_over ps p q apart))

-- a package whose id has no name is put in
pub names_more : (old new : BTreeMap (Bor Text) (Bor Text)) (ps : List Package) (p : Package) (id key : Text) (name : Bor Text) → id ≡ p.id → key ≡ p.id → name.now ≡ p.name → HoldsNames old ps → is_some (name_at old id) ≡ false → tree.UpdatesBy lent_cmp (λ k. text_cmp key k.now) old new (Some name) → HoldsNames new (ps ++ p ∷ [])
names_more old new ps p id key name is keyed called held none put q =
    ap (option_map (λ n. n.now)) (btree_map_updates_str key old new (Some name) put q) ∙ by (bytes_eq key q) refl
  where
    by : (b : Bool) → bytes_eq key q ≡ b → option_map (λ n. n.now) (cond (bytes_eq key q) (Some name) (name_at old q)) ≡ option_map (λ p. p.name) (found (ps ++ p ∷ []) q)
    by true same =
        let e = same_text key q same in
        let unfound : found ps q ≡ None = is_none (λ p. p.name) (found ps q) (sym (ap is_some (held q)) ∙ map_keeps (λ n. n.now) (name_at old q) ∙ subst (λ t. is_some (name_at old t) ≡ false) (is ∙ sym keyed ∙ e) none) in
        ap (λ b. option_map (λ n. n.now) (cond b (Some name) (name_at old q))) same ∙ ap Some called ∙ ap (option_map (λ p. p.name)) (sym (newly_found ps p q (subst (λ t. bytes_eq t p.id ≡ true) e (subst (λ t. bytes_eq key t ≡ true) (sym e ∙ keyed) same)) unfound))
    by false apart =
        ap (λ b. option_map (λ n. n.now) (cond b (Some name) (name_at old q))) apart ∙ held q ∙ ap (option_map (λ p. p.name)) (sym (passed_over ps p q (flipped p.id q (subst (λ t. bytes_eq t q ≡ false) keyed apart))))

-- the name of a member's package, as the map has it
pub name_found : (names : BTreeMap (Bor Text) (Bor Text)) (packages : List Package) (m : Member) → HoldsNames names packages → unwrap_or (text_at names m.package_id) [] ≡ member_name packages m
name_found names packages m held = ap (λ name. unwrap_or name []) (held m.package_id)
