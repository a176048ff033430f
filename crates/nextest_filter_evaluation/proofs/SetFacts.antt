-- Sets of package ids.
use Rattle.std.proofs.Common.{◌≡◌, ◌∙◌, ◌↔◌, refl, sym, ap, subst, append_assoc, List, [], ◌∷◌, ◌++◌, Contains, IsTrue, Less, Greater}
use Rattle.std.proofs.lemmas.Map.Views.{btree_set_contains_iff}
use Rattle.std.specs.List.{AllByRecursion}
use Rattle.std.specs.List.Sorted.{IsStrictlySortedBy}
use Rattle.std.specs.Ordering.{ordering_reverse}
use Rattle.std.specs.BTreeSet.{BTreeSet, contains, insert_key}
use Rattle.list_facts.specs.Ascending.{text_cmp}
use Rattle.list_facts.proofs.Ascending.{text_total, text_exact}
use Rattle.workspace_record.specs.Records.{Text}

pub contains_id : (s : BTreeSet Text) (k : Text) → IsTrue (contains text_cmp s k) ↔ Contains s.keys k
contains_id s k = btree_set_contains_iff text_total text_exact s k

below_middle : (x : Text) (front : List Text) (y : Text) (more : List Text) → AllByRecursion (λ z. text_cmp x z ≡ Less) (front ++ y ∷ more) → text_cmp x y ≡ Less
below_middle x [] y more h = h.0
below_middle x (z ∷ front) y more h = below_middle x front y more h.1

-- an id that is above those of the set goes last
insert_last : (ks : List Text) (k : Text) (more : List Text) → IsStrictlySortedBy text_cmp (ks ++ k ∷ more) → insert_key text_cmp ks k ≡ ks ++ k ∷ []
unfolding IsStrictlySortedBy
insert_last [] k more h = refl
insert_last (x ∷ ks) k more h =
    let above : text_cmp k x ≡ Greater = text_total.antisymm k x ∙ ap ordering_reverse (below_middle x ks k more h.0) in
    rw above (ap (λ t. x ∷ t) (insert_last ks k more h.1))

-- one more id of an ascending list
pub one_more : (old new ids left rest : List Text) (k : Text) → old ++ left ≡ ids → IsStrictlySortedBy text_cmp ids → left ≡ k ∷ rest → new ≡ insert_key text_cmp old k → new ++ rest ≡ ids
one_more old new ids left rest k whole sorted steps inserted =
    let all : old ++ k ∷ rest ≡ ids = subst (λ xs. old ++ xs ≡ ids) steps whole in
    let last : new ≡ old ++ k ∷ [] = inserted ∙ insert_last old k rest (subst (IsStrictlySortedBy text_cmp) (sym all) sorted) in
    ap (λ xs. xs ++ rest) last ∙ append_assoc old (k ∷ []) rest ∙ all
