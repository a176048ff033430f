-- One text more in a set, and one element more in a list.
use Rattle.std.proofs.Common.{◌≡◌, ℕ, ◌+◌, ◌<◌, ◌≤◌, Bool, true, false, cond, ◌||◌, List, [], ◌∷◌, Bor, length, take, get_or, refl, sym, ap, ◌∙◌}
use Rattle.std.specs.Cmp.Lexicographic.{nat_list_eq_equiv}
use Rattle.std.specs.List.{list_any}
use Rattle.std.specs.Str.{bytes_eq}
use Rattle.std.proofs.lemmas.List.{take_more, take_all}
use Rattle.std.proofs.lemmas.List.Folds.{list_any-append}
use Rattle.indexmap.specs.IndexSet.{IndexSet, Updates}
use Rattle.workspace_record.specs.Records.{Text}
use Rattle.workspace_record.specs.TextSets.{has_text}

abbrev lent_eq : Bor Text → Bor Text → Bool
lent_eq a b = bytes_eq a.now b.now

-- a text behind a reference
abbrev lent : Text → Bor Text
lent x = record { ref_ptr = (0, 0); now = x }

joined : (a b : Bool) → cond a true b ≡ (b || a)
joined true true = refl
joined true false = refl
joined false true = refl
joined false false = refl

-- the set has one text more
pub text_inserted : {S : Type 0} (old new : IndexSet (Bor Text) S) (t : Bor Text) → Updates lent_eq old new t true → (x : Text) → has_text new x ≡ (has_text old x || bytes_eq x t.now)
text_inserted old new t put x =
    put.0 (lent x) ∙ ap (λ b. cond b true (has_text old x)) (nat_list_eq_equiv.symm t.now x) ∙ joined (bytes_eq x t.now) (has_text old x)

or_false : (a b : Bool) → (a || (b || false)) ≡ (a || b)
or_false true b = refl
or_false false true = refl
or_false false false = refl

-- some of the first elements passes, or the next does
pub list_any-take_more : {X : Type 0} (p : X → Bool) (xs : List X) (i : ℕ) (d : X) → i < length xs → list_any p (take (i + 1) xs) ≡ (list_any p (take i xs) || p (get_or xs i d))
list_any-take_more p xs i d lt =
    ap (list_any p) (take_more xs i d lt) ∙ list_any-append p (take i xs) (get_or xs i d ∷ []) ∙ or_false (list_any p (take i xs)) (p (get_or xs i d))

-- a set of the names of the first elements gets that of the next
pub names_more : {X S : Type 0} (name : X → Text) (xs : List X) (i : ℕ) (d : X) (t : Text) (old new : IndexSet (Bor Text) S) → i < length xs → d ≡ get_or xs i d → t ≡ name d → ((x : Text) → has_text new x ≡ (has_text old x || bytes_eq x t)) → ((x : Text) → has_text old x ≡ list_any (λ y. bytes_eq x (name y)) (take i xs)) → (x : Text) → has_text new x ≡ list_any (λ y. bytes_eq x (name y)) (take (i + 1) xs)
names_more name xs i d t old new lt is named inserted before x =
    let name_is : t ≡ name (get_or xs i d) = named ∙ ap name is in
    inserted x ∙ (λ j. before x j || bytes_eq x (name_is j)) ∙ sym (list_any-take_more (λ y. bytes_eq x (name y)) xs i d lt)

-- past the end it has the names of all
pub names_all : {X S : Type 0} (name : X → Text) (xs : List X) (i : ℕ) (set : IndexSet (Bor Text) S) → length xs ≤ i → ((x : Text) → has_text set x ≡ list_any (λ y. bytes_eq x (name y)) (take i xs)) → (x : Text) → has_text set x ≡ list_any (λ y. bytes_eq x (name y)) xs
names_all name xs i set past held x = held x ∙ ap (list_any (λ y. bytes_eq x (name y))) (take_all i xs past)
