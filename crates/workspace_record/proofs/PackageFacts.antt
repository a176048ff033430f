-- Packages by their ids, of each id the first.
use Rattle.std.proofs.Common.{◌≡◌, Bool, true, false, cond, not, ◌||◌, List, [], ◌∷◌, ◌++◌, filter, append-nil, Bor, Option, Some, None, is_some, refl, sym, ◌∙◌, ap, subst, find, true≢false}
use Rattle.std.proofs.lemmas.Bool.{false≢true}
use Rattle.std.proofs.lemmas.List.{map-append}
use Rattle.std.proofs.lemmas.List.Elements.{filter-append}
use Rattle.std.specs.Cmp.Lexicographic.{nat_list_eq_equiv}
use Rattle.std.specs.List.{list_any, AllByRecursion}
use Rattle.std.specs.Map.{lookup, values_of}
use Rattle.std.specs.Str.{bytes_eq}
use Rattle.indexmap.specs.IndexMap.{IndexMap, get_by, insert_entry}
use Rattle.indexmap.proofs.CallerLemmas.{insert_entry-new}
use Rattle.workspace_record.specs.Records.{Text, Package}
use Rattle.workspace_record.specs.Indices.{FindsPackages}
use Rattle.workspace_record.specs.Packages.{first_of_each}

abbrev has_id : Text → List Package → Bool
has_id id ps = list_any (λ p. bytes_eq id p.id) ps

abbrev of_id : Text → List Package → Option Package
of_id id ps = find (λ p. bytes_eq id p.id) ps

abbrev without : Text → List Package → List Package
without id ps = filter (λ q. not (bytes_eq id q.id)) ps

-- some element passes exactly where one is found that does
pub some-find : {X : Type 0} (p : X → Bool) (xs : List X) → is_some (find p xs) ≡ list_any p xs
some-find p [] = refl
some-find p (x ∷ xs) = by (p x) (some-find p xs)
  where
    by : (b : Bool) → is_some (find p xs) ≡ list_any p xs → is_some (cond b (Some x) (find p xs)) ≡ (b || list_any p xs)
    by true rest = refl
    by false rest = rest

-- a package of one id is not lost with those of another
of_id-without_by : (a b : Text) (p : Package) (ps : List Package) (s t : Bool) → bytes_eq a b ≡ false → bytes_eq a p.id ≡ s → bytes_eq b p.id ≡ t → of_id a (without b ps) ≡ of_id a ps → of_id a (cond (not t) (p ∷ without b ps) (without b ps)) ≡ cond s (Some p) (of_id a ps)
of_id-without_by a b p ps true true ne e g h =
    absurd (false≢true (sym ne ∙ nat_list_eq_equiv.congr a p.id b e ∙ nat_list_eq_equiv.symm p.id b ∙ g))
of_id-without_by a b p ps false true ne e g h = h
of_id-without_by a b p ps true false ne e g h = λ i. cond (e i) (Some p) (h i)
of_id-without_by a b p ps false false ne e g h = λ i. cond (e i) (Some p) (h i)

of_id-without : (a b : Text) (ps : List Package) → bytes_eq a b ≡ false → of_id a (without b ps) ≡ of_id a ps
of_id-without a b [] ne = refl
of_id-without a b (p ∷ ps) ne = of_id-without_by a b p ps _ _ ne refl refl (of_id-without a b ps ne)

-- of packages with one id the first is found among all and among the first of each
pub of_id-first : (id : Text) (ps : List Package) → of_id id (first_of_each ps) ≡ of_id id ps
of_id-first id [] = refl
of_id-first id (p ∷ ps) = by (bytes_eq id p.id) refl (of_id-first id ps)
  where
    by : (b : Bool) → bytes_eq id p.id ≡ b → of_id id (first_of_each ps) ≡ of_id id ps → cond b (Some p) (of_id id (without p.id (first_of_each ps))) ≡ cond b (Some p) (of_id id ps)
    by true e rest = refl
    by false e rest = of_id-without id p.id (first_of_each ps) e ∙ rest

abbrev pushed : Bool → List Package → Package → List Package
pushed b ps q = cond b ps (ps ++ q ∷ [])

has_id-without : (a b : Text) (ps : List Package) → bytes_eq a b ≡ false → has_id a (without b ps) ≡ has_id a ps
has_id-without a b ps ne = sym (some-find _ (without b ps)) ∙ ap is_some (of_id-without a b ps ne) ∙ some-find _ ps

first_of_each-push_by : (p q : Package) (ps : List Package) (b s : Bool) → has_id q.id ps ≡ b → bytes_eq q.id p.id ≡ s → p ∷ without p.id (pushed b ps q) ≡ pushed (s || has_id q.id (without p.id ps)) (p ∷ without p.id ps) q
first_of_each-push_by p q ps true true h e = refl
first_of_each-push_by p q ps true false h e = ap (λ c. pushed c (p ∷ without p.id ps) q) (sym (has_id-without q.id p.id ps e ∙ h))
first_of_each-push_by p q ps false true h e =
    ap (λ xs. p ∷ xs) (filter-append _ ps (q ∷ []) ∙ ap (λ c. without p.id ps ++ cond (not c) (q ∷ []) []) (nat_list_eq_equiv.symm p.id q.id ∙ e) ∙ append-nil (without p.id ps))
first_of_each-push_by p q ps false false h e =
    ap (λ xs. p ∷ xs) (filter-append _ ps (q ∷ []) ∙ ap (λ c. without p.id ps ++ cond (not c) (q ∷ []) []) (nat_list_eq_equiv.symm p.id q.id ∙ e)) ∙ ap (λ c. pushed c (p ∷ without p.id ps) q) (sym (has_id-without q.id p.id ps e ∙ h))

first_of_each-push : (ps : List Package) (q : Package) → first_of_each (ps ++ q ∷ []) ≡ pushed (has_id q.id (first_of_each ps)) (first_of_each ps) q
first_of_each-push [] q = refl
first_of_each-push (p ∷ ps) q =
    ap (λ xs. p ∷ without p.id xs) (first_of_each-push ps q) ∙ first_of_each-push_by p q (first_of_each ps) _ _ refl refl

abbrev Entry : Type 0
Entry = Bor Text × Package

abbrev IsAligned : Entry → Type 0
IsAligned e = e.0.now ≡ e.1.id

lookup-of_id : (id : Text) (es : List Entry) → AllByRecursion IsAligned es → lookup (λ (k : Bor Text). bytes_eq id k.now) es ≡ of_id id (values_of es)
lookup-of_id id [] all = refl
lookup-of_id id (e ∷ es) all = λ i. cond (bytes_eq id (all.0 i)) (Some e.1) (lookup-of_id id es all.1 i)

aligned-push : (es : List Entry) (e : Entry) → AllByRecursion IsAligned es → IsAligned e → AllByRecursion IsAligned (es ++ e ∷ [])
aligned-push [] e all new = (new, tt)
aligned-push (d ∷ es) e all new = (all.0, aligned-push es e all.1 new)

none_of : {X : Type 0} (o : Option X) → is_some o ≡ false → o ≡ None
none_of None e = refl
none_of (Some x) e = absurd (true≢false e)

module _ {S : Type 0} (rows : List Package) (found : IndexMap (Bor Text) Package S) (finds : FindsPackages rows found) where
  -- the map finds the first package of an id
  pub package_found : (id : Text) → get_by (λ (k : Bor Text). bytes_eq id k.now) found ≡ of_id id rows
  package_found id = lookup-of_id id found.entries finds.ids ∙ ap (of_id id) finds.rows ∙ of_id-first id rows

  -- the map has an id exactly if some package does
  pub id_found : (id : Text) → is_some (get_by (λ (k : Bor Text). bytes_eq id k.now) found) ≡ has_id id rows
  id_found id = ap is_some (package_found id) ∙ some-find _ rows

  first_has : (id : Text) → has_id id (first_of_each rows) ≡ is_some (get_by (λ (k : Bor Text). bytes_eq id k.now) found)
  first_has id = sym (some-find _ (first_of_each rows)) ∙ ap is_some (of_id-first id rows ∙ sym (package_found id))

  -- a package whose id was found changes nothing
  pub known_package : (q : Package) → is_some (get_by (λ (k : Bor Text). bytes_eq q.id k.now) found) ≡ true → FindsPackages (rows ++ q ∷ []) found
  known_package q known = record {
    rows = finds.rows ∙ sym (first_of_each-push rows q ∙ ap (λ b. pushed b (first_of_each rows) q) (first_has q.id ∙ known));
    ids = finds.ids;
  }

  -- and one with a new id is the last
  pub new_package : (q : Package) (k : Bor Text) (more : IndexMap (Bor Text) Package S) → is_some (get_by (λ (x : Bor Text). bytes_eq q.id x.now) found) ≡ false → k.now ≡ q.id → more.entries ≡ insert_entry (λ (a b : Bor Text). bytes_eq a.now b.now) found.entries k q → FindsPackages (rows ++ q ∷ []) more
  new_package q k more unknown id_is entries =
      let none = none_of (get_by (λ (x : Bor Text). bytes_eq k.now x.now) found) (ap (λ id. is_some (get_by (λ (x : Bor Text). bytes_eq id x.now) found)) id_is ∙ unknown) in
      let last = entries ∙ insert_entry-new (λ (a b : Bor Text). bytes_eq a.now b.now) found k q none in
      record {
        rows = ap values_of last ∙ map-append (λ (e : Entry). e.1) found.entries ((k, q) ∷ []) ∙ ap (λ xs. xs ++ q ∷ []) finds.rows ∙ sym (first_of_each-push rows q ∙ ap (λ b. pushed b (first_of_each rows) q) (first_has q.id ∙ unknown));
        ids = subst (AllByRecursion IsAligned) (sym last) (aligned-push found.entries (k, q) finds.ids id_is);
      }
