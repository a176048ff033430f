-- An entry is read by what its text is made of, and in one way.
use Rattle.std.proofs.Common.{◌≡◌, ◌+◌, ◌-◌, ◌<◌, true, false, not, cond, [], ◌∷◌, ◌++◌, length, take, drop, nat_eq, codes, Contains, refl, sym, ◌∙◌, ap, subst, ⊎_elim, arith, length-append, take-append-drop, append_assoc, get_or-take, length-take}
use Rattle.std.proofs.Math.Seq.{take-append_seam}
use Rattle.std.specs.Bool.{Decides}
use Rattle.std.specs.List.{list_any, starts_with, ends_with, before_first, after_first, position_or_len}
use Rattle.std.proofs.lemmas.Bool.{cond_both, cond-true, cond-false, false_from_ne_true, false≢true, cases_lt}
use Rattle.std.proofs.lemmas.Bool.Decides.{Decides-eqb, not_from_Decides}
use Rattle.std.proofs.lemmas.List.Prefix.{front_rest, end_rest}
use Rattle.std.proofs.lemmas.List.Sums.{split_at_first, fails_before_first, passes_at_first, prefix_len-le-length}
use Rattle.std.proofs.lemmas.Slice.Eq.{bytes_eq-Decides}
use Rattle.list_facts.proofs.Membership.{Contains-append_left, Contains-append_right, Contains-append_cases, Contains-cons_cases, Contains-none, Contains-first, Contains-rest}
use Rattle.list_facts.proofs.Quantifiers.{list_any-from_Contains, list_any_cases}
use Rattle.workspace_record.specs.Records.{Text}
use Rattle.workspace_record.specs.Entries.{EntryValue, OwnFeature, Dependency, Strong, Weak, is_slash, slash_entry, entry_value}
use Rattle.feature_account_rules.specs.IsEntry.{HasNoPrefix, HasNoSlash, IsEntry, dependency, weak, strong, own_feature}
use Rattle.list_facts.proofs.Quantifiers.{list_any_from_position_or_len}

-- a text that begins with another is that text and the rest
front_of : (s p : Text) → starts_with nat_eq s p ≡ true → s ≡ p ++ drop (length p) s
front_of s p h =
    sym (take-append-drop (length p) s) ∙ ap (λ front. front ++ drop (length p) s) (sym ((bytes_eq-Decides p (take (length p) s)).0 h))

-- the test for a text's beginning
starts_with-Decides : (s p : Text) → Decides (starts_with nat_eq s p) ((rest : Text) × (s ≡ p ++ rest))
starts_with-Decides s p =
    (λ h. (drop (length p) s, front_of s p h), λ r. (bytes_eq-Decides p (take (length p) s)).1 (sym (ap (take (length p)) r.1 ∙ take-append_seam p r.0)))

-- a text that ends with another is what stands before it and that text
back_of : (s p : Text) → ends_with nat_eq s p ≡ true → s ≡ take (length s - length p) s ++ p
back_of s p h =
    let n = length s - length p in
    sym (take-append-drop n s) ∙ ap (λ back. take n s ++ back) (sym ((bytes_eq-Decides p (drop n s)).0 h))

-- the test for a text's end
ends_with-Decides : (s p : Text) → Decides (ends_with nat_eq s p) ((front : Text) × (s ≡ front ++ p))
ends_with-Decides s p =
    (λ h. (take (length s - length p) s, back_of s p h), λ r. (bytes_eq-Decides p (drop (length s - length p) s)).1 (sym (end_rest s p r.0 r.1)))

-- the test for a slash
has_slash-Decides : (s : Text) → Decides (list_any is_slash s) (Contains s 47)
has_slash-Decides s =
    (λ h. let x = list_any_cases is_slash s h in subst (Contains s) ((Decides-eqb x.0 47).0 x.2) x.1, λ inside. list_any-from_Contains is_slash s 47 inside refl)

-- the first slash is the one after a name that holds none
position-slash : (name feature : Text) → HasNoSlash name → position_or_len is_slash (name ++ 47 ∷ feature) ≡ length name
position-slash [] feature none = refl
position-slash (x ∷ name) feature none =
    let is_not : is_slash x ≡ false = false_from_ne_true (is_slash x) (λ h. none (subst (Contains (x ∷ name)) ((Decides-eqb x 47).0 h) (Contains-first x name))) in
    let rest = position-slash name feature (λ h. none (Contains-rest x name 47 h)) in
    ap (λ b. cond (not b) (1 + position_or_len is_slash (name ++ 47 ∷ feature)) 0) is_not ∙ omega (arith, rest)

-- what stands before the first slash is that name
before-slash : (name feature : Text) → HasNoSlash name → before_first is_slash (name ++ 47 ∷ feature) ≡ name
before-slash name feature none =
    ap (λ n. take n (name ++ 47 ∷ feature)) (position-slash name feature none) ∙ take-append_seam name (47 ∷ feature)

-- what stands after the first slash is the rest
after-slash : (name feature : Text) → HasNoSlash name → after_first is_slash (name ++ 47 ∷ feature) ≡ feature
after-slash name feature none =
    let at : position_or_len is_slash (name ++ 47 ∷ feature) + 1 ≡ length (name ++ 47 ∷ []) = omega (arith, position-slash name feature none, length-append name (47 ∷ [])) in
    ap (λ n. drop n (name ++ 47 ∷ feature)) at ∙ front_rest (name ++ 47 ∷ feature) (name ++ 47 ∷ []) feature (sym (append_assoc name (47 ∷ []) feature))

-- a text with a slash is cut at the first one
record IsCut (entry : Text) : Type 0 where
  whole : entry ≡ before_first is_slash entry ++ 47 ∷ after_first is_slash entry
  no_slash : HasNoSlash (before_first is_slash entry)

-- the first slash cuts it so
cut : (entry : Text) → list_any is_slash entry ≡ true → IsCut entry
cut entry h =
    let n = position_or_len is_slash entry in
    let most = prefix_len-le-length (λ x. not (is_slash x)) entry in
    let within : n < length entry = ⊎_elim (λ lt. lt) (λ le. absurd (false≢true (sym (list_any_from_position_or_len is_slash entry (omega arith)) ∙ h))) (cases_lt n (length entry)) in
    record {
      whole = split_at_first is_slash entry 47 within ∙ ap (λ x. before_first is_slash entry ++ x ∷ after_first is_slash entry) ((Decides-eqb _ 47).0 (passes_at_first is_slash entry 47 within));
      no_slash = λ i.
          let lt = i.1 in
          let earlier : i.0 < n = omega (arith, length-take n entry) in
          false≢true (sym (fails_before_first is_slash entry i.0 47 earlier) ∙ ap is_slash (sym (get_or-take n entry i.0 47 earlier) ∙ i.2));
    }

-- what the code reads an entry with a slash as, it is
reads_slash : (entry : Text) → HasNoPrefix entry → IsCut entry → IsEntry entry (slash_entry (before_first is_slash entry) (after_first is_slash entry))
reads_slash entry none c =
    let name = before_first is_slash entry in
    let feature = after_first is_slash entry in
    let shorter = take (length name - 1) name in
    cond_both (ends_with nat_eq name (codes "?")) (Weak shorter feature) (Strong name feature) (IsEntry entry) (λ h. let back = back_of name (codes "?") h in weak none (c.whole ∙ ap (λ t. t ++ 47 ∷ feature) back) (λ i. c.no_slash (subst (λ t. Contains t 47) (sym back) (Contains-append_left shorter (codes "?") 47 i)))) (λ h. strong none c.whole c.no_slash (λ front e. not_from_Decides _ (ends_with-Decides name (codes "?")) h (front, e)))

-- what the code reads an entry as, it is
pub entry_reads : (entry : Text) → IsEntry entry (entry_value entry)
entry_reads entry =
    let unprefixed = cond (list_any is_slash entry) (slash_entry (before_first is_slash entry) (after_first is_slash entry)) (OwnFeature entry) in
    cond_both (starts_with nat_eq entry (codes "dep:")) (Dependency (drop 4 entry)) unprefixed (IsEntry entry) (λ h. dependency (front_of entry (codes "dep:") h)) (λ h.
    let none : HasNoPrefix entry = λ rest e. not_from_Decides _ (starts_with-Decides entry (codes "dep:")) h (rest, e) in
    cond_both (list_any is_slash entry) (slash_entry (before_first is_slash entry) (after_first is_slash entry)) (OwnFeature entry) (IsEntry entry) (λ s. reads_slash entry none (cut entry s)) (λ s. own_feature none (not_from_Decides _ (has_slash-Decides entry) s)))

-- an entry with no prefix is read by its first slash
value_unprefixed : (entry : Text) → HasNoPrefix entry → entry_value entry ≡ cond (list_any is_slash entry) (slash_entry (before_first is_slash entry) (after_first is_slash entry)) (OwnFeature entry)
value_unprefixed entry none =
    cond-false (starts_with nat_eq entry (codes "dep:")) _ _ (false_from_ne_true _ (λ h. none (drop 4 entry) (front_of entry (codes "dep:") h)))

-- an entry with no prefix and a slash is read as the two texts around the slash
pub value_slash : (entry name feature : Text) → HasNoPrefix entry → entry ≡ name ++ 47 ∷ feature → HasNoSlash name → entry_value entry ≡ slash_entry name feature
value_slash entry name feature none e no_slash =
    let held : list_any is_slash entry ≡ true = list_any-from_Contains is_slash entry 47 (subst (λ t. Contains t 47) (sym e) (Contains-append_right name (47 ∷ feature) 47 (Contains-first 47 feature))) refl in
    value_unprefixed entry none ∙ cond-true _ _ _ held ∙ ap (λ t. slash_entry (before_first is_slash t) (after_first is_slash t)) e ∙ (λ i. slash_entry (before-slash name feature no_slash i) (after-slash name feature no_slash i))

-- a question mark is no slash
mark_no_slash : HasNoSlash (codes "?")
mark_no_slash i = ⊎_elim (λ same. absurd (omega arith)) (Contains-none 47) (Contains-cons_cases 63 [] 47 i)

-- a question mark at the end of the name makes it weak
value_weak : (name feature : Text) → slash_entry (name ++ codes "?") feature ≡ Weak name feature
value_weak name feature =
    let back : take (length (name ++ codes "?") - 1) (name ++ codes "?") ≡ name = ap (λ n. take n (name ++ codes "?")) (omega (arith, length-append name (codes "?"))) ∙ take-append_seam name (codes "?") in
    cond-true _ _ _ ((ends_with-Decides (name ++ codes "?") (codes "?")).1 (name, refl)) ∙ ap (λ t. Weak t feature) back

-- an entry is read in one way
pub entry_unique : (entry : Text) (v : EntryValue) → IsEntry entry v → v ≡ entry_value entry
entry_unique entry v (dependency {name = name} e) =
    sym (cond-true (starts_with nat_eq entry (codes "dep:")) _ _ ((starts_with-Decides entry (codes "dep:")).1 (name, e)) ∙ ap Dependency (front_rest entry (codes "dep:") name e))
entry_unique entry v (weak {name = name} {feature = feature} none e no_slash) = sym (value_slash entry (name ++ codes "?") feature none e (λ i. ⊎_elim no_slash mark_no_slash (Contains-append_cases name (codes "?") 47 i)) ∙ value_weak name feature)
entry_unique entry v (strong {name = name} {feature = feature} none e no_slash no_mark) =
    sym (value_slash entry name feature none e no_slash ∙ cond-false _ _ _ (false_from_ne_true _ (λ h. let r = (ends_with-Decides name (codes "?")).0 h in no_mark r.0 r.1)))
entry_unique entry v (own_feature none no_slash) =
    sym (value_unprefixed entry none ∙ cond-false _ _ _ (false_from_ne_true _ (λ h. no_slash ((has_slash-Decides entry).0 h))))
