-- The longest folders that begin a path.
use Rattle.std.proofs.Common.{◌≡◌, ◌≢◌, ℕ, ◌-◌, ◌<◌, ◌≤◌, true, false, List, [], ◌∷◌, length, take, drop, refl, sym, subst, ap, ◌∙◌, ◌↔◌, ◌==◌, Contains, arith}
use Rattle.std.proofs.lemmas.Bool.Decides.{nat_tests}
use Rattle.std.proofs.lemmas.List.{length-append, length-take-le, take-append-drop, take_all, take_at}
use Rattle.list_facts.proofs.Membership.{Contains-first}
use Rattle.workspace_record.specs.Records.{Text}
use Rattle.test_select_changes.specs.Folders.{Begins, IsInnermost, NamedFolder}

-- found are the folders that are the first parts of the path, this many, and no longer one begins it
pub record IsSearched (folders : List NamedFolder) (path : List Text) (size : ℕ) (found : List NamedFolder) : Type 0 where
  pub here : (folder : NamedFolder) → Contains found folder ↔ (Contains folders folder × (folder.parts ≡ take size path))
  pub none_longer : (other : NamedFolder) → Contains folders other → Begins other.parts path → length other.parts ≤ size

begins_length : (folder path : List Text) → Begins folder path → length folder ≤ length path
begins_length folder path (more, e) = let sized = ap length e ∙ length-append folder more in omega (arith, sized)

begins_take : (folder path : List Text) → Begins folder path → take (length folder) path ≡ folder
begins_take folder path (more, e) = ap (take (length folder)) e ∙ take_at folder more (length folder) refl

take_begins : (size : ℕ) (path : List Text) → Begins (take size path) path
take_begins size path = (drop size path, sym (take-append-drop size path))

pub none_by : (n : ℕ) → (n == 0) ≡ true → n ≡ 0
none_by n e = grind (arith, nat_tests, e)

pub some_by : (n : ℕ) → (n == 0) ≡ false → n ≢ 0
some_by n e = grind (arith, nat_tests, e)

pub starts : (folders : List NamedFolder) (path : List Text) (found : List NamedFolder) → ((folder : NamedFolder) → Contains found folder ↔ (Contains folders folder × (folder.parts ≡ path))) → IsSearched folders path (length path) found
starts folders path found at =
    let all : take (length path) path ≡ path = take_all (length path) path (omega arith) in
    record {
      here = λ folder. (λ h. let both = (at folder).0 h in (both.0, both.1 ∙ sym all), λ h. (at folder).1 (h.0, h.1 ∙ all));
      none_longer = λ other inside begun. begins_length other.parts path begun;
    }

nothing_in : {X : Type 0} (xs : List X) → length xs ≡ 0 → (x : X) → Contains xs x → ⊥
nothing_in xs e x (k, lt, is) = absurd (omega (arith, lt, e))

something_in : {X : Type 0} (xs : List X) → length xs ≢ 0 → (x : X) × Contains xs x
something_in [] h = absurd (h refl)
something_in (x ∷ xs) h = (x, Contains-first x xs)

pub shorter : (folders : List NamedFolder) (path : List Text) (size : ℕ) (old new : List NamedFolder) (key : List Text) → IsSearched folders path size old → length old ≡ 0 → 0 < size → key ≡ take (size - 1) path → ((folder : NamedFolder) → Contains new folder ↔ (Contains folders folder × (folder.parts ≡ key))) → IsSearched folders path (size - 1) new
shorter folders path size old new key was empty some is at = record {
  here = λ folder. (λ h. let both = (at folder).0 h in (both.0, both.1 ∙ is), λ h. (at folder).1 (h.0, h.1 ∙ sym is));
  none_longer = less;
}
  where
    less : (other : NamedFolder) → Contains folders other → Begins other.parts path → length other.parts ≤ size - 1
    less other inside begun =
        let upto = was.none_longer other inside begun in
        let apart : length other.parts ≢ size = λ e. nothing_in old empty other ((was.here other).1 (inside, sym (begins_take other.parts path begun) ∙ ap (λ n. take n path) e)) in
        omega (arith, upto, apart, some)

module _ (folders : List NamedFolder) (path : List Text) (size : ℕ) (found : List NamedFolder) (was : IsSearched folders path size found) (within : size ≤ length path) where
  is_innermost : (folder : NamedFolder) → Contains found folder → IsInnermost folders path folder
  is_innermost folder h =
      let both = (was.here folder).0 h in
      let sized : length folder.parts ≡ size = ap length both.1 ∙ length-take-le size path within in
      record {
        among = both.0;
        begins = subst (λ ps. Begins ps path) (sym both.1) (take_begins size path);
        longest = λ other inside begun. let upto = was.none_longer other inside begun in omega (arith, upto, sized);
      }

  -- the innermost one has just as many parts
  is_here : (folder : NamedFolder) → IsInnermost folders path folder → size ≤ length folder.parts → Contains found folder
  is_here folder h long =
      let upto = was.none_longer folder h.among h.begins in
      let sized : length folder.parts ≡ size = omega (arith, upto, long) in
      (was.here folder).1 (h.among, sym (begins_take folder.parts path h.begins) ∙ ap (λ n. take n path) sized)

  pub found_some : length found ≢ 0 → (folder : NamedFolder) → Contains found folder ↔ IsInnermost folders path folder
  found_some some folder = (is_innermost folder, λ h. is_here folder h (reaches h))
    where
      reaches : IsInnermost folders path folder → size ≤ length folder.parts
      reaches h =
          let one = something_in found some in
          let both = (was.here one.0).0 one.1 in
          let sized : length one.0.parts ≡ size = ap length both.1 ∙ length-take-le size path within in
          let upto = h.longest one.0 both.0 (subst (λ ps. Begins ps path) (sym both.1) (take_begins size path)) in
          omega (arith, upto, sized)

  pub found_last : size ≡ 0 → (folder : NamedFolder) → Contains found folder ↔ IsInnermost folders path folder
  found_last none folder = (is_innermost folder, λ h. is_here folder h (omega (arith, none)))
