-- Rows that break none of the rules on packages, links and members.
use Rattle.std.proofs.Common.{◌≡◌, ◌≢◌, ℕ, zero, suc, ◌<◌, ◌≤◌, ◌==◌, Bool, true, false, not, ◌&&◌, List, [], ◌∷◌, ◌++◌, Option, Some, None, is_none, is_ok, Result, Ok, Err, length, get_or, take, map, position, nat_lt, cond, refl, sym, ◌∙◌, ap, subst, append-nil, append_assoc, arith, length-take, get_or-take, true≢false, All, AllPairs, Any, Contains, ◌↔◌}
use Rattle.std.specs.Bool.{Decides}
use Rattle.std.specs.Cmp.{Equal-is}
use Rattle.std.specs.List.{list_any, position_or_len, AllByRecursion}
use Rattle.std.specs.Option.{option_map_or}
use Rattle.std.specs.Ordering.{eq_by_cmp}
use Rattle.std.specs.Str.{bytes_eq}
use Rattle.std.proofs.Math.Dec.{eqb-suc-zero}
use Rattle.std.proofs.lemmas.Bool.Decides.{nat_tests}
use Rattle.std.proofs.lemmas.List.{get_or_default}
use Rattle.std.proofs.lemmas.List.Elements.{Contains-get_or}
use Rattle.std.proofs.lemmas.List.Folds.{Any-from_list_any, list_any-from_Any, list_any_none}
use Rattle.std.proofs.lemmas.List.Sums.{fails_before_first}
use Rattle.std.proofs.lemmas.Slice.Eq.{bytes_eq-Decides}
use Rattle.list_facts.proofs.Quantifiers.{list_any-from_Contains}
use Rattle.semver.specs.Parse.{version_parts, req_of}
use Rattle.workspace_record.specs.Records.{Text, Package, Link, Member, Target, WorkspaceDetails}
use Rattle.guppy_package_rules.specs.Kept.{IsVersion, IsRequirement, IsPackageId, IsMemberId, AreKept}
use Rattle.guppy_package_rules.specs.Paths.{components, path_cmp}
use Rattle.guppy_package_rules.specs.Places.{first_place_after, first_repeat}
use Rattle.guppy_package_rules.specs.Rules.{is_version, is_requirement, is_package_id, is_member_id, member_name, link_key, same_key, target_key, has_distinct_targets, earlier, first_broken, package_rules, first_fault}
use Rattle.guppy_package_rules.specs.declared.record_rule.RecordRule.{RecordRule}
use Rattle.guppy_package_rules.proofs.PathFacts.{same_components, tied}
use Rattle.guppy_package_rules.proofs.PlaceFacts.{from_here, none_here}
use Rattle.guppy_package_rules.proofs.Positions.{no_position, position-map}
use Rattle.guppy_package_rules.proofs.RepeatFacts.{first_repeat-map}

not_true : (t : Bool) → (t ≡ true → ⊥) → t ≡ false
not_true true never = absurd (never refl)
not_true false never = refl

module _ {X : Type 0} (test : List X → X → Bool) where
  none_after : (before ys : List X) → first_place_after test before ys ≡ None → (i : ℕ) (d : X) → i < length ys → test (before ++ take i ys) (get_or ys i d) ≡ false
  none_after before [] none i d lt = absurd (omega arith)
  none_after before (y ∷ ys) none zero d lt =
      subst (λ s. test s y ≡ false) (sym (append-nil before)) (none_here (test before y) (first_place_after test (before ++ y ∷ []) ys) none).0
  none_after before (y ∷ ys) none (suc i) d lt =
      subst (λ s. test s (get_or ys i d) ≡ false) (append_assoc before (y ∷ []) (take i ys)) (none_after (before ++ y ∷ []) ys (none_here (test before y) (first_place_after test (before ++ y ∷ []) ys) none).1 i d (omega arith))

  all_after : (before ys : List X) → ((i : ℕ) (d : X) → i < length ys → test (before ++ take i ys) (get_or ys i d) ≡ false) → first_place_after test before ys ≡ None
  all_after before [] each = refl
  all_after before (y ∷ ys) each =
      ap (λ b. from_here b (first_place_after test (before ++ y ∷ []) ys)) (subst (λ s. test s y ≡ false) (append-nil before) (each 0 y (omega arith))) ∙ ap (from_here false) (all_after (before ++ y ∷ []) ys (λ i d lt. subst (λ s. test s (get_or ys i d) ≡ false) (sym (append_assoc before (y ∷ []) (take i ys))) (each (suc i) d (omega arith))))

-- no element is the same as an earlier one exactly where what tells them apart differs
module _ {X Z : Type 0} (same : X → X → Bool) (key : X → Z) (tells : (a b : X) → Decides (same a b) (key a ≡ key b)) where
  pub repeat_iff : (xs : List X) → (first_repeat same xs ≡ None) ↔ AllPairs (λ a b. key a ≢ key b) xs
  repeat_iff xs = (there, back)
    where
      there : first_repeat same xs ≡ None → AllPairs (λ a b. key a ≢ key b) xs
      there none i j d lt within e =
          let early : i < length (take j xs) = omega (arith, length-take j xs) in
          let inside : Contains (take j xs) (get_or xs i d) = subst (Contains (take j xs)) (get_or-take j xs i d lt) (Contains-get_or (take j xs) i d early) in
          true≢false (sym (list_any-from_Contains (same (get_or xs j d)) (take j xs) (get_or xs i d) inside ((tells (get_or xs j d) (get_or xs i d)).1 (sym e))) ∙ none_after (λ before x. list_any (same x) before) [] xs none j d within)

      first_at : (j i : ℕ) (d e : X) → i < j → j < length xs → get_or xs i d ≡ get_or (take j xs) i e
      first_at j i d e below within =
          get_or_default xs i d e (omega arith) ∙ sym (get_or-take j xs i e below)

      unlike : AllPairs (λ a b. key a ≢ key b) xs → (j : ℕ) (d : X) → j < length xs → All (λ y. same (get_or xs j d) y ≡ false) (take j xs)
      unlike apart j d lt i e early =
          let below : i < j = omega (arith, length-take j xs) in
          not_true _ (λ is. apart i j d below lt (ap key (first_at j i d e below lt) ∙ sym ((tells (get_or xs j d) (get_or (take j xs) i e)).0 is)))

      back : AllPairs (λ a b. key a ≢ key b) xs → first_repeat same xs ≡ None
      back apart =
          all_after (λ before x. list_any (same x) before) [] xs (λ j d lt. list_any_none (same (get_or xs j d)) (take j xs) (unlike apart j d lt))

module _ {X Y Z : Type 0} (f : X → Y) (same : Y → Y → Bool) (key : Y → Z) (tells : (a b : Y) → Decides (same a b) (key a ≡ key b)) where
  pub mapped_iff : (xs : List X) → (first_repeat same (map f xs) ≡ None) ↔ AllPairs (λ a b. key (f a) ≢ key (f b)) xs
  mapped_iff xs =
      subst (λ first. (first ≡ None) ↔ AllPairs (λ a b. key (f a) ≢ key (f b)) xs) (first_repeat-map f same xs) (repeat_iff (λ a b. same (f a) (f b)) (λ x. key (f x)) (λ a b. tells (f a) (f b)) xs)

not_within : (n m : ℕ) → cond (nat_lt n m) (Some n) None ≡ None → m ≤ n
not_within n m e = grind (arith, nat_tests)

-- a test passes nowhere
module _ {X : Type 0} (p : X → Bool) (P : X → Type 0) (tells : (x : X) → (p x ≡ false) ↔ P x) where
  pub position_iff : (xs : List X) → (position p xs ≡ None) ↔ All P xs
  position_iff xs = (
    λ none k d lt. let past = not_within (position_or_len p xs) (length xs) none in (tells (get_or xs k d)).0 (fails_before_first p xs k d (omega arith)),
    λ each. no_position p xs (list_any_none p xs (λ k d lt. (tells (get_or xs k d)).1 (each k d lt))),
  )

pub fault_here : (rule : RecordRule) (a : Option ℕ) (b : Option (RecordRule × ℕ)) → (option_map_or (λ place. Some (rule, place)) a b ≡ None) ↔ ((a ≡ None) × (b ≡ None))
fault_here rule None b = (λ e. (refl, e), λ h. h.1)
fault_here rule (Some place) b = (λ e. absurd cc, λ h. absurd cc)

-- no rule is broken exactly where each has no place
pub fault_iff : (place_of : RecordRule → Option ℕ) (rules : List RecordRule) → (first_fault place_of rules ≡ None) ↔ AllByRecursion (λ rule. place_of rule ≡ None) rules
fault_iff place_of [] = (λ e. tt, λ h. refl)
fault_iff place_of (rule ∷ rules) =
    let here = fault_here rule (place_of rule) (first_fault place_of rules) in
    let later = fault_iff place_of rules in
    (λ e. let both = here.0 e in (both.0, later.0 both.1), λ h. here.1 (h.0, later.1 h.1))

read_iff : {A E : Type 0} (r : Result A E) → (not (is_ok r) ≡ false) ↔ ((a : A) × (r ≡ Ok a))
read_iff (Ok a) = (λ e. (a, refl), λ h. refl)
read_iff (Err e) = (λ e. absurd (true≢false e), λ h. absurd cc)

is_true : (t : Bool) → not t ≡ false → t ≡ true
is_true true e = refl
is_true false e = absurd (true≢false e)

both_true : (a b : Bool) → not (a && b) ≡ false → (a ≡ true) × (b ≡ true)
both_true true true e = (refl, refl)
both_true true false e = absurd (true≢false e)
both_true false b e = absurd (true≢false e)

both_hold : (a b : Bool) → (a ≡ true) × (b ≡ true) → not (a && b) ≡ false
both_hold true true h = refl
both_hold true false h = absurd (true≢false (sym h.1))
both_hold false b h = absurd (true≢false (sym h.0))

-- an id stands among those of the elements
module _ {X : Type 0} (id_of : X → Text) (id : Text) (xs : List X) where
  pub known_iff : (list_any (λ x. bytes_eq id (id_of x)) xs ≡ true) ↔ Any (λ x. id_of x ≡ id) xs
  known_iff = (
    λ h. let one = Any-from_list_any (λ x. bytes_eq id (id_of x)) xs h in (one.0, one.1, one.2, one.3, sym ((bytes_eq-Decides id (id_of one.1)).0 one.4)),
    λ h. list_any-from_Any (λ x. bytes_eq id (id_of x)) xs (h.0, h.1, h.2, h.3, (bytes_eq-Decides id (id_of h.1)).1 (sym h.4)),
  )

  unknown_iff : (not (list_any (λ x. bytes_eq id (id_of x)) xs) ≡ false) ↔ Any (λ x. id_of x ≡ id) xs
  unknown_iff = (λ h. known_iff.0 (is_true _ h), λ h. ap not (known_iff.1 h))

ends_iff : (packages : List Package) (l : Link) → (not (is_package_id packages l.from && is_package_id packages l.to) ≡ false) ↔ (IsPackageId packages l.from × IsPackageId packages l.to)
ends_iff packages l = (
  λ h. let both = both_true (is_package_id packages l.from) (is_package_id packages l.to) h in ((known_iff (λ p. p.id) l.from packages).0 both.0, (known_iff (λ p. p.id) l.to packages).0 both.1),
  λ h. both_hold (is_package_id packages l.from) (is_package_id packages l.to) ((known_iff (λ p. p.id) l.from packages).1 h.0, (known_iff (λ p. p.id) l.to packages).1 h.1),
)

lines_iff : (n : ℕ) → ((n == 0) ≡ false) ↔ (0 < n)
lines_iff zero = (λ e. absurd (true≢false e), λ lt. absurd (omega arith))
lines_iff (suc n) = (λ e. omega arith, λ lt. eqb-suc-zero n)

none_iff : {A : Type 0} (o : Option A) → (not (is_none o) ≡ false) ↔ (o ≡ None)
none_iff None = (λ e. refl, λ e. refl)
none_iff (Some a) = (λ e. absurd (true≢false e), λ e. absurd cc)

earlier_iff : (a b : Option ℕ) → (earlier a b ≡ None) ↔ ((a ≡ None) × (b ≡ None))
earlier_iff None b = (λ e. (refl, e), λ h. h.1)
earlier_iff (Some a) None = (λ e. absurd cc, λ h. absurd cc)
earlier_iff (Some a) (Some b) = (λ e. absurd cc, λ h. absurd cc)

all_true : (a b : Bool) → (a && b) ≡ true → (a ≡ true) × (b ≡ true)
all_true true b e = (refl, e)
all_true false b e = absurd (true≢false (sym e))

all_hold : (a b : Bool) → a ≡ true → b ≡ true → (a && b) ≡ true
all_hold true b h e = e
all_hold false b h e = absurd (true≢false (sym h))

keys_tell : (a b : Text × Text × Text) → Decides (same_key a b) (a ≡ b)
keys_tell a b =
    let first = bytes_eq-Decides a.0 b.0 in
    let second = bytes_eq-Decides a.1 b.1 in
    let third = bytes_eq-Decides a.2 b.2 in (
      λ e. let two = all_true (bytes_eq a.0 b.0 && bytes_eq a.1 b.1) (bytes_eq a.2 b.2) e in let one = all_true (bytes_eq a.0 b.0) (bytes_eq a.1 b.1) two.0 in let p = first.0 one.0 in let q = second.0 one.1 in let r = third.0 two.1 in λ i. (p i, q i, r i),
      λ e. all_hold _ _ (all_hold _ _ (first.1 (ap (λ k. k.0) e)) (second.1 (ap (λ k. k.1) e))) (third.1 (ap (λ k. k.2) e)),
    )

paths_tell : (a b : Text) → Decides (eq_by_cmp path_cmp a b) (components a ≡ components b)
paths_tell a b =
    let equal = Equal-is (path_cmp a b) in (λ e. same_components a b (equal.0 e), λ e. equal.1 (tied a b e))

module _ (packages : List Package) (links : List Link) (workspace : WorkspaceDetails) where
  versions_iff : (position (λ p. not (is_version p.version)) packages ≡ None) ↔ All (λ p. IsVersion p.version) packages
  versions_iff = position_iff (λ p. not (is_version p.version)) (λ p. IsVersion p.version) (λ p. read_iff (version_parts p.version)) packages

  requirements_iff : (position (λ l. not (is_requirement l.requirement)) links ≡ None) ↔ All (λ l. IsRequirement l.requirement) links
  requirements_iff = position_iff (λ l. not (is_requirement l.requirement)) (λ l. IsRequirement l.requirement) (λ l. read_iff (req_of l.requirement)) links

  link_ends_iff : (position (λ l. not (is_package_id packages l.from && is_package_id packages l.to)) links ≡ None) ↔ All (λ l. IsPackageId packages l.from × IsPackageId packages l.to) links
  link_ends_iff = position_iff (λ l. not (is_package_id packages l.from && is_package_id packages l.to)) (λ l. IsPackageId packages l.from × IsPackageId packages l.to) (ends_iff packages) links

  link_lines_iff : (position (λ l. length l.lines == 0) links ≡ None) ↔ All (λ l. 0 < length l.lines) links
  link_lines_iff = position_iff (λ l. length l.lines == 0) (λ l. 0 < length l.lines) (λ l. lines_iff (length l.lines)) links

  members_iff : (position (λ id. not (is_package_id packages id)) (map (λ m. m.package_id) workspace.members) ≡ None) ↔ All (λ m. IsPackageId packages m.package_id) workspace.members
  members_iff = subst (λ first. (first ≡ None) ↔ All (λ m. IsPackageId packages m.package_id) workspace.members) (sym (position-map (λ id. not (is_package_id packages id)) (λ m. m.package_id) workspace.members)) (position_iff (λ m. not (is_package_id packages m.package_id)) (λ m. IsPackageId packages m.package_id) (λ m. unknown_iff (λ p. p.id) m.package_id packages) workspace.members)

  defaults_iff : (position (λ id. not (is_member_id workspace id)) workspace.default_members ≡ None) ↔ All (IsMemberId workspace) workspace.default_members
  defaults_iff = position_iff (λ id. not (is_member_id workspace id)) (IsMemberId workspace) (λ id. unknown_iff (λ m. m.package_id) id workspace.members) workspace.default_members

  one_targets_iff : (p : Package) → (not (has_distinct_targets p) ≡ false) ↔ AllPairs (λ a b. target_key a.kind a.name ≢ target_key b.kind b.name) p.targets
  one_targets_iff p =
      let none = none_iff (first_repeat bytes_eq (map (λ t. target_key t.kind t.name) p.targets)) in
      let apart = mapped_iff (λ (t : Target). target_key t.kind t.name) bytes_eq (λ k. k) bytes_eq-Decides p.targets in
      (λ e. apart.0 (none.0 e), λ h. none.1 (apart.1 h))

  targets_iff : (position (λ p. not (has_distinct_targets p)) packages ≡ None) ↔ All (λ p. AllPairs (λ a b. target_key a.kind a.name ≢ target_key b.kind b.name) p.targets) packages
  targets_iff = position_iff (λ p. not (has_distinct_targets p)) (λ p. AllPairs (λ a b. target_key a.kind a.name ≢ target_key b.kind b.name) p.targets) one_targets_iff packages

  -- rows break no rule exactly where they are kept
  pub kept_iff : (first_fault (first_broken packages links workspace) package_rules ≡ None) ↔ AreKept packages links workspace
  kept_iff =
      let all = fault_iff (first_broken packages links workspace) package_rules in
      let ids = mapped_iff (λ (p : Package). p.id) bytes_eq (λ t. t) bytes_eq-Decides packages in
      let keys = mapped_iff link_key same_key (λ k. k) keys_tell links in
      let both = earlier_iff (position (λ id. not (is_package_id packages id)) (map (λ m. m.package_id) workspace.members)) (first_repeat bytes_eq (map (λ m. m.package_id) workspace.members)) in
      let member_ids = mapped_iff (λ (m : Member). m.package_id) bytes_eq (λ t. t) bytes_eq-Decides workspace.members in
      let names = mapped_iff (member_name packages) bytes_eq (λ t. t) bytes_eq-Decides workspace.members in
      let paths = mapped_iff (λ (m : Member). m.path) (eq_by_cmp path_cmp) components paths_tell workspace.members in (
        λ e. let h = all.0 e in record {
          ids_apart = ids.0 h.0;
          versions_read = versions_iff.0 h.1.0;
          ends_known = link_ends_iff.0 h.1.1.0;
          links_apart = keys.0 h.1.1.1.0;
          links_have_lines = link_lines_iff.0 h.1.1.1.1.0;
          requirements_read = requirements_iff.0 h.1.1.1.1.1.0;
          members_known = members_iff.0 (both.0 h.1.1.1.1.1.1.0).0;
          members_apart = member_ids.0 (both.0 h.1.1.1.1.1.1.0).1;
          member_names_apart = names.0 h.1.1.1.1.1.1.1.0;
          member_paths_apart = paths.0 h.1.1.1.1.1.1.1.1.0;
          defaults_are_members = defaults_iff.0 h.1.1.1.1.1.1.1.1.1.0;
          targets_apart = targets_iff.0 h.1.1.1.1.1.1.1.1.1.1.0;
        },
        λ k. all.1 (ids.1 k.ids_apart, (versions_iff.1 k.versions_read, (link_ends_iff.1 k.ends_known, (keys.1 k.links_apart, (link_lines_iff.1 k.links_have_lines, (requirements_iff.1 k.requirements_read, (both.1 (members_iff.1 k.members_known, member_ids.1 k.members_apart), (names.1 k.member_names_apart, (paths.1 k.member_paths_apart, (defaults_iff.1 k.defaults_are_members, (targets_iff.1 k.targets_apart, tt))))))))))),
      )
