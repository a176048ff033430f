-- What a record that breaks no rule is like.
use Rattle.std.proofs.Common.{◌≡◌, Bool, true, false, not, ◌||◌, List, map, position, get_or, Option, Some, None, is_none, All, Contains, refl, sym, ap, subst, ◌∙◌, true≢false}
use Rattle.std.specs.List.{AllByRecursion}
use Rattle.std.specs.Option.{option_map_or, option_or}
use Rattle.std.specs.Str.{bytes_eq}
use Rattle.std.proofs.lemmas.Bool.{and_parts, not-false, not_from_true}
use Rattle.std.proofs.lemmas.Slice.Eq.{bytes_eq-Decides}
use Rattle.list_facts.proofs.Quantifiers.{list_any-from_Contains, list_any_cases}
use Rattle.workspace_record.specs.Records.{FeatureEntry, Line, Link, Package, Workspace}
use Rattle.workspace_record.specs.Packages.{has_optional, package_of}
use Rattle.guppy_package_rules.specs.Kept.{AreKept}
use Rattle.guppy_package_rules.specs.Rules.{first_broken, first_fault, is_distinct, package_rules}
use Rattle.guppy_package_rules.proofs.KeptFacts.{fault_iff, kept_iff, mapped_iff, position_iff, repeat_iff}
use Rattle.test_select_rules.specs.RecordRules.{fault_of, further_broken, further_rules, has_distinct_features, has_optional_line, has_optional_name, names_its_optional_lines}
use Rattle.test_select_feature_laws.specs.RecordGraphs.{HasDistinctFeatures, HasOptionalNames}
use Rattle.test_select_feature_laws.proofs.StandingFacts.{found_alone}

both_none : {A : Type 0} (a b : Option A) → option_or a b ≡ None → (a ≡ None) × (b ≡ None)
both_none None b e = (refl, e)
both_none (Some x) b e = absurd cc

none_there : {A : Type 0} (o : Option A) → is_none o ≡ true → o ≡ None
none_there None e = refl
none_there (Some x) e = absurd (true≢false (sym e))

-- of two of which one holds, the second where the first does not
second_of : (a b : Bool) → (not a || b) ≡ true → a ≡ true → b ≡ true
second_of true b e h = e
second_of false b e h = absurd (true≢false (sym h))

-- each element passes a test, where there is no first one that fails it
pub each_passes : {X : Type 0} (test : X → Bool) (xs : List X) → position (λ x. not (test x)) xs ≡ None → All (λ x. test x ≡ true) xs
each_passes test xs none = (position_iff (λ x. not (test x)) (λ x. test x ≡ true) (λ x. (not-false (test x), not_from_true (test x))) xs).0 none

-- a package that passes the test has no name twice
distinct_in : (p : Package) → has_distinct_features p ≡ true → HasDistinctFeatures p
distinct_in p h =
    let both = and_parts (is_distinct (map (λ (f : FeatureEntry). f.name) p.features)) (is_distinct p.optional) h in
    record {
      features = (mapped_iff (λ (f : FeatureEntry). f.name) bytes_eq (λ t. t) bytes_eq-Decides p.features).0 (none_there _ both.0);
      optional = (repeat_iff bytes_eq (λ t. t) bytes_eq-Decides p.optional).0 (none_there _ both.1);
    }

module _ (w : Workspace) (kept : fault_of w ≡ None) where
  none : (first_fault (first_broken w.packages w.links w.workspace) package_rules ≡ None) × (first_fault (further_broken w) further_rules ≡ None)
  none = both_none (first_fault (first_broken w.packages w.links w.workspace) package_rules) (first_fault (further_broken w) further_rules) kept

  further : AllByRecursion (λ rule. further_broken w rule ≡ None) further_rules
  further = (fault_iff (further_broken w) further_rules).0 none.1

  pub rows_kept : AreKept w.packages w.links w.workspace
  rows_kept = (kept_iff w.packages w.links w.workspace).0 none.0

  pub features_distinct : All HasDistinctFeatures w.packages
  features_distinct k d lt = distinct_in (get_or w.packages k d) (each_passes has_distinct_features w.packages further.1.0 k d lt)

  -- a link that passes the test has its name where an optional line stands
  named : (l : Link) → names_its_optional_lines w l ≡ true → HasOptionalNames w.packages l
  named l keeps p listed same line has optional =
      let some : has_optional_line l ≡ true = list_any-from_Contains (λ (x : Line). x.optional) l.lines line has optional in
      let name : has_optional_name w l ≡ true = second_of (has_optional_line l) (has_optional_name w l) keeps some in
      let found : package_of w l.from ≡ Some p = ap (package_of w) (sym same) ∙ found_alone w rows_kept.ids_apart p listed in
      let of_p : has_optional p l.name ≡ true = sym (ap (λ (o : Option Package). option_map_or (λ q. has_optional q l.name) o false) found) ∙ name in
      let (x, there, equal) = list_any_cases (bytes_eq l.name) p.optional of_p in
      subst (Contains p.optional) (sym ((bytes_eq-Decides l.name x).0 equal)) there

  pub optional_named : All (HasOptionalNames w.packages) w.links
  optional_named k d lt = named (get_or w.links k d) (each_passes (names_its_optional_lines w) w.links further.0 k d lt)
