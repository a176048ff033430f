-- The rules that hold under each choice are those of a record that have a premise.
use Rattle.std.proofs.Common.{◌≡◌, ◌≢◌, Bool, true, false, cond, List, [], ◌∷◌, ◌++◌, map, find, flat_map, AllPairs, Contains, Option, Some, None, is_some, refl, sym, ◌∙◌, ap, subst, ⊎_elim}
use Rattle.std.specs.Str.{bytes_eq}
use Rattle.std.proofs.lemmas.Slice.Eq.{bytes_eq-Decides}
use Rattle.list_facts.proofs.Membership.{Contains-none, Contains-first, Contains-rest, Contains-cons_cases, Contains-append_left, Contains-append_right, Contains-append_cases, Contains-map_cases, Contains-flat_map, Contains-flat_map_cases}
use Rattle.list_facts.proofs.Quantifiers.{list_any-from_Contains}
use Rattle.workspace_record.proofs.PackageFacts.{some-find}
use Rattle.workspace_record.specs.Records.{Text, Link, Package, Workspace}
use Rattle.workspace_record.specs.Features.{FeatureValue}
use Rattle.workspace_record.specs.Choices.{Choice}
use Rattle.workspace_record.specs.declared.choice.PlatformTable.{PlatformTable}
use Rattle.workspace_record.specs.declared.kinds.Standard.TheVariants as standard
use Rattle.workspace_record.specs.Entries.{EntryValue, OwnFeature, Dependency, Strong, Weak, entry_value}
use Rattle.feature_account_rules.specs.IsRule.{IsFound, IsRule}
use Rattle.feature_account_rules.specs.Lines.{package_of, first_of_each, counting_lines}
use Rattle.feature_account_rules.specs.RuleList.{base_of, base_rules, both_imply, chosen_features, dep_of, entry_rules, feature_rules, given, has_feature, has_optional, implies, line_features, line_rules, line_start, link_rules, named_of, own_features, rules_of_entry, slash_lines, strong_features, weak_rule, weak_rules}
use Rattle.feature_account_rules.specs.declared.rule.Premises.TheVariants as premises
use Rattle.feature_account_rules.specs.declared.rule.Rule.{Rule}
use Rattle.feature_account_rules.proofs.LineFacts.{Contains-first_of_each, finds-first_of_each}
use Rattle.feature_account_rules.proofs.RuleFacts.{rule_list_iff}
use Rattle.test_select_feature_laws.specs.Rules.{standing_rules}
use Rattle.test_select_feature_laws.proofs.RecordFacts.{same_by_name}

-- nothing is chosen
abbrev pub no_choice : Choice
no_choice = record { standard = standard.None; extras = [] }

-- what is found is listed, and passes
find_cases : {X : Type 0} (test : X → Bool) (xs : List X) (x : X) → find test xs ≡ Some x → Contains xs x × (test x ≡ true)
find_cases test [] x h = absurd cc
find_cases test (y ∷ ys) x h = by (test y) refl (find_cases test ys x) h
  where
    by : (b : Bool) → test y ≡ b → (find test ys ≡ Some x → Contains ys x × (test x ≡ true)) → cond b (Some y) (find test ys) ≡ Some x → Contains (y ∷ ys) x × (test x ≡ true)
    by true pass later e = let same : y ≡ x = cc in (subst (Contains (y ∷ ys)) same (Contains-first y ys), subst (λ z. test z ≡ true) same pass)
    by false fail later e = let found = later e in (Contains-rest y ys x found.0, found.1)

-- what is there is something
some_of : {X : Type 0} (o : Option X) → is_some o ≡ true → (x : X) × (o ≡ Some x)
some_of None h = absurd cc
some_of (Some x) h = (x, refl)

-- the rule has a premise
abbrev HasPremise : Rule → Type 0
HasPremise r = r.premises ≡ premises.None → ⊥

-- a rule with one premise, or with two, has a premise
one_premise : (f g : FeatureValue) → HasPremise (implies f g)
one_premise f g e = absurd cc

two_premises : (f g h : FeatureValue) → HasPremise (both_imply f g h)
two_premises f g h e = absurd cc

-- rules made alike have premises if each that is made so has one
made_alike : {X : Type 0} (make : X → Rule) (xs : List X) (r : Rule) → ((x : X) → HasPremise (make x)) → Contains (map make xs) r → HasPremise r
made_alike make xs r each h = let found = Contains-map_cases make xs r h in subst HasPremise found.2 (each found.0)

-- so has a rule that stands alone under a test
under_test : (b : Bool) (x r : Rule) → HasPremise x → Contains (cond b (x ∷ []) []) r → HasPremise r
under_test true x r some h = ⊎_elim (λ e. subst HasPremise e some) (λ none. absurd (Contains-none r none)) (Contains-cons_cases x [] r h)
under_test false x r some h = absurd (Contains-none r h)

-- the rule of a weak entry has a premise, whether the line is optional or not
weak_has : (f g target : FeatureValue) (optional : Bool) → HasPremise (cond optional (both_imply f g target) (implies f target))
weak_has f g target true = two_premises f g target
weak_has f g target false = one_premise f target

-- each rule of a package's features has a premise
base_has : (p : Package) (r : Rule) → Contains (base_rules p) r → HasPremise r
base_has p r h = made_alike (λ f. implies f (base_of p.id)) (own_features p) r (λ f. one_premise f (base_of p.id)) h

module _ (w : Workspace) (table : PlatformTable) where
  -- each rule of an entry has a premise
  entry_has : (p : Package) (f : FeatureValue) (v : EntryValue) (r : Rule) → Contains (rules_of_entry w table p f v) r → HasPremise r
  entry_has p f (OwnFeature name) r h = under_test (has_feature p name) (implies f (named_of p.id name)) r (one_premise f (named_of p.id name)) h
  entry_has p f (Dependency name) r h = under_test (has_optional p name) (implies f (dep_of p.id name)) r (one_premise f (dep_of p.id name)) h
  entry_has p f (Strong name x) r h = made_alike (implies f) (strong_features w table p name x) r (one_premise f) h
  entry_has p f (Weak name x) r h =
      let (link, hl, hr) = Contains-flat_map_cases (weak_rules w table p f name x) w.links r h in
      made_alike (weak_rule f p name (named_of link.to x)) (slash_lines w table p name x link) r (λ line. weak_has f (dep_of p.id name) (named_of link.to x) line.optional) hr

  -- each rule of a package's entries has a premise
  entries_have : (p : Package) (r : Rule) → Contains (entry_rules w table p) r → HasPremise r
  entries_have p r h =
      let (f, hf, hr) = Contains-flat_map_cases (feature_rules w table p) p.features r h in
      let (e, he, hv) = Contains-flat_map_cases (λ e. rules_of_entry w table p (named_of p.id f.name) (entry_value e)) f.enables r hr in
      entry_has p (named_of p.id f.name) (entry_value e) r hv

  -- each rule of a link has a premise
  link_has : (link : Link) (r : Rule) → Contains (link_rules w table link) r → HasPremise r
  link_has link r h =
      let (line, hl, hr) = Contains-flat_map_cases (line_rules w link) (counting_lines w table link) r h in
      made_alike (implies (line_start link line)) (line_features w link line) r (one_premise (line_start link line)) hr

module _ (w : Workspace) (apart : AllPairs (λ a b. a.id ≢ b.id) w.packages) where
  -- the package that an id finds is listed, and has the id
  pub found_cases : (id : Text) (p : Package) → package_of w id ≡ Some p → Contains w.packages p × (p.id ≡ id)
  found_cases id p found =
      let (listed, same) = find_cases (λ q. bytes_eq id q.id) w.packages p found in
      (listed, sym ((bytes_eq-Decides id p.id).0 same))

  -- each package is the one that its id finds
  pub found_alone : (p : Package) → Contains w.packages p → IsFound w p
  found_alone p listed =
      let test = λ (q : Package). bytes_eq p.id q.id in
      let (q, found) = some_of (find test w.packages) (some-find test w.packages ∙ list_any-from_Contains test w.packages p listed ((bytes_eq-Decides p.id p.id).1 refl)) in
      let (there, same) = found_cases p.id q found in
      found ∙ ap Some (same_by_name (λ x. x.id) w.packages apart q p there listed same)

  -- what the packages have, the first of each id have
  of_first : (F : Package → List Rule) (r : Rule) → Contains (flat_map F w.packages) r → Contains (flat_map F (first_of_each w.packages)) r
  of_first F r h =
      let (p, listed, hr) = Contains-flat_map_cases F w.packages r h in
      Contains-flat_map F (first_of_each w.packages) p r (Contains-first_of_each w.packages p (found_alone p listed)) hr

  -- what the first of each id have, the packages have
  of_each : (F : Package → List Rule) (r : Rule) → Contains (flat_map F (first_of_each w.packages)) r → Contains (flat_map F w.packages) r
  of_each F r h =
      let (p, first, hr) = Contains-flat_map_cases F (first_of_each w.packages) r h in
      Contains-flat_map F w.packages p r (found_cases p.id p (finds-first_of_each w.packages p first)).0 hr

  module _ (table : PlatformTable) where
    abbrev given_rules : List Rule
    given_rules = map given (chosen_features w no_choice)

    abbrev links : List Rule
    links = flat_map (link_rules w table) w.links

    abbrev all_of : (Package → List Rule) → List Rule
    all_of F = flat_map F w.packages

    abbrev first_of : (Package → List Rule) → List Rule
    first_of F = flat_map F (first_of_each w.packages)

    abbrev pub first_rules : List Rule
    first_rules = first_of base_rules ++ (first_of (entry_rules w table) ++ links)

    -- what holds of the packages' rules, their entries' and the links' holds of each
    each_rule : (P : Rule → Type 0) (r : Rule) → (Contains (all_of base_rules) r → P r) → (Contains (all_of (entry_rules w table)) r → P r) → (Contains links r → P r) → Contains (standing_rules w table) r → P r
    each_rule P r base entry link h =
        ⊎_elim base (λ rest. ⊎_elim entry link (Contains-append_cases (all_of (entry_rules w table)) links r rest)) (Contains-append_cases (all_of base_rules) (all_of (entry_rules w table) ++ links) r h)

    -- what holds under each choice is a rule of the first packages of each id, or of a link
    pub to_first : (r : Rule) → Contains (standing_rules w table) r → Contains first_rules r
    to_first r h =
        let rest = first_of (entry_rules w table) ++ links in
        each_rule (Contains first_rules) r
        (λ b. Contains-append_left (first_of base_rules) rest r (of_first base_rules r b))
        (λ e. Contains-append_right (first_of base_rules) rest r (Contains-append_left (first_of (entry_rules w table)) links r (of_first (entry_rules w table) r e)))
        (λ l. Contains-append_right (first_of base_rules) rest r (Contains-append_right (first_of (entry_rules w table)) links r l))
        h

    -- each of those holds under each choice
    pub from_first : (r : Rule) → Contains first_rules r → Contains (standing_rules w table) r
    from_first r h =
        let rest = all_of (entry_rules w table) ++ links in
        ⊎_elim
        (λ b. Contains-append_left (all_of base_rules) rest r (of_each base_rules r b))
        (λ b. Contains-append_right (all_of base_rules) rest r (⊎_elim
        (λ e. Contains-append_left (all_of (entry_rules w table)) links r (of_each (entry_rules w table) r e))
        (λ l. Contains-append_right (all_of (entry_rules w table)) links r l)
        (Contains-append_cases (first_of (entry_rules w table)) links r b)))
        (Contains-append_cases (first_of base_rules) (first_of (entry_rules w table) ++ links) r h)

    -- each rule with a premise holds under each choice
    pub standing : (r : Rule) → IsRule w no_choice table r → (r.premises ≡ premises.None → ⊥) → Contains (standing_rules w table) r
    standing r is some =
        ⊎_elim (λ g. let f = Contains-map_cases given (chosen_features w no_choice) r g in absurd (some (ap (λ (x : Rule). x.premises) (sym f.2)))) (from_first r) (Contains-append_cases given_rules first_rules r ((rule_list_iff w no_choice table r).1 is))

    -- what holds under each choice is a rule
    pub standing_cases : (r : Rule) → Contains (standing_rules w table) r → IsRule w no_choice table r
    standing_cases r h = (rule_list_iff w no_choice table r).0 (Contains-append_right given_rules first_rules r (to_first r h))

    -- it has a premise
    pub has_premise : (r : Rule) → Contains (standing_rules w table) r → r.premises ≡ premises.None → ⊥
    has_premise r h none =
        each_rule HasPremise r (λ b. let found = Contains-flat_map_cases base_rules w.packages r b in base_has found.0 r found.2)
        (λ e. let found = Contains-flat_map_cases (entry_rules w table) w.packages r e in entries_have w table found.0 r found.2)
        (λ l. let found = Contains-flat_map_cases (link_rules w table) w.links r l in link_has w table found.0 r found.2) h none
