-- The first fault, where the rules are tested in parts.
use Rattle.std.proofs.Common.{◌≡◌, ℕ, List, [], ◌∷◌, ◌++◌, Option, Some, None, ap, refl, sym, subst, ◌∙◌}
use Rattle.std.specs.Option.{option_map, option_map_or}
use Rattle.workspace_record.specs.Records.{Package, Link, WorkspaceDetails}
use Rattle.guppy_package_rules.specs.Refusals.{IsRefusal, Names}
use Rattle.guppy_package_rules.specs.Rules.{first_broken, first_fault, package_rules}
use Rattle.guppy_package_rules.specs.declared.package_graph_error.PackageGraphError.{PackageGraphError}
use Rattle.guppy_package_rules.specs.declared.package_graph_error.PackageGraphError.TheVariants.{Broken, Memory}
use Rattle.guppy_package_rules.specs.declared.record_rule.RecordRule.{RecordRule}
use Rattle.guppy_package_rules.proofs.KeptFacts.{fault_here}

-- a rule with its place, or what comes after it
abbrev or_else : RecordRule → Option ℕ → Option (RecordRule × ℕ) → Option (RecordRule × ℕ)
or_else rule a b = option_map_or (λ place. Some (rule, place)) a b

here : (rule : RecordRule) (a : Option ℕ) (fault : RecordRule × ℕ) (b : Option (RecordRule × ℕ)) → option_map (λ p. (rule, p)) a ≡ Some fault → or_else rule a b ≡ Some fault
here rule None fault b e = absurd cc
here rule (Some place) fault b e = e

stays : (rule : RecordRule) (a : Option ℕ) (b c : Option (RecordRule × ℕ)) (fault : RecordRule × ℕ) → (b ≡ Some fault → c ≡ Some fault) → or_else rule a b ≡ Some fault → or_else rule a c ≡ Some fault
stays rule None b c fault later e = later e
stays rule (Some place) b c fault later e = e

module _ (place_of : RecordRule → Option ℕ) where
  -- where none of the first rules is broken, the others tell the fault
  pub passed : (xs ys : List RecordRule) → first_fault place_of xs ≡ None → first_fault place_of (xs ++ ys) ≡ first_fault place_of ys
  passed [] ys none = refl
  passed (x ∷ xs) ys none =
      let both = (fault_here x (place_of x) (first_fault place_of xs)).0 none in
      ap (λ a. or_else x a (first_fault place_of (xs ++ ys))) both.0 ∙ passed xs ys both.1

  told : (xs ys : List RecordRule) (fault : RecordRule × ℕ) → first_fault place_of xs ≡ Some fault → first_fault place_of (xs ++ ys) ≡ Some fault
  told [] ys fault e = absurd cc
  told (x ∷ xs) ys fault e = stays x (place_of x) (first_fault place_of xs) (first_fault place_of (xs ++ ys)) fault (told xs ys fault) e

  -- an error that names the fault of the first rules names that of all
  pub names_first : (xs ys : List RecordRule) (e : PackageGraphError) → Names (first_fault place_of xs) e → Names (first_fault place_of (xs ++ ys)) e
  names_first xs ys Memory h = tt
  names_first xs ys (Broken rule place) h = told xs ys (rule, place) h

  -- so does one that names the first of them
  pub names_rule : (rule : RecordRule) (rules : List RecordRule) (e : PackageGraphError) (a : Option ℕ) → a ≡ place_of rule → Names (option_map (λ p. (rule, p)) a) e → Names (first_fault place_of (rule ∷ rules)) e
  names_rule rule rules Memory a is h = tt
  names_rule rule rules (Broken r place) a is h = here rule (place_of rule) (r, place) (first_fault place_of rules) (ap (option_map (λ p. (rule, p))) (sym is) ∙ h)

  -- and one that names the fault of the others, where none of the first is broken
  pub names_later : (xs ys : List RecordRule) (e : PackageGraphError) → first_fault place_of xs ≡ None → Names (first_fault place_of ys) e → Names (first_fault place_of (xs ++ ys)) e
  names_later xs ys e none h = subst (λ f. Names f e) (sym (passed xs ys none)) h

  -- or of those behind a rule that is kept
  pub names_next : (rule : RecordRule) (rules : List RecordRule) (e : PackageGraphError) → place_of rule ≡ None → Names (first_fault place_of rules) e → Names (first_fault place_of (rule ∷ rules)) e
  names_next rule rules e free told = names_later (rule ∷ []) rules e (ap (λ a. or_else rule a None) free) told

  -- a rule is kept, and so are the others
  pub none_next : (rule : RecordRule) (rules : List RecordRule) → place_of rule ≡ None → first_fault place_of rules ≡ None → first_fault place_of (rule ∷ rules) ≡ None
  none_next rule rules free none = ap (λ a. or_else rule a (first_fault place_of rules)) free ∙ none

-- what names the first fault of rows is their refusal
pub refusal : (packages : List Package) (links : List Link) (workspace : WorkspaceDetails) (e : PackageGraphError) → Names (first_fault (first_broken packages links workspace) package_rules) e → IsRefusal packages links workspace e
refusal packages links workspace (Broken rule place) h = h
refusal packages links workspace Memory h = tt
