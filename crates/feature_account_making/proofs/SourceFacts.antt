-- Rules with their sources are the rules.
use Rattle.std.proofs.Common.{◌≡◌, List, [], ◌∷◌, ◌++◌, map, refl, ◌∙◌, ap, flat_map}
use Rattle.std.proofs.lemmas.List.{map-append}
use Rattle.workspace_record.specs.Records.{FeatureEntry, Package, Workspace}
use Rattle.workspace_record.specs.Choices.{Choice}
use Rattle.workspace_record.specs.declared.choice.PlatformTable.{PlatformTable}
use Rattle.workspace_record.specs.Entries.{entry_value}
use Rattle.feature_account_rules.specs.Lines.{first_of_each}
use Rattle.feature_account_rules.specs.RuleList.{base_rules, chosen_features, entry_rules, feature_rules, given, link_rules, named_of, rule_list, rules_of_entry}
use Rattle.feature_account_rules.specs.declared.rule.Rule.{Rule}
use Rattle.feature_account_making.specs.Sources.{Source, Sourced, Chosen, OfPackage, OfEntry, OfLine, from_source, sourced_entries, sourced_entry, sourced_feature, sourced_link, sourced_package, sourced_rules}

abbrev rule_in : Sourced → Rule
rule_in r = r.rule

from_source_rules : (source : Source) (rules : List Rule) → map rule_in (from_source source rules) ≡ rules
from_source_rules source [] = refl
from_source_rules source (r ∷ rs) = ap (λ l. r ∷ l) (from_source_rules source rs)

-- lists that are made part by part
module _ {X : Type 0} (F : X → List Sourced) (G : X → List Rule) (same : (x : X) → map rule_in (F x) ≡ G x) where
  flat_rules : (xs : List X) → map rule_in (flat_map F xs) ≡ flat_map G xs
  flat_rules [] = refl
  flat_rules (x ∷ xs) =
      map-append rule_in (F x) (flat_map F xs) ∙ ap (λ l. l ++ map rule_in (flat_map F xs)) (same x) ∙ ap (λ l. G x ++ l) (flat_rules xs)

both_rules : (a b : List Sourced) (c d : List Rule) → map rule_in a ≡ c → map rule_in b ≡ d → map rule_in (a ++ b) ≡ c ++ d
both_rules a b c d p q = map-append rule_in a b ∙ ap (λ l. l ++ map rule_in b) p ∙ ap (λ l. c ++ l) q

module _ (w : Workspace) (table : PlatformTable) where
  of_feature : (p : Package) (f : FeatureEntry) → map rule_in (sourced_feature w table p f) ≡ feature_rules w table p f
  of_feature p f =
      flat_rules (sourced_entry w table p f) (λ e. rules_of_entry w table p (named_of p.id f.name) (entry_value e)) (λ e. from_source_rules (OfEntry p.id f.name e) (rules_of_entry w table p (named_of p.id f.name) (entry_value e))) f.enables

  of_entries : (p : Package) → map rule_in (sourced_entries w table p) ≡ entry_rules w table p
  of_entries p = flat_rules (sourced_feature w table p) (feature_rules w table p) (of_feature p) p.features

pub sourced_as_listed : (w : Workspace) (choice : Choice) (table : PlatformTable) → map rule_in (sourced_rules w choice table) ≡ rule_list w choice table
sourced_as_listed w choice table =
    let packages = first_of_each w.packages in
    let chosen = from_source_rules Chosen (map given (chosen_features w choice)) in
    let bases = flat_rules sourced_package base_rules (λ p. from_source_rules OfPackage (base_rules p)) packages in
    let entries = flat_rules (sourced_entries w table) (entry_rules w table) (of_entries w table) packages in
    let links = flat_rules (sourced_link w table) (link_rules w table) (λ link. from_source_rules (OfLine link.from link.name) (link_rules w table link)) w.links in
    both_rules _ _ _ _ chosen (both_rules _ _ _ _ bases (both_rules _ _ _ _ entries links))
