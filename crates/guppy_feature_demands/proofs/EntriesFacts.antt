-- What is said of the entries one by one is what is said of their packages.
use Rattle.std.proofs.Common.{◌≡◌, ◌∙◌, ℕ, ◌+◌, List, [], ◌∷◌, ◌++◌, ap, flat_map, refl}
use Rattle.list_facts.proofs.Lists.{flat_map-flat_map, flat_map-map}
use Rattle.workspace_record.specs.Records.{FeatureEntry, Link, Package}
use Rattle.guppy_package_parts.specs.Warnings.{Warning}
use Rattle.workspace_record.specs.Features.{FeatureValue}
use Rattle.guppy_feature_demands.specs.Demands.{NumberedValue, base_demands, demands_of, kept_demands, link_demands, package_demands, same_name}
use Rattle.workspace_record.specs.Entries.{entry_value}
use Rattle.guppy_feature_demands.specs.EntriesAt.{EntryPlace, at_demands, at_warnings, feature_entries, package_entries}
use Rattle.guppy_feature_demands.specs.Nodes.{first_of_each, nodes_of}
use Rattle.guppy_feature_demands.specs.Numbered.{numbered, numbered_from}
use Rattle.guppy_feature_demands.specs.Warnings.{link_warnings, package_warnings, warnings_of}

module _ {Y : Type 0} (say : EntryPlace → List Y) where
  each_said : (p : Package) → flat_map say (package_entries p) ≡ flat_map (λ (f : FeatureEntry). flat_map (λ e. say (record { package_id = p.id; feature = f.name; entry = entry_value e })) f.enables) (first_of_each same_name p.features)
  each_said p =
      flat_map-flat_map say (feature_entries p.id) (first_of_each same_name p.features) ∙ (λ j. flat_map (λ (f : FeatureEntry). flat_map-map say (λ e. record { package_id = p.id; feature = f.name; entry = entry_value e }) f.enables j) (first_of_each same_name p.features))

  all_said : (ps : List Package) → flat_map say (flat_map package_entries ps) ≡ flat_map (λ p. flat_map (λ (f : FeatureEntry). flat_map (λ e. say (record { package_id = p.id; feature = f.name; entry = entry_value e })) f.enables) (first_of_each same_name p.features)) ps
  all_said ps = flat_map-flat_map say package_entries ps ∙ (λ j. flat_map (λ p. each_said p j) ps)

pub demands_by_entries : (nodes : List FeatureValue) (links : List (ℕ × Link)) (ps : List Package) → flat_map (at_demands nodes links) (flat_map package_entries ps) ≡ flat_map (package_demands nodes links) ps
demands_by_entries nodes links ps = all_said (at_demands nodes links) ps

warnings_by_entries : (nodes : List FeatureValue) (links : List (ℕ × Link)) (ps : List Package) → flat_map (at_warnings nodes links) (flat_map package_entries ps) ≡ flat_map (package_warnings nodes links) ps
warnings_by_entries nodes links ps = all_said (at_warnings nodes links) ps

links_from : (nodes : List FeatureValue) (n : ℕ) (links : List Link) → flat_map (λ (link : ℕ × Link). link_warnings nodes link.1) (numbered_from n links) ≡ flat_map (link_warnings nodes) links
links_from nodes n [] = refl
links_from nodes n (link ∷ links) = ap (λ ws. link_warnings nodes link ++ ws) (links_from nodes (n + 1) links)

warnings_by_links : (nodes : List FeatureValue) (links : List Link) → flat_map (λ (link : ℕ × Link). link_warnings nodes link.1) (numbered links) ≡ flat_map (link_warnings nodes) links
warnings_by_links nodes links = links_from nodes 0 links

-- the warnings of entries and links are those of their rows
pub warned : (ns : List FeatureValue) (ls : List (ℕ × Link)) (es : List EntryPlace) (ps : List Package) (rows : List Link) (ws : List Warning) → ns ≡ nodes_of ps → ls ≡ numbered rows → es ≡ flat_map package_entries ps → ws ≡ flat_map (at_warnings ns ls) es ++ flat_map (λ link. link_warnings ns link.1) ls → ws ≡ warnings_of ps rows
warned ns ls es ps rows ws nodes links entries is =
    is ∙ (λ i. flat_map (at_warnings (nodes i) (links i)) (entries i) ++ flat_map (λ (link : ℕ × Link). link_warnings (nodes i) link.1) (links i)) ∙ (λ i. warnings_by_entries (nodes_of ps) (numbered rows) ps i ++ warnings_by_links (nodes_of ps) rows i)

-- the demands of entries and links are those of their rows
pub demanded : (ns : List FeatureValue) (ls : List (ℕ × Link)) (es : List EntryPlace) (ps : List Package) (rows : List Link) (ds : List NumberedValue) → ns ≡ nodes_of ps → ls ≡ numbered rows → es ≡ flat_map package_entries ps → ds ≡ kept_demands ns (base_demands ns ++ (flat_map (at_demands ns ls) es ++ flat_map link_demands ls)) → ds ≡ kept_demands (nodes_of ps) (demands_of ps rows)
demanded ns ls es ps rows ds nodes links entries is =
    is ∙ (λ i. kept_demands (nodes i) (base_demands (nodes i) ++ (flat_map (at_demands (nodes i) (links i)) (entries i) ++ flat_map link_demands (links i)))) ∙ (λ i. kept_demands (nodes_of ps) (base_demands (nodes_of ps) ++ (demands_by_entries (nodes_of ps) (numbered rows) ps i ++ flat_map link_demands (numbered rows))))
