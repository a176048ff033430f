-- The links that are on, one after the other, and that they keep the rules.
use Rattle.std.proofs.Common.{◌≡◌, ◌≢◌, ◌∙◌, ℕ, ◌+◌, ◌<◌, Bool, true, false, cond, List, [], ◌∷◌, ◌++◌, Some, AllPairs, ap, refl, sym, subst, map, filter, length, take, get_or, slice_get, if◌then◌else◌, arith}
use Rattle.std.specs.List.{list_any}
use Rattle.std.proofs.lemmas.List.{get_or-map, length-map, map-append}
use Rattle.std.proofs.lemmas.List.Elements.{All-filter, All-map, filter_passes}
use Rattle.std.proofs.lemmas.List.Kept.{AllPairs-filter}
use Rattle.list_facts.proofs.Membership.{Contains-filter}
use Rattle.list_facts.proofs.Quantifiers.{list_any_cases}
use Rattle.workspace_record.specs.Records.{Link}
use Rattle.workspace_record.specs.Features.{FeatureValue}
use Rattle.workspace_record.specs.declared.choice.PlatformTable.{PlatformTable}
use Rattle.feature_account_rules.specs.Lines.{is_workspace_package}
use Rattle.guppy_package_rules.specs.Kept.{AreKept, IsPackageId, IsRequirement}
use Rattle.guppy_package_rules.specs.Rules.{link_key}
use Rattle.guppy_package_table.specs.Tables.{TableValue}
use Rattle.test_select_features.specs.LinesOn.{is_line_on, is_link_on, link_on, links_on, rows_of, with_lines_on}
use Rattle.test_select_features.proofs.PlacesOn.{filter_more}

if_so : {X Y : Type 0} (f : X → Y) (x : X) (b : Bool) → map f (cond b (x ∷ []) []) ≡ (if b then f x ∷ [] else [])
if_so f x true = refl
if_so f x false = refl

-- what holds of mapped elements two by two
apart-map : {X Y : Type 0} (R : Y → Y → Type 0) (f : X → Y) (xs : List X) → AllPairs (λ a b. R (f a) (f b)) xs → AllPairs R (map f xs)
apart-map R f [] h i j d less within = absurd (omega (arith, within))
apart-map R f (x ∷ xs) h i j d less within =
    let lt : j < length (x ∷ xs) = subst (λ n. j < n) (length-map (x ∷ xs) f) within in
    rw (get_or-map f (x ∷ xs) i x d (omega (arith, less, lt)), get_or-map f (x ∷ xs) j x d lt) (h i j x less lt)

some_pass : {X : Type 0} (p : X → Bool) (xs : List X) → list_any p xs ≡ true → 0 < length (filter p xs)
some_pass p xs e = let found = list_any_cases p xs e in let (k, lt, at) = Contains-filter p xs found.0 found.1 found.2 in omega (arith, lt)

module _ (g : TableValue) (on : List FeatureValue) (table : PlatformTable) where
  -- the next link, with just its lines that are on
  pub links_more : (i : ℕ) (row : Link) (in_workspace : Bool) → slice_get g.links i ≡ Some row → in_workspace ≡ is_workspace_package (rows_of g) row.from → map (with_lines_on g on table) (filter (is_link_on g on table) (take (i + 1) g.links)) ≡ map (with_lines_on g on table) (filter (is_link_on g on table) (take i g.links)) ++ link_on in_workspace on table row
  links_more i row in_workspace is here =
      let before = filter (is_link_on g on table) (take i g.links) in
      ap (map (with_lines_on g on table)) (filter_more (is_link_on g on table) g.links i row is)
      ∙ map-append (with_lines_on g on table) before (filter (is_link_on g on table) (row ∷ []))
      ∙ ap (λ ls. map (with_lines_on g on table) before ++ ls) (if_so (with_lines_on g on table) row (is_link_on g on table row) ∙ ap (λ b. link_on b on table row) (sym here))

  -- the links that are on keep the rules that all links keep
  pub kept_on : AreKept g.packages g.links g.workspace → AreKept g.packages (links_on g on table) g.workspace
  kept_on kept =
      let those = filter (is_link_on g on table) g.links in
      record {
        ids_apart = kept.ids_apart;
        versions_read = kept.versions_read;
        ends_known = All-map (λ l. IsPackageId g.packages l.from × IsPackageId g.packages l.to) (with_lines_on g on table) those (All-filter (is_link_on g on table) (λ l. IsPackageId g.packages l.from × IsPackageId g.packages l.to) g.links kept.ends_known);
        links_apart = apart-map (λ a b. link_key a ≢ link_key b) (with_lines_on g on table) those (AllPairs-filter (λ a b. link_key a ≢ link_key b) (is_link_on g on table) g.links kept.links_apart);
        links_have_lines = All-map (λ l. 0 < length l.lines) (with_lines_on g on table) those (λ k d lt. some_pass (is_line_on g on table (get_or those k d)) (get_or those k d).lines (filter_passes (is_link_on g on table) g.links k d lt));
        requirements_read = All-map (λ l. IsRequirement l.requirement) (with_lines_on g on table) those (All-filter (is_link_on g on table) (λ l. IsRequirement l.requirement) g.links kept.requirements_read);
        members_known = kept.members_known;
        members_apart = kept.members_apart;
        member_names_apart = kept.member_names_apart;
        member_paths_apart = kept.member_paths_apart;
        defaults_are_members = kept.defaults_are_members;
        targets_apart = kept.targets_apart;
      }
