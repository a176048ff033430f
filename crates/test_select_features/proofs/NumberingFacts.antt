-- The links that are on, as links between the places of packages.
use Rattle.std.proofs.Common.{◌≡◌, ◌∙◌, ℕ, ◌+◌, ◌<◌, ◌≤◌, Bool, true, false, not, ◌&&◌, ◌||◌, cond, List, [], ◌∷◌, ◌++◌, Some, ap, refl, sym, subst, map, filter, length, take, is_some, slice_get, if◌then◌else◌}
use Rattle.std.specs.List.{list_all, list_any}
use Rattle.std.proofs.lemmas.List.{get_or-map, length-map, map-append, take_all}
use Rattle.std.proofs.lemmas.List.Elements.{All-map}
use Rattle.std.proofs.lemmas.Option.{get_or_from_slice_get, slice_get_within}
use Rattle.workspace_record.specs.Records.{Link}
use Rattle.workspace_record.specs.Features.{FeatureValue}
use Rattle.workspace_record.specs.declared.choice.PlatformTable.{PlatformTable}
use Rattle.workspace_record.specs.declared.kinds.LineKind.TheVariants.{Dev}
use Rattle.feature_account_rules.specs.Lines.{is_workspace_package}
use Rattle.numbered_graph.specs.Links.{AreWithin, link_at, near_at}
use Rattle.numbered_graph.specs.declared.direction.Direction.TheVariants.{Forward, Reverse}
use Rattle.numbered_graph.specs.declared.link.Link as numbered
use Rattle.guppy_package_rules.specs.Kept.{AreKept, IsPackageId}
use Rattle.guppy_package_parts.specs.Lines.{is_kind}
use Rattle.guppy_package_table.specs.LinkRows.{is_dev_only}
use Rattle.guppy_package_table.specs.Tables.{TableValue, firm_flags, ids_of, link_between, links_among, member_path_at, numbered_links}
use Rattle.guppy_package_table.proofs.Places.{ends_known}
use Rattle.guppy_package_graph.specs.Views.{graph_of, link_graph_of, number_of, place_of}
use Rattle.guppy_package_graph.specs.declared.package_link.PackageLink.{PackageLink}
use Rattle.guppy_package_graph.specs.declared.package_metadata.PackageMetadata.{PackageMetadata}
use Rattle.test_select_features.specs.LinesOn.{is_link_on, line_is_on, link_on, link_on_of, links_on, rows_of, with_lines_on}
use Rattle.test_select_features.proofs.LinksOn.{kept_on, links_more}
use Rattle.test_select_features.proofs.SourceFacts.{source_in_workspace}

-- one passes that fails a test exactly where not all that pass meet the test
some_fails : {X : Type 0} (p q : X → Bool) (xs : List X) → list_any (λ x. not (p x) && q x) xs ≡ not (list_all p (filter q xs))
some_fails p q [] = refl
some_fails p q (x ∷ xs) = by (q x) (some_fails p q xs)
  where
    kept : (a rest all : Bool) → rest ≡ not all → ((not a && true) || rest) ≡ not (a && all)
    kept true rest all e = e
    kept false rest all e = refl

    left : (a rest : Bool) → ((not a && false) || rest) ≡ rest
    left true rest = refl
    left false rest = refl

    by : (b : Bool) → list_any (λ y. not (p y) && q y) xs ≡ not (list_all p (filter q xs)) → ((not (p x) && b) || list_any (λ y. not (p y) && q y) xs) ≡ not (list_all p (cond b (x ∷ filter q xs) (filter q xs)))
    by true e = kept (p x) (list_any (λ y. not (p y) && q y) xs) (list_all p (filter q xs)) e
    by false e = left (p x) (list_any (λ y. not (p y) && q y) xs) ∙ e

ends_same : (from to : ℕ) (l : numbered.Link) → from ≡ l.from → to ≡ l.to → record { from = from; to = to } ≡ l
ends_same from to l p q = ap (λ x. record { from = x; to = to }) p ∙ ap (λ y. record { from = l.from; to = y }) q

module _ (g : TableValue) (on : List FeatureValue) (table : PlatformTable) where
  -- those that are on of the links before a number
  abbrev pub links_before : ℕ → List Link
  links_before i = map (with_lines_on g on table) (filter (is_link_on g on table) (take i g.links))

  pub all_before : (i : ℕ) → length g.links ≤ i → links_before i ≡ links_on g on table
  all_before i past = ap (λ ls. map (with_lines_on g on table) (filter (is_link_on g on table) ls)) (take_all i g.links past)

  before_more : (i : ℕ) (row : Link) → slice_get g.links i ≡ Some row → links_before (i + 1) ≡ links_before i ++ link_on_of g on table row
  before_more i row is = links_more g on table i row (is_workspace_package (rows_of g) row.from) is refl

  -- one link more, between places
  pub among_more : (i : ℕ) (row : Link) → slice_get g.links i ≡ Some row → links_among g.packages (links_before (i + 1)) ≡ links_among g.packages (links_before i) ++ links_among g.packages (link_on_of g on table row)
  among_more i row is = ap (links_among g.packages) (before_more i row is) ∙ map-append (link_between (ids_of g.packages)) (links_before i) (link_on_of g on table row)

  -- and its flag
  pub firm_more : (i : ℕ) (row : Link) → slice_get g.links i ≡ Some row → firm_flags (links_before (i + 1)) ≡ firm_flags (links_before i) ++ firm_flags (link_on_of g on table row)
  firm_more i row is = ap firm_flags (before_more i row is) ∙ map-append (λ l. not (is_dev_only l)) (links_before i) (link_on_of g on table row)

  -- the ends of a link are those between which its row leads
  pub ends_at : (number : ℕ) (row : Link) → slice_get g.links number ≡ Some row → (from to : ℕ) → from ≡ near_at Forward (numbered_links g) number → to ≡ near_at Reverse (numbered_links g) number → record { from = from; to = to } ≡ link_between (ids_of g.packages) row
  ends_at number row is from to from_is to_is =
      let at : link_at (numbered_links g) number ≡ link_between (ids_of g.packages) row =
      get_or-map (link_between (ids_of g.packages)) g.links number row (record { from = 0; to = 0 }) (slice_get_within g.links number row is) ∙ ap (link_between (ids_of g.packages)) (get_or_from_slice_get g.links number row row is) in
      ends_same from to (link_at (numbered_links g) number) from_is to_is ∙ at

  -- the source of a link is a workspace package as its graph finds it
  pub source_here : (number : ℕ) (row : Link) → slice_get g.links number ≡ Some row → AreKept g.packages g.links g.workspace → (link : PackageLink) (source : PackageMetadata) (in_workspace : Bool) → link_graph_of link ≡ g → number_of link ≡ number → graph_of source ≡ link_graph_of link → place_of source ≡ (link_at (numbered_links (link_graph_of link)) (number_of link)).from → in_workspace ≡ is_some (member_path_at (graph_of source) (place_of source)) → in_workspace ≡ is_workspace_package (rows_of g) row.from
  source_here number row is kept link source in_workspace of_graph numbered_so from_graph place member =
      let within : number < length g.links = slice_get_within g.links number row is in
      let known : IsPackageId g.packages row.from = (subst (λ (l : Link). IsPackageId g.packages l.from × IsPackageId g.packages l.to) (get_or_from_slice_get g.links number row row is) (kept.ends_known number row within)).0 in
      let here : place_of source ≡ (link_at (numbered_links g) number).from =
      place ∙ ap (λ t. (link_at (numbered_links t) (number_of link)).from) of_graph ∙ ap (λ n. (link_at (numbered_links g) n).from) numbered_so in
      member
      ∙ ap (λ t. is_some (member_path_at t (place_of source))) (from_graph ∙ of_graph)
      ∙ ap (λ v. is_some (member_path_at g v)) here
      ∙ source_in_workspace g number row is known

  module _ (row : Link) (in_workspace : Bool) (here : in_workspace ≡ is_workspace_package (rows_of g) row.from) where
    abbrev if_on : Bool → List Link
    if_on b = if b then record row { lines = filter (line_is_on in_workspace on table row) row.lines } ∷ [] else []

    on_as : (b : Bool) → list_any (line_is_on in_workspace on table row) row.lines ≡ b → link_on_of g on table row ≡ if_on b
    on_as b is = ap (λ w. link_on w on table row) (sym here) ∙ ap if_on is

    pub none_on : list_any (line_is_on in_workspace on table row) row.lines ≡ false → link_on_of g on table row ≡ []
    none_on is = on_as false is

    pub one_among : (ends : numbered.Link) → list_any (line_is_on in_workspace on table row) row.lines ≡ true → ends ≡ link_between (ids_of g.packages) row → links_among g.packages (link_on_of g on table row) ≡ ends ∷ []
    one_among ends is e = ap (links_among g.packages) (on_as true is) ∙ ap (λ x. x ∷ []) (sym e)

    pub one_firm : (b : Bool) → list_any (line_is_on in_workspace on table row) row.lines ≡ true → b ≡ list_any (λ line. not (is_kind Dev line) && line_is_on in_workspace on table row line) row.lines → firm_flags (link_on_of g on table row) ≡ b ∷ []
    one_firm b is e = ap firm_flags (on_as true is) ∙ ap (λ x. x ∷ []) (sym (e ∙ some_fails (is_kind Dev) (line_is_on in_workspace on table row) row.lines))

  -- the links that are on lie between the places of packages
  pub within_on : AreKept g.packages g.links g.workspace → AreWithin (length g.packages) (links_among g.packages (links_on g on table))
  within_on kept =
      let ids = ids_of g.packages in
      let those = links_on g on table in
      subst (λ n. AreWithin n (links_among g.packages those)) (length-map g.packages (λ p. p.id))
      (All-map (λ l. (l.from < length ids) × (l.to < length ids)) (link_between ids) those (ends_known g.packages those (kept_on g on table kept).ends_known))
