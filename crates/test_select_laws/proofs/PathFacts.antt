-- Paths over links that are on are paths over declared links.
use Rattle.std.proofs.Common.{◌≡◌, ℕ, List, [], ◌∷◌, Some, filter, position, Contains, refl, sym, ap, subst, ◌∙◌}
use Rattle.std.specs.Str.{bytes_eq}
use Rattle.std.proofs.lemmas.List.{get_or_default}
use Rattle.std.proofs.lemmas.List.Elements.{Contains-get_or}
use Rattle.list_facts.proofs.Membership.{Contains-filter_cases, Contains-map, Contains-map_cases}
use Rattle.numbered_graph.specs.declared.link.Link.{Link as NumberedLink}
use Rattle.numbered_graph.specs.Links.{link_at}
use Rattle.numbered_graph.specs.Paths.{IsPath, Reaches, any_link}
use Rattle.workspace_record.specs.Records.{Text, Link, Package}
use Rattle.workspace_record.specs.Features.{FeatureValue}
use Rattle.workspace_record.specs.declared.choice.PlatformTable.{PlatformTable}
use Rattle.guppy_package_table.specs.Tables.{TableValue, ids_of, link_between, links_among}
use Rattle.test_select_features.specs.LinesOn.{is_link_on, links_on, with_lines_on}
use Rattle.nextest_filtering.specs.Contexts.{Leads}
use Rattle.test_select_laws.specs.Laws.{IsSwitchedOn}

-- a path over some links is one over more
module _ (fewer more : List NumberedLink) (among : (l : NumberedLink) → Contains fewer l → Contains more l) where
  path_among : (a : ℕ) (js : List ℕ) (b : ℕ) → IsPath fewer any_link a js b → Reaches more any_link a b
  path_among a [] b h = record { path = []; leads = h }
  path_among a (j ∷ js) b h =
      let link : NumberedLink = link_at fewer j in
      let nowhere : NumberedLink = record { from = 0; to = 0 } in
      let found = among link (Contains-get_or fewer j nowhere h.0) in
      let at : link_at more found.0 ≡ link = get_or_default more found.0 nowhere link found.1 ∙ found.2 in
      let rest = path_among link.to js b h.3 in
      record { path = found.0 ∷ rest.path; leads = (found.1, refl, ap (λ (l : NumberedLink). l.from) at ∙ h.2, subst (λ (l : NumberedLink). IsPath more any_link l.to rest.path b) (sym at) rest.leads) }

  reaches_among : (a b : ℕ) → Reaches fewer any_link a b → Reaches more any_link a b
  reaches_among a b h = path_among a h.path b h.leads

module _ (declared switched : TableValue) (on : List FeatureValue) (table : PlatformTable) (is_on : IsSwitchedOn declared on table switched) where
  -- each link that is on joins what a declared one joins
  links_declared : (l : NumberedLink) → Contains (links_among declared.packages (links_on declared on table)) l → Contains (links_among declared.packages declared.links) l
  links_declared l h =
      let between : Link → NumberedLink = link_between (ids_of declared.packages) in
      let of_lines = Contains-map_cases between (links_on declared on table) l h in
      let of_link = Contains-map_cases (with_lines_on declared on table) (filter (is_link_on declared on table) declared.links) of_lines.0 of_lines.1 in
      let listed = Contains-filter_cases (is_link_on declared on table) declared.links of_link.0 of_link.1 in
      subst (Contains (links_among declared.packages declared.links)) (ap between of_link.2 ∙ of_lines.2) (Contains-map between declared.links of_link.0 listed.0)

  -- what leads on by links that are on leads on by declared ones
  pub leads_declared : (a b : Text) → Leads switched a b → Leads declared a b
  leads_declared a b h =
      let over_rows = subst (λ (packages : List Package). Reaches (links_among packages switched.links) any_link h.from h.to) is_on.rows h.path in
      let over_links = subst (λ (links : List Link). Reaches (links_among declared.packages links) any_link h.from h.to) is_on.link_rows over_rows in
      record {
        from = h.from;
        to = h.to;
        is_from = subst (λ (packages : List Package). position (bytes_eq a) (ids_of packages) ≡ Some h.from) is_on.rows h.is_from;
        is_to = subst (λ (packages : List Package). position (bytes_eq b) (ids_of packages) ≡ Some h.to) is_on.rows h.is_to;
        path = reaches_among (links_among declared.packages (links_on declared on table)) (links_among declared.packages declared.links) links_declared h.from h.to over_links;
      }
