-- A line behind an offer counts exactly where a place behind its edge names a line that counts and is declared so.
use Rattle.std.proofs.Common.{◌≡◌, ℕ, true, false, ◌&&◌, Contains, Option, Some, filter, refl, sym, ap, ◌∙◌}
use Rattle.std.specs.Option.{option_map_or}
use Rattle.std.proofs.lemmas.Bool.{and_from, and_parts}
use Rattle.list_facts.proofs.Membership.{Contains-filter, Contains-filter_cases}
use Rattle.workspace_record.specs.Kinds.{line_kinds_decide}
use Rattle.workspace_record.specs.Records.{Line}
use Rattle.workspace_record.specs.declared.choice.PlatformTable.{PlatformTable}
use Rattle.workspace_record.specs.declared.kinds.LineKind.{LineKind}
use Rattle.feature_account_rules.specs.Lines.{counts_for, is_in_force}
use Rattle.guppy_package_parts.specs.Lines.{is_kind, line_at}
use Rattle.guppy_feature_nodes.specs.Lines.{declares, declares_kind_at}
use Rattle.guppy_feature_nodes.proofs.EdgeFacts.{filter_map-cases}
use Rattle.guppy_feature_views.specs.Links.{LinkValue, edge_of}
use Rattle.test_select_feature_laws.specs.Verdicts.{HasCountingLine, starts_in_workspace}
use Rattle.test_select_feature_laws.proofs.JoinFacts.{filter_map-has}

-- a place behind the edge names a line that counts and is among those that declare what is shown
pub record HasCountingPlace (table : PlatformTable) (l : LinkValue) : Type 0 where
  pub place : ℕ × ℕ
  pub line : Line
  pub behind : Contains (edge_of l).lines place
  pub at : line_at l.graph.rows.links place ≡ Some line
  pub declared : declares l.declarations line ≡ true
  pub counts_by_kind : counts_for (starts_in_workspace l) line.kind ≡ true
  pub in_force : is_in_force table line.spec ≡ true

module _ (table : PlatformTable) (l : LinkValue) where
  -- what is told of the line at a place
  told : (kind : LineKind) (line : Line) (o : Option Line) → o ≡ Some line → option_map_or (λ (x : Line). is_kind kind x && declares l.declarations x) o false ≡ (is_kind kind line && declares l.declarations line)
  told kind line o is = ap (λ p. option_map_or (λ (x : Line). is_kind kind x && declares l.declarations x) p false) is

  pub counting_place : HasCountingLine table l → HasCountingPlace table l
  counting_place h =
      let found = filter_map-cases (line_at l.graph.rows.links) (filter (declares_kind_at l.graph.rows.links l.declarations h.kind) (edge_of l).lines) h.line h.behind in
      let kept = Contains-filter_cases (declares_kind_at l.graph.rows.links l.declarations h.kind) (edge_of l).lines found.0 found.1 in
      let both = and_parts (is_kind h.kind h.line) (declares l.declarations h.line) (sym (told h.kind h.line (line_at l.graph.rows.links found.0) found.2) ∙ kept.1) in
      let kind : h.line.kind ≡ h.kind = (line_kinds_decide h.line.kind h.kind).0 both.0 in
      record {
        place = found.0;
        line = h.line;
        behind = kept.0;
        at = found.2;
        declared = both.1;
        counts_by_kind = ap (counts_for (starts_in_workspace l)) kind ∙ h.counts_by_kind;
        in_force = h.in_force;
      }

  pub counting_line : HasCountingPlace table l → HasCountingLine table l
  counting_line h =
      let own : is_kind h.line.kind h.line ≡ true = (line_kinds_decide h.line.kind h.line.kind).1 refl in
      let kept = Contains-filter (declares_kind_at l.graph.rows.links l.declarations h.line.kind) (edge_of l).lines h.place h.behind (told h.line.kind h.line (line_at l.graph.rows.links h.place) h.at ∙ and_from (is_kind h.line.kind h.line) (declares l.declarations h.line) own h.declared) in
      record {
        kind = h.line.kind;
        line = h.line;
        behind = filter_map-has (line_at l.graph.rows.links) (filter (declares_kind_at l.graph.rows.links l.declarations h.line.kind) (edge_of l).lines) h.place h.line kept h.at;
        counts_by_kind = h.counts_by_kind;
        in_force = h.in_force;
      }
