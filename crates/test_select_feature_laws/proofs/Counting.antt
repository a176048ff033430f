-- Whether a line behind a link counts, by the kinds of lines.
use Rattle.std.proofs.Common.{◌≡◌, ◌∙◌, ◌↔◌, ⊎_elim, ◌&&◌, ◌||◌, Bool, true, false, Contains, ap, refl, sym}
use Rattle.std.specs.List.{list_any}
use Rattle.std.proofs.lemmas.Bool.{and_from, and_parts, or_cases}
use Rattle.list_facts.proofs.Quantifiers.{list_any-from_Contains, list_any-map, list_any_cases}
use Rattle.workspace_record.specs.Records.{Line}
use Rattle.workspace_record.specs.declared.choice.PlatformTable.{PlatformTable}
use Rattle.workspace_record.specs.declared.kinds.LineKind.{LineKind}
use Rattle.workspace_record.specs.declared.kinds.LineKind.TheVariants.{Normal, Build, Dev}
use Rattle.feature_account_rules.specs.Lines.{counts_for, is_in_force}
use Rattle.guppy_feature_views.specs.Links.{LinkValue, lines_behind}
use Rattle.test_select_feature_laws.specs.Verdicts.{HasCountingLine, in_force_of, some_counts, starts_in_workspace}

left_or : (a b : Bool) → a ≡ true → (a || b) ≡ true
left_or a b h = ap (λ x. x || b) h

right_or : (a b : Bool) → b ≡ true → (a || b) ≡ true
right_or true b h = refl
right_or false b h = h

module _ (table : PlatformTable) (l : LinkValue) where
  counts_of : (kind : LineKind) → counts_for (starts_in_workspace l) kind ≡ true → in_force_of table l kind ≡ true → HasCountingLine table l
  counts_of kind by_kind some =
      let (line, behind, in_force) = list_any_cases (λ (x : Line). is_in_force table x.spec) (lines_behind l kind) (sym (list_any-map (is_in_force table) (λ (x : Line). x.spec) (lines_behind l kind)) ∙ some) in
      record { kind = kind; line = line; behind = behind; counts_by_kind = by_kind; in_force = in_force }

  in_force_where : (line : Line) (kind : LineKind) → Contains (lines_behind l kind) line → is_in_force table line.spec ≡ true → in_force_of table l kind ≡ true
  in_force_where line kind behind in_force = list_any-map (is_in_force table) (λ (x : Line). x.spec) (lines_behind l kind) ∙ list_any-from_Contains (λ (x : Line). is_in_force table x.spec) (lines_behind l kind) line behind in_force

  counts_by : (line : Line) (kind : LineKind) → Contains (lines_behind l kind) line → counts_for (starts_in_workspace l) kind ≡ true → is_in_force table line.spec ≡ true → some_counts table l ≡ true
  counts_by line Normal behind by_kind in_force = left_or (in_force_of table l Normal || in_force_of table l Build) (starts_in_workspace l && in_force_of table l Dev) (left_or (in_force_of table l Normal) (in_force_of table l Build) (in_force_where line Normal behind in_force))
  counts_by line Build behind by_kind in_force = left_or (in_force_of table l Normal || in_force_of table l Build) (starts_in_workspace l && in_force_of table l Dev) (right_or (in_force_of table l Normal) (in_force_of table l Build) (in_force_where line Build behind in_force))
  counts_by line Dev behind by_kind in_force = right_or (in_force_of table l Normal || in_force_of table l Build) (starts_in_workspace l && in_force_of table l Dev) (and_from (starts_in_workspace l) (in_force_of table l Dev) by_kind (in_force_where line Dev behind in_force))

  -- a line counts exactly where one of a kind that counts is in force
  pub counting_iff : (some_counts table l ≡ true) ↔ HasCountingLine table l
  counting_iff = (
    λ h.
        ⊎_elim
        (λ firm. ⊎_elim (counts_of Normal refl) (counts_of Build refl) (or_cases (in_force_of table l Normal) (in_force_of table l Build) firm))
        (λ dev. let both = and_parts (starts_in_workspace l) (in_force_of table l Dev) dev in counts_of Dev both.0 both.1)
        (or_cases (in_force_of table l Normal || in_force_of table l Build) (starts_in_workspace l && in_force_of table l Dev) h),
    λ h. counts_by h.line h.kind h.behind h.counts_by_kind h.in_force,
  )
