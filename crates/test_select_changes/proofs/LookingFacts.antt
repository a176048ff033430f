-- Paths that globs take.
use Rattle.std.proofs.Common.{◌≡◌, ◌≢◌, ℕ, ◌≤◌, Bool, not, List, [], length, map, take, codes, sym, subst, ap, ◌∙◌, ◌↔◌, IsTrue, All, Contains}
use Rattle.std.specs.List.{join_by}
use Rattle.std.specs.Str.{chars}
use Rattle.std.proofs.lemmas.List.{take_all}
use Rattle.std.proofs.lemmas.List.Elements.{All-contains}
use Rattle.list_facts.proofs.Membership.{Contains-map_cases}
use Rattle.workspace_record.specs.Records.{Text}
use Rattle.guppy_package_rules.specs.Paths.{parts}
use Rattle.nextest_filter_matchers.specs.Globs.{Glob, GlobMatches}
use Rattle.test_select_changes.specs.Changes.{IsLookedAt}
use Rattle.test_select_changes.proofs.PartFacts.{not_both, untrue}

-- a glob of the list matches the text
abbrev pub IsTaken : List Glob → Text → Type 0
IsTaken globs text = (glob : Glob) × Contains globs glob × GlobMatches glob (chars text)

pub none_takes : {X : Type 0} (read : X → Glob) (xs : List X) (i : ℕ) (text : Text) → length xs ≤ i → All (λ x. GlobMatches (read x) (chars text) → ⊥) (take i xs) → IsTaken (map read xs) text → ⊥
none_takes {X} read xs i text all none (glob, inside, matches) =
    let one = Contains-map_cases read xs glob inside in
    let P : X → Type 0 = λ x. GlobMatches (read x) (chars text) → ⊥ in
    All-contains P xs one.0 (subst (All P) (take_all i xs all) none) one.1 (subst (λ g. GlobMatches g (chars text)) (sym one.2) matches)

-- a path with parts is looked at exactly where no glob takes the text of its parts
pub looked_by : (globs : List Glob) (path text : Text) (some : List Text) (taken : Bool) → some ≢ [] → text ≡ join_by (λ part. part) (codes "/") some → (IsTrue taken ↔ IsTaken globs text) → parts path ≡ some → IsTrue (not taken) ↔ IsLookedAt globs path
looked_by globs path text some taken full is takes same = (
  λ h. record {
    has_part = λ e. full (sym same ∙ e);
    not_taken = λ glob inside matches. not_both taken h (takes.1 (glob, inside, subst (λ t. GlobMatches glob (chars t)) (sym spelled) matches));
  },
  λ h. untrue taken (λ e. let one = takes.0 e in h.not_taken one.0 one.1 (subst (λ t. GlobMatches one.0 (chars t)) spelled one.2)),
)
  where
    spelled : text ≡ join_by (λ part. part) (codes "/") (parts path)
    spelled = is ∙ ap (λ ps. join_by (λ part. part) (codes "/") ps) (sym same)
