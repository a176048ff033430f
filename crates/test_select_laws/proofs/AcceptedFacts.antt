-- What is accepted depends on the names of a record alone.
use Rattle.std.proofs.Common.{◌≡◌, List, [], Contains, map, subst}
use Rattle.list_facts.proofs.Membership.{Contains-map, Contains-map_cases}
use Rattle.workspace_record.specs.Records.{Text, Workspace}
use Rattle.nextest_filter_tokens.specs.declared.filterset_kind.FiltersetKind.{FiltersetKind}
use Rattle.nextest_filter_tokens.specs.declared.heads.Predicate.TheVariants as predicate
use Rattle.nextest_filter_evaluation.specs.Groups.{known_groups}
use Rattle.nextest_filter_evaluation.specs.NameTests.{NameTest, SuitsOneOf}
use Rattle.nextest_filter_evaluation.specs.declared.groups.KnownGroups.{KnownGroups}
use Rattle.nextest_filter_evaluation.specs.Formulas.{Formula}
use Rattle.nextest_filter_evaluation.proofs.FormulaFacts.{each_map}
use Rattle.nextest_filtering.specs.Acceptance.{IsAccepted, MatchesSome, ban_of}
use Rattle.nextest_filtering.specs.Contexts.{ContextValue}
use Rattle.nextest_filtering.specs.Filters.{FilterLeaf, Named, Platform, Default, All}
use Rattle.nextest_filtering.specs.Filters as filter
use Rattle.test_select_checks.specs.Contexts.{HasNamesOf}
use Rattle.test_select_checks.proofs.OneRecordFacts.{binaries_too, features_too, packages_too}
use Rattle.test_select_laws.specs.Laws.{AcceptedTextsAgree}

one_of_more : (test : NameTest) (ns ms : List Text) → ((n : Text) → Contains ns n → Contains ms n) → SuitsOneOf test ns → SuitsOneOf test ms
one_of_more test ns ms more h = record { name = h.name; listed = more h.name h.listed; suits = h.suits }

-- the names of more pairs
part_more : (f : Text × Text → Text) (ps qs : List (Text × Text)) → ((p : Text × Text) → Contains ps p → Contains qs p) → (n : Text) → Contains (map f ps) n → Contains (map f qs) n
part_more f ps qs more n h = let (p, listed, is) = Contains-map_cases f ps n h in subst (Contains (map f qs)) is (Contains-map f qs p (more p listed))

-- each name of the one context is one of the other
pub record HasNamesToo (cx dx : ContextValue) : Type 0 where
  pub packages : (p : Text × Text) → Contains cx.packages p → Contains dx.packages p
  pub binaries : (b : Text × Text) → Contains cx.binaries b → Contains dx.binaries b
  pub features : (name : Text) → Contains cx.features name → Contains dx.features name

pub of_one_record : (w : Workspace) (cx dx : ContextValue) → HasNamesOf w cx → HasNamesOf w dx → HasNamesToo cx dx
of_one_record w cx dx of_cx of_dx = record { packages = packages_too w cx dx of_cx of_dx; binaries = binaries_too w cx dx of_cx of_dx; features = features_too w cx dx of_cx of_dx }

module _ (cx dx : ContextValue) (groups others : KnownGroups) (names : HasNamesToo cx dx) (group_too : (name : Text) → Contains (known_groups groups) name → Contains (known_groups others) name) where
  package_too : (test : NameTest) → SuitsOneOf test (map (λ p. p.1) cx.packages) → SuitsOneOf test (map (λ p. p.1) dx.packages)
  package_too test = one_of_more test _ _ (part_more (λ p. p.1) cx.packages dx.packages names.packages)

  match_too : (l : FilterLeaf) → MatchesSome cx groups l → MatchesSome dx others l
  match_too (Named predicate.Package test span) h = package_too test h
  match_too (Named predicate.Deps test span) h = package_too test h
  match_too (Named predicate.Rdeps test span) h = package_too test h
  match_too (Named predicate.Kind test span) h = h
  match_too (Named predicate.Binary test span) h = one_of_more test _ _ (part_more (λ b. b.1) cx.binaries dx.binaries names.binaries) h
  match_too (Named predicate.BinaryId test span) h = one_of_more test _ _ (part_more (λ b. b.0) cx.binaries dx.binaries names.binaries) h
  match_too (Named predicate.Test test span) h = h
  match_too (Named predicate.Group test span) h = one_of_more test _ _ group_too h
  match_too (Named predicate.Feature test span) h = one_of_more test _ _ names.features h
  match_too (Platform platform span) h = h
  match_too (Default span) h = h
  match_too All h = h
  match_too filter.None h = h

  leaf_too : (kind : FiltersetKind) (l : FilterLeaf) → (ban_of kind l ≡ []) × MatchesSome cx groups l → (ban_of kind l ≡ []) × MatchesSome dx others l
  leaf_too kind l e = (e.0, match_too l e.1)

  -- a filter that is accepted over the one is accepted over the other
  pub accepted_too : (kind : FiltersetKind) (f : Formula FilterLeaf) → IsAccepted cx groups kind f → IsAccepted dx others kind f
  accepted_too kind f h = each_map _ _ f (leaf_too kind) h

pub texts_agree : AcceptedTextsAgree
texts_agree w cx dx groups others kind text of_cx of_dx are too (f, h) =
    let group_too = λ (name : Text) (known : Contains (known_groups groups) name). (too.names name).1 ((are.names name).0 known) in
    (f, record { of_text = h.of_text; accepted = accepted_too cx dx groups others (of_one_record w cx dx of_cx of_dx) group_too kind f h.accepted })
