-- From the parts of a plan to what the question says of them.
use Rattle.std.proofs.Common.{◌≡◌, ◌∙◌, All, List, map, ap, sym, subst, ◌↔◌, Contains, Result, Ok, Err}
use Rattle.std.specs.List.Sorted.{IsStrictlySortedBy}
use Rattle.std.proofs.lemmas.List.Elements.{All-contains}
use Rattle.list_facts.specs.Ascending.{IsAscendingOf, text_cmp}
use Rattle.list_facts.proofs.Lists.{map-map}
use Rattle.list_facts.proofs.Membership.{Contains-map, Contains-map_cases}
use Rattle.workspace_record.specs.Features.{FeatureValue}
use Rattle.workspace_record.specs.Records.{Workspace}
use Rattle.test_select_rules.specs.Binaries.{Binary, binaries}
use Rattle.test_select_rules.specs.BinaryView.{binary_view}
use Rattle.test_select_rules.specs.declared.test_binary.TestBinary.{TestBinary}
use Rattle.test_select_rules.proofs.KeptRules.{binaries_told_apart}
use Rattle.nextest_filtering.specs.Contexts.{ContextValue}
use Rattle.feature_account_rules.specs.RuleList.{named_of}
use Rattle.test_select_rules.specs.OnLines.{IsAvailable}
use Rattle.nextest_filter_evaluation.specs.Formulas.{Formula}
use Rattle.nextest_filtering.specs.Compiling.{IsCompiled}
use Rattle.nextest_filtering.specs.Filters.{FilterLeaf}
use Rattle.test_select_checks.specs.Alike.{AreAlike}
use Rattle.test_select_checks.specs.Contexts.{HasNamesOf}
use Rattle.test_select_checks.specs.RecordFilters.{AreMadeOf, AreReadingsOf, FilterReadings}
use Rattle.test_select_features.specs.Switching.{AreOn}
use Rattle.test_select_checks.proofs.MeaningFacts.{readings_of}
use Rattle.test_select_checks.specs.declared.record_error.RecordError.TheVariants as refused
use Rattle.test_select_checks.specs.declared.select_error.SelectError.{SelectError}
use Rattle.test_select_checks.specs.declared.select_error.SelectError.TheVariants.{Record, UnknownExtra, Filter, Lister, BadListing, Memory}
use Rattle.test_select_tests.specs.Filtering.{AreFiltersIn, Filters}
use Rattle.test_select_tests.specs.Kept.{AreThose}
use Rattle.test_select_tests.specs.Plans.{IsPlan, MayMatch, Plans}
use Rattle.test_select_rules.specs.Asked.{binary_asked, test_asked}
use Rattle.test_select_tests.specs.QuestionFilters.{CompiledQuestion}
use Rattle.test_select_tests.specs.ByteNames.{IsByteLabel}
use Rattle.test_select_tests.specs.Questions.{HasByteTexts, IsSpelled, Question}
use Rattle.test_select_tests.specs.Following.{IsFollowedIn}
use Rattle.test_select_tests.specs.NamedFeatures.{AreNamedOn}
use Rattle.test_select_tests.specs.declared.question_filters.QuestionFilters.{QuestionFilters}
use Rattle.test_select_tests.specs.Readings.{AreReadAs, AreReadings, Readings}
use Rattle.test_select_tests.specs.Selecting.{IsAnswered, IsAsked, IsAvailableBinary, IsWanted}
use Rattle.test_select_tests.proofs.PassFacts.{may_iff, pass_iff, texts_accepted, texts_read}
use Rattle.test_select_tests.proofs.WantedFacts.{wanted_in}

-- what is on in one set is on in another that holds all of it
available_in : {on more : FeatureValue → Type 0} → ((f : FeatureValue) → on f → more f) → (b : Binary) → IsAvailable on b → IsAvailable more b
available_in wider b h name inside = wider _ (h name inside)

-- the ids of binaries, as the code has them and as contracts do
pub same_ids : (bs : List TestBinary) → map (λ b. b.id) (map binary_view bs) ≡ map (λ b. b.id) bs
same_ids bs = map-map (λ (b : Binary). b.id) binary_view bs

-- what is said of the record that was handed on is said of the question's
module _ (q : Question) (v : Workspace) (same : v ≡ q.workspace) (on : List FeatureValue) where
  pub on_of_question : AreOn v q.choice q.table on → AreOn q.workspace q.choice q.table on
  on_of_question = subst (λ (w : Workspace). AreOn w q.choice q.table on) same

  abbrev FiltersOf : Workspace → Result QuestionFilters SelectError → Type 0
  FiltersOf w = Filters (λ cx. HasNamesOf w cx × IsFollowedIn q.scope w on q.table cx.graph × AreNamedOn on cx.on) w q.texts

  pub filters_of_question : (filters : QuestionFilters) → FiltersOf v (Ok filters) → FiltersOf q.workspace (Ok filters)
  filters_of_question filters = subst (λ (w : Workspace). FiltersOf w (Ok filters)) same

  refusal_of_question : (e : SelectError) → FiltersOf v (Err e) → FiltersOf q.workspace (Err e)
  refusal_of_question e = subst (λ (w : Workspace). FiltersOf w (Err e)) same

  pub binaries_of_question : (all : List Binary) → all ≡ binaries v → all ≡ binaries q.workspace
  binaries_of_question all are = are ∙ ap binaries same

-- where the names of the record are made of bytes, and those of what is on, the question's are
pub is_spelled : (q : Question) (on : List FeatureValue) → AreOn q.workspace q.choice q.table on → HasByteTexts q.workspace → All (λ f. IsByteLabel f.label) on → IsSpelled q
is_spelled q on are_on texts bytes = record {
  texts = texts;
  on = λ id name is_on. All-contains (λ (f : FeatureValue). IsByteLabel f.label) on (named_of id name) bytes ((are_on.members (named_of id name)).1 is_on);
}

module _ (q : Question) (on : List FeatureValue) (are_on : AreOn q.workspace q.choice q.table on) where
  abbrev IsIn : FeatureValue → Type 0
  IsIn f = Contains on f

  module _ (filters : CompiledQuestion) (cx : ContextValue) (names : HasNamesOf q.workspace cx) (followed : IsFollowedIn q.scope q.workspace on q.table cx.graph × AreNamedOn on cx.on) (are : AreFiltersIn cx q.workspace q.texts filters) where
    abbrev pub of_record : (r : FilterReadings) × AreReadingsOf q.workspace r × AreMadeOf cx r filters.filters
    of_record = readings_of cx q.workspace filters.filters are.filters

    abbrev pub of_texts : (fs : List (Formula FilterLeaf)) × AreReadAs q.texts fs × AreAlike (IsCompiled cx) fs filters.texts
    of_texts = texts_read cx are.groups q.texts filters.texts are.texts

    abbrev pub readings : Readings
    readings = record { context = cx; groups = are.groups; filters = of_record.0; texts = of_texts.0 }

    are_readings : IsSpelled q → AreReadings q readings
    are_readings spelled = record {
      spelled = spelled;
      names = names;
      followed = (on, are_on, followed.0, followed.1);
      groups = are.are_groups;
      filters = of_record.1;
      texts = of_texts.1;
    }

    pub is_answered : IsSpelled q → IsAnswered q readings
    is_answered spelled = record {
      checked = are_on.served.checked;
      known = are_on.served.known;
      read = are_readings spelled;
      accepted = texts_accepted cx are.groups q.texts filters.texts are.texts;
    }

    -- the binaries that were kept are those that are available and let through
    match_iff : (b : Binary) → (Contains (binaries q.workspace) b × MayMatch q.asks IsIn filters b) ↔ (IsAvailableBinary q b × IsWanted q readings b)
    match_iff b =
        let through = may_iff cx of_record.0 filters of_record.2 of_texts.0 of_texts.2 (binary_asked b) in (
          λ r. (record { declared = r.0; available = available_in (λ f. (are_on.members f).0) b r.1.0 }, wanted_in q.asks through.0 r.1.1),
          λ h. (h.0.declared, (available_in (λ f. (are_on.members f).1) b h.0.available, wanted_in q.asks through.1 h.1)),
        )

    -- They are put in the order of their ids.
    module _ (kept sorted : List TestBinary) (found : AreThose (MayMatch q.asks IsIn filters) (binaries q.workspace) (map binary_view kept)) (ascending : IsAscendingOf text_cmp (map (λ b. b.id) kept) (map (λ b. b.id) sorted)) (all_kept : (b : TestBinary) → Contains sorted b → Contains kept b) where
      let_through_iff : (b : Binary) → Contains (map binary_view kept) b ↔ (IsAvailableBinary q b × IsWanted q readings b)
      let_through_iff b = (λ h. (match_iff b).0 ((found.those b).0 h), λ h. (found.those b).1 ((match_iff b).1 h))

      is_decided : (b : Binary) → IsAvailableBinary q b → ((IsWanted q readings b → ⊥) → ⊥) → IsWanted q readings b
      is_decided b available twice =
          let may = found.decided b available.declared (λ out. twice (λ wanted. out ((match_iff b).1 (available, wanted)).1)) in
          ((match_iff b).0 (available.declared, may)).1

      -- a binary of the kept ones has its id among the sorted ones, and binaries are told apart by their ids
      stays : (t : TestBinary) → Contains kept t → Contains (map binary_view sorted) (binary_view t)
      stays t inside =
          let id = Contains-map_cases (λ (b : TestBinary). b.id) sorted (t.id) ((ascending.members (t.id)).1 (Contains-map (λ (b : TestBinary). b.id) kept t inside)) in
          let declared : (b : TestBinary) → Contains kept b → Contains (binaries q.workspace) (binary_view b) = λ b among. ((let_through_iff (binary_view b)).0 (Contains-map binary_view kept b among)).0.declared in
          let same : binary_view id.0 ≡ binary_view t = binaries_told_apart q.workspace are_on.served.checked.0 (binary_view id.0) (binary_view t) (declared id.0 (all_kept id.0 id.1)) (declared t inside) id.2 in
          subst (Contains (map binary_view sorted)) same (Contains-map binary_view sorted id.0 id.1)

      sorted_iff : (b : Binary) → Contains (map binary_view sorted) b ↔ (IsAvailableBinary q b × IsWanted q readings b)
      sorted_iff b =
          let there : Contains (map binary_view sorted) b → IsAvailableBinary q b × IsWanted q readings b = λ h.
          let t = Contains-map_cases binary_view sorted b h in
          (let_through_iff b).0 (subst (Contains (map binary_view kept)) t.2 (Contains-map binary_view kept t.0 (all_kept t.0 t.1))) in
          let back : (IsAvailableBinary q b × IsWanted q readings b) → Contains (map binary_view sorted) b = λ h.
          let t = Contains-map_cases binary_view kept b ((let_through_iff b).1 h) in
          subst (Contains (map binary_view sorted)) t.2 (stays t.0 t.1) in
          (there, back)

      asked_ids : IsAsked q readings (map (λ b. b.id) (map binary_view sorted))
      asked_ids = record {
        members = λ id. (
          λ h. let b = Contains-map_cases (λ (b : Binary). b.id) (map binary_view sorted) id h in let r = (sorted_iff b.0).0 b.1 in (b.0, b.2, r.0, r.1),
          λ h. subst (Contains (map (λ (b : Binary). b.id) (map binary_view sorted))) h.1 (Contains-map (λ (b : Binary). b.id) (map binary_view sorted) h.0 ((sorted_iff h.0).1 (h.2, h.3))),
        );
        ascending = subst (IsStrictlySortedBy text_cmp) (sym (same_ids sorted)) ascending.ascending;
      }

      pub plan_made : IsSpelled q → IsPlan q filters (map binary_view sorted)
      plan_made spelled = record {
        readings = readings;
        answered = is_answered spelled;
        ids = asked_ids;
        binaries = sorted_iff;
        decided = is_decided;
        passes = λ b test. pass_iff cx of_record.0 filters of_record.2 of_texts.0 of_texts.2 (test_asked b test);
      }

  -- what is refused while the filters are compiled is refused
  pub plan_err : (e : SelectError) → Filters (λ cx. HasNamesOf q.workspace cx × IsFollowedIn q.scope q.workspace on q.table cx.graph × AreNamedOn on cx.on) q.workspace q.texts (Err e) → Plans q (Err e)
  plan_err (Record (refused.Broken rule place)) h = h
  plan_err (Record (refused.Filter place errors)) h = (are_on.served.checked.0, h)
  plan_err (Record refused.Memory) h = absurd h
  plan_err (UnknownExtra place) h = absurd h
  plan_err (Filter place faults) h = record {
    checked = are_on.served.checked;
    known = are_on.served.known;
    context = h.0;
    names = h.1.0;
    groups = h.2.0;
    are_groups = h.2.1;
    before = h.2.2.before;
    text = h.2.2.text;
    at = h.2.2.at;
    refused = h.2.2.refused;
  }
  plan_err (Lister id) h = absurd h
  plan_err (BadListing id fault) h = absurd h
  plan_err Memory h = tt

-- the same of the record that was handed on
pub plan_err_of_question : (q : Question) (v : Workspace) → v ≡ q.workspace → (on : List FeatureValue) → AreOn v q.choice q.table on → (e : SelectError) → Filters (λ cx. HasNamesOf v cx × IsFollowedIn q.scope v on q.table cx.graph × AreNamedOn on cx.on) v q.texts (Err e) → Plans q (Err e)
plan_err_of_question q v same on are_on e h = plan_err q on (on_of_question q v same on are_on) e (refusal_of_question q v same on e h)
