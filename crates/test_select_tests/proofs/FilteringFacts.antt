-- Compiled filters of a question, made a text at a time.
use Rattle.std.proofs.Common.{◌≡◌, ◌∙◌, refl, sym, ap, subst, ℕ, ◌+◌, ◌<◌, List, [], ◌∷◌, ◌++◌, take, length, get_or, slice_get, map, Contains, Bor, Vec, Result, Ok, Err, arith}
use Rattle.std.specs.Global.{Global}
use Rattle.std.specs.Option.{option_map}
use Rattle.std.proofs.lemmas.List.{map-append, take-map}
use Rattle.std.proofs.lemmas.Option.{slice_get-get_or, slice_get-map}
use Rattle.workspace_record.specs.Records.{Text, Workspace}
use Rattle.workspace_record.specs.Features.{FeatureValue}
use Rattle.workspace_record.specs.declared.choice.PlatformTable.{PlatformTable}
use Rattle.guppy_package_table.specs.Tables.{TableValue, IsTableOf}
use Rattle.nextest_filter_tokens.specs.declared.filterset_kind.FiltersetKind.TheVariants.{Test}
use Rattle.nextest_filter_evaluation.specs.declared.groups.KnownGroups.{KnownGroups}
use Rattle.nextest_filter_evaluation.specs.Compiled as compiled
use Rattle.nextest_filter_evaluation.specs.Compiled.{Leaf, compiled_of}
use Rattle.nextest_filter_evaluation.specs.Formulas.{Formula, leaf}
use Rattle.nextest_filter_evaluation.specs.declared.compiled_expr.CompiledExpr.{CompiledExpr}
use Rattle.nextest_filtering.specs.Contexts.{ContextValue}
use Rattle.nextest_filtering.specs.Refusals.{IsRefusal}
use Rattle.nextest_filtering.specs.declared.refusals.FiltersetError.{FiltersetError}
use Rattle.nextest_filtering.specs.declared.refusals.FiltersetError.TheVariants as filterset
use Rattle.nextest_filtering.proofs.PickFacts.{more_of}
use Rattle.test_select_features.specs.LinesOn.{links_on}
use Rattle.test_select_checks.specs.Alike.{AreAlike}
use Rattle.test_select_checks.specs.Compiling.{AnswersFilters}
use Rattle.test_select_checks.specs.Contexts.{HasNamesOf, IsDeclaredGraph}
use Rattle.test_select_checks.specs.Errors.{select_error_of}
use Rattle.test_select_checks.specs.Groups.{AreGroupsOf}
use Rattle.test_select_checks.specs.FilterTexts.{IsAcceptedText, IsCompiledText}
use Rattle.test_select_checks.specs.declared.record_error.RecordError.{RecordError}
use Rattle.test_select_checks.specs.declared.record_error.RecordError.TheVariants as refused
use Rattle.test_select_checks.specs.declared.select_error.SelectError.{SelectError}
use Rattle.test_select_checks.specs.declared.select_error.SelectError.TheVariants.{Record, UnknownExtra, Filter, Lister, BadListing, Memory}
use Rattle.test_select_checks.proofs.AlikeFacts.{alike_more, alike_there}
use Rattle.test_select_tests.specs.Errors.{text_error_of}
use Rattle.test_select_tests.specs.Filtering.{AreCompiledTexts, CompilesGiven, CompilesText, CompilesTexts, Filters}
use Rattle.test_select_tests.specs.Following.{IsFollowedIn}
use Rattle.test_select_tests.specs.NamedFeatures.{AreNamedOn}
use Rattle.test_select_tests.specs.declared.question_filters.QuestionFilters.{QuestionFilters}
use Rattle.test_select_tests.specs.declared.scope.LinkScope.TheVariants.{Declared, SwitchedOn}

module _ (cx : ContextValue) (groups : KnownGroups) where
  -- one text more
  pub texts_more : (texts : List (Bor Text)) (i : ℕ) (d : Bor Text) (old new : List CompiledExpr) (c : CompiledExpr) → i < length texts → new ≡ old ++ c ∷ [] → AreAlike (IsCompiledText cx groups Test) (map (λ t. t.now) (take i texts)) (map compiled_of old) → IsCompiledText cx groups Test (get_or texts i d).now (compiled_of c) → AreAlike (IsCompiledText cx groups Test) (map (λ t. t.now) (take (i + 1) texts)) (map compiled_of new)
  texts_more texts i d old new c lt grown was one =
      rw (grown, more_of (λ (t : Bor Text). t.now) texts i d (get_or texts i d) lt refl, map-append compiled_of old (c ∷ [])) (alike_more (IsCompiledText cx groups Test) (map (λ (t : Bor Text). t.now) (take i texts)) (map compiled_of old) (get_or texts i d).now (compiled_of c) was one)

  -- the refusal of a text
  pub text_error : (place : ℕ) (text : Text) (why : FiltersetError) (e : SelectError) → e ≡ text_error_of place why → IsRefusal cx groups Test text why → CompilesText cx groups place text (Err e)
  text_error place text (filterset.Parse r) e is h = subst (λ x. CompilesText cx groups place text (Err x)) (sym is) (refl, (r.input, h))
  text_error place text filterset.Memory e is h = subst (λ x. CompilesText cx groups place text (Err x)) (sym is) tt

  accepted_before : (texts : List Text) (filters : List (Formula Leaf)) → AreAlike (IsCompiledText cx groups Test) texts filters → (text : Text) → Contains texts text → IsAcceptedText cx groups Test text
  accepted_before texts filters h text i = let found = alike_there (IsCompiledText cx groups Test) texts filters text h i in (found.2.filter, found.2.accepted)

  -- what a refused text is among the texts
  pub text_err : (texts : List (Bor Text)) (i : ℕ) (d : Bor Text) (filters : List (Formula Leaf)) (e : SelectError) → i < length texts → AreAlike (IsCompiledText cx groups Test) (map (λ t. t.now) (take i texts)) filters → CompilesText cx groups i (get_or texts i d).now (Err e) → CompilesGiven cx groups (map (λ t. t.now) texts) (Err e)
  text_err texts i d filters (Record e) lt before h = h
  text_err texts i d filters (UnknownExtra p) lt before h = h
  text_err texts i d filters (Filter p faults) lt before h =
      let now : Bor Text → Text = λ t. t.now in
      let first : AreAlike (IsCompiledText cx groups Test) (take i (map now texts)) filters = subst (λ ts. AreAlike (IsCompiledText cx groups Test) ts filters) (sym (take-map now i texts)) before in
      record {
        before = subst (λ k. (text : Text) → Contains (take k (map now texts)) text → IsAcceptedText cx groups Test text) (sym h.0) (accepted_before (take i (map now texts)) filters first);
        text = (get_or texts i d).now;
        at = ap (slice_get (map now texts)) h.0 ∙ slice_get-map now texts i ∙ ap (option_map now) (slice_get-get_or texts i d lt);
        refused = h.1;
      }
  text_err texts i d filters (Lister id) lt before h = h
  text_err texts i d filters (BadListing id fault) lt before h = h
  text_err texts i d filters Memory lt before h = tt

  -- where no text is given
  pub none_given : (texts : List (Bor Text)) (filters : List (Formula Leaf)) → length texts ≡ 0 → filters ≡ leaf compiled.All ∷ [] → AreCompiledTexts cx groups (map (λ t. t.now) texts) filters
  none_given [] filters none is = is
  none_given (t ∷ ts) filters none is = absurd (omega (arith, none))

  -- given texts are the texts
  pub given_as : (texts : List (Bor Text)) (r : Result (Vec CompiledExpr Global) SelectError) → 0 < length texts → CompilesGiven cx groups (map (λ t. t.now) texts) r → CompilesTexts cx groups (map (λ t. t.now) texts) r
  given_as [] r some h = absurd (omega (arith, some))
  given_as (t ∷ ts) (Ok v) some h = h
  given_as (t ∷ ts) (Err (Record e)) some h = h
  given_as (t ∷ ts) (Err (UnknownExtra p)) some h = h
  given_as (t ∷ ts) (Err (Filter p faults)) some h = h
  given_as (t ∷ ts) (Err (Lister id)) some h = h
  given_as (t ∷ ts) (Err (BadListing id fault)) some h = h
  given_as (t ∷ ts) (Err Memory) some h = h

  pub texts_err : (P : ContextValue → Type 0) (w : Workspace) (texts : List Text) (e : SelectError) → P cx → AreGroupsOf w groups → CompilesTexts cx groups texts (Err e) → Filters P w texts (Err e)
  texts_err P w texts (Record e) p are h = absurd h
  texts_err P w texts (UnknownExtra n) p are h = h
  texts_err P w texts (Filter n faults) p are h = (cx, p, (groups, are, h))
  texts_err P w texts (Lister id) p are h = h
  texts_err P w texts (BadListing id fault) p are h = h
  texts_err P w texts Memory p are h = h

-- what passes more contexts
pub filters_wider : (P Q : ContextValue → Type 0) (w : Workspace) (texts : List Text) (r : Result QuestionFilters SelectError) → ((cx : ContextValue) → P cx → Q cx) → Filters P w texts r → Filters Q w texts r
filters_wider P Q w texts (Ok f) so h = (h.0, so h.0 h.1, h.2)
filters_wider P Q w texts (Err (Record e)) so h = h
filters_wider P Q w texts (Err (UnknownExtra n)) so h = h
filters_wider P Q w texts (Err (Filter n faults)) so h = (h.0, so h.0 h.1, h.2)
filters_wider P Q w texts (Err (Lister id)) so h = h
filters_wider P Q w texts (Err (BadListing id fault)) so h = h
filters_wider P Q w texts (Err Memory) so h = h

-- the refusal of a record is that of its filters
pub record_faulted : {A : Type 0} (right : A → Type 0) (P : ContextValue → Type 0) (w : Workspace) (texts : List Text) (why : RecordError) (e : SelectError) → e ≡ select_error_of why → AnswersFilters right w (Err why) → Filters P w texts (Err e)
record_faulted right P w texts (refused.Broken rule place) e is h = subst (λ x. Filters P w texts (Err x)) (sym is) h
record_faulted right P w texts (refused.Filter place errors) e is h = subst (λ x. Filters P w texts (Err x)) (sym is) h
record_faulted right P w texts refused.Memory e is h = subst (λ x. Filters P w texts (Err x)) (sym is) tt

-- paths along the links that are on, with the named features that are on
pub followed_switched : (w : Workspace) (on : List FeatureValue) (table : PlatformTable) (declared followed : TableValue) (named : List (Text × Text)) (cx : ContextValue) → IsDeclaredGraph w declared → IsTableOf declared.packages (links_on declared on table) declared.workspace followed → AreNamedOn on named → HasNamesOf w cx × (cx.graph ≡ followed) × (cx.on ≡ named) → HasNamesOf w cx × IsFollowedIn SwitchedOn w on table cx.graph × AreNamedOn on cx.on
followed_switched w on table declared followed named cx is made are h =
    (h.0, (declared, is, subst (λ (g : TableValue). IsTableOf declared.packages (links_on declared on table) declared.workspace g) (sym h.1) made), subst (AreNamedOn on) (sym h.2) are)

-- paths along declared links
pub followed_declared : (w : Workspace) (on : List FeatureValue) (table : PlatformTable) (declared : TableValue) (named : List (Text × Text)) (cx : ContextValue) → IsDeclaredGraph w declared → AreNamedOn on named → HasNamesOf w cx × (cx.graph ≡ declared) × (cx.on ≡ named) → HasNamesOf w cx × IsFollowedIn Declared w on table cx.graph × AreNamedOn on cx.on
followed_declared w on table declared named cx is are h = (h.0, subst (IsDeclaredGraph w) (sym h.1) is, subst (AreNamedOn on) (sym h.2) are)
