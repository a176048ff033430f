-- Questions whose answer is a selection.
use Rattle.std.proofs.Common.{◌≡◌, refl, sym, subst, ◌∙◌, ⊎_elim, ℕ, ◌<◌, ◌++◌, arith, List, [], ◌∷◌, Contains, Option, Some, None, Result, Ok, Err, Vec, codes, slice_index_or}
use Rattle.std.specs.Global.{Global}
use Rattle.std.proofs.lemmas.List.Elements.{All-contains, Contains-get_or}
use Rattle.std.proofs.lemmas.Option.{none-some, same_Some}
use Rattle.list_facts.proofs.Membership.{Contains-flat_map_cases, Contains-map_cases, Contains-none, Contains-cons_cases}
use Rattle.workspace_record.specs.Records.{FeatureEntry, Group, Package, Target, Text, Workspace}
use Rattle.feature_account.proofs.AccountFacts.{Contains-slice_get}
use Rattle.guppy_package_parts.specs.BuildTargets.{TargetId, Library, BuildScript, Binary, Example, Test, Benchmark, id_of}
use Rattle.nextest_binaries.specs.Asking.{HoldsWellFormed}
use Rattle.nextest_binaries.specs.Listings.{HasFault, IsWellFormed}
use Rattle.nextest_binaries.specs.Listers.{Shown, largest, one_more}
use Rattle.nextest_binaries.specs.declared.fault.ListingFault.{ListingFault}
use Rattle.nextest_binaries.specs.declared.fault.ListingFault.TheVariants.{LineFeed, RepeatedName}
use Rattle.nextest_filter_tokens.specs.declared.filterset_kind.FiltersetKind.{FiltersetKind}
use Rattle.nextest_filter_tokens.specs.declared.filterset_kind.FiltersetKind.TheVariants as kind
use Rattle.nextest_filter_tokens.specs.declared.parse_error.ParseSingleError.{ParseSingleError}
use Rattle.nextest_binaries.specs.BinaryIds.{binary_id}
use Rattle.nextest_filter_evaluation.specs.Groups.{known_groups}
use Rattle.nextest_filter_evaluation.specs.declared.groups.KnownGroups.{KnownGroups}
use Rattle.nextest_filter_evaluation.specs.declared.groups.KnownGroups.TheVariants.{Unavailable}
use Rattle.nextest_filter_syntax.specs.Trees.{tree_of}
use Rattle.nextest_filter_tokens.specs.FaultLists.{syntax_faults}
use Rattle.nextest_filtering.specs.Acceptance.{IsAccepted}
use Rattle.nextest_filtering.specs.Contexts.{ContextValue, binaries_of, binary_kind, features_of, named_binary}
use Rattle.nextest_filtering.specs.Filters.{filter_of}
use Rattle.nextest_filtering.specs.Refusals.{IsRefused}
use Rattle.nextest_filtering.specs.SameFilters.{AreBytes}
use Rattle.nextest_filtering.specs.SameFilters as same_filters
use Rattle.nextest_filtering.proofs.AlikeFacts.{alike_say_the_same}
use Rattle.nextest_filtering.proofs.BareFacts.{read_alike}
use Rattle.nextest_filtering.proofs.ByteFacts.{bytes_by_test, bytes_joined}
use Rattle.test_select_checks.specs.Contexts.{HasNamesOf}
use Rattle.test_select_checks.specs.FilterTexts.{IsAcceptedText, IsRefusedText}
use Rattle.test_select_checks.specs.Groups.{AreGroupsOf}
use Rattle.test_select_checks.specs.RecordFilters.{HasAcceptedFilters, HasAcceptedFilter, IsAcceptedDefault, IsRefusedDefault, RefusesFilter}
use Rattle.test_select_checks.proofs.OneRecordFacts.{byte_packages}
use Rattle.test_select_checks.specs.declared.record_error.RecordError.TheVariants as refused
use Rattle.test_select_checks.specs.declared.select_error.SelectError.{SelectError}
use Rattle.test_select_checks.specs.declared.select_error.SelectError.TheVariants.{Record, UnknownExtra, Filter, Lister, BadListing, Memory}
use Rattle.test_select_tests.specs.Questions.{HasByteTexts, Question}
use Rattle.test_select_tests.specs.Readings.{Readings}
use Rattle.test_select_tests.specs.Selecting.{Answers, FailsFor, FaultyFor, IsAnswered}
use Rattle.test_select_tests.specs.Selections.{Selected}
use Rattle.test_select_laws.specs.Served.{IsSelectedOrWants, ListsWell, ServedQuestionsAreAnswered}
use Rattle.test_select_laws.proofs.AcceptedFacts.{accepted_too, of_one_record}
use Rattle.test_select_laws.proofs.PlainFacts.{plain_context, plain_names}

-- the ids of binaries are made of bytes, where the names of their packages and targets are
module _ (package_name name : Text) (byte_package : AreBytes package_name) (byte_name : AreBytes name) where
  behind_kind : (k : Text) → AreBytes k → AreBytes (package_name ++ (codes "::" ++ (k ++ (codes "/" ++ name))))
  behind_kind k byte_kind =
      bytes_joined package_name _ byte_package (bytes_joined (codes "::") _ (bytes_by_test (codes "::") refl) (bytes_joined k _ byte_kind (bytes_joined (codes "/") name (bytes_by_test (codes "/") refl) byte_name)))

  alone : (id : Text) → AreBytes id → (b : Text × Text) → Contains ((id, name) ∷ []) b → AreBytes b.0 × AreBytes b.1
  alone id byte_id b h =
      ⊎_elim (λ is. subst (λ (x : Text × Text). AreBytes x.0 × AreBytes x.1) is (byte_id, byte_name)) (λ none. absurd (Contains-none b none)) (Contains-cons_cases (id, name) [] b h)

  byte_binary : (id : TargetId) (b : Text × Text) → Contains (named_binary package_name name (binary_kind id)) b → AreBytes b.0 × AreBytes b.1
  byte_binary Library b h = alone package_name byte_package b h
  byte_binary BuildScript b h = absurd (Contains-none b h)
  byte_binary (Binary n) b h = alone (binary_id package_name (codes "bin") name) (behind_kind (codes "bin") (bytes_by_test (codes "bin") refl)) b h
  byte_binary (Example n) b h = alone (binary_id package_name (codes "example") name) (behind_kind (codes "example") (bytes_by_test (codes "example") refl)) b h
  byte_binary (Test n) b h = alone (binary_id package_name (codes "test") name) (bytes_joined package_name _ byte_package (bytes_joined (codes "::") name (bytes_by_test (codes "::") refl) byte_name)) b h
  byte_binary (Benchmark n) b h = alone (binary_id package_name (codes "bench") name) (behind_kind (codes "bench") (bytes_by_test (codes "bench") refl)) b h

module _ (w : Workspace) (bytes : HasByteTexts w) (cx : ContextValue) (of_cx : HasNamesOf w cx) where
  -- the rows of a context are packages of the record
  of_record : (p : Package) → Contains of_cx.needed.rows p → Contains w.packages p
  of_record p among =
      let (u, needed, at) = (of_cx.needed.are_rows p).0 among in
      subst (λ (ps : List Package). Contains ps p) of_cx.is_declared.rows (Contains-slice_get of_cx.declared.packages u p at)

  byte_binaries : (b : Text × Text) → Contains cx.binaries b → AreBytes b.0 × AreBytes b.1
  byte_binaries b listed =
      let (p, among, of_p) = Contains-flat_map_cases binaries_of of_cx.needed.rows b (subst (λ bs. Contains bs b) of_cx.needed.built listed) in
      let (t, its, of_t) = Contains-flat_map_cases (λ (t : Target). named_binary p.name t.name (binary_kind (id_of t.kind t.name))) p.targets b of_p in
      let inside = of_record p among in
      let names = bytes.packages p inside in
      byte_binary p.name t.name names.name (names.targets t its) (id_of t.kind t.name) b of_t

  byte_features : (name : Text) → Contains cx.features name → AreBytes name
  byte_features name listed =
      let (p, among, of_p) = Contains-flat_map_cases features_of of_cx.needed.rows name (subst (λ fs. Contains fs name) of_cx.needed.featured listed) in
      let (f, its, is) = Contains-map_cases (λ (f : FeatureEntry). f.name) p.features name of_p in
      subst AreBytes is ((bytes.packages p (of_record p among)).features f its)

  -- with nothing said to be on, the names of a context are made of bytes
  byte_names : same_filters.HasByteNames (plain_context cx)
  byte_names = record {
    packages = byte_packages w cx of_cx (λ p inside. (bytes.packages p inside).name);
    binary_ids = λ b listed. (byte_binaries b listed).0;
    binary_names = λ b listed. (byte_binaries b listed).1;
    features = byte_features;
    on = λ f none. absurd (Contains-none f none);
  }

  -- a text that is accepted over the names of the record has no other fault than refused patterns
  module _ (dx : ContextValue) (of_dx : HasNamesOf w dx) (groups others : KnownGroups) (k : FiltersetKind) (group_too : (name : Text) → Contains (known_groups groups) name → Contains (known_groups others) name) (byte_groups : (name : Text) → Contains (known_groups others) name → AreBytes name) where
    not_refused : (text : Text) → IsAcceptedText dx groups k text → (faults : Vec ParseSingleError Global) → IsRefusedText cx others k text faults → syntax_faults faults.items ≡ 0
    not_refused text (f, h) faults (input, refusal) =
        ⊎_elim
        (λ reading. reading.4.1 (tree_of h.of_text.parsed, h.of_text.reads))
        (λ (r : IsRefused cx others k text (record { input = input; errors = faults })).
        let alike = read_alike text h.of_text.parsed r.parsed h.of_text.reads r.reads h.of_text.as_written r.as_written in
        let of_plain = plain_names w cx of_cx in
        let over = accepted_too dx (plain_context cx) groups others (of_one_record w dx (plain_context cx) of_dx of_plain) group_too k (filter_of h.of_text.parsed) (subst (IsAccepted dx groups k) h.of_text.is_filter h.accepted) in
        let there = ((alike_say_the_same (filter_of h.of_text.parsed) (filter_of r.parsed) alike).accepted (plain_context cx) others k byte_names byte_groups).0 over in
        absurd (r.not_accepted (accepted_too (plain_context cx) cx others others (of_one_record w (plain_context cx) cx of_plain of_cx) (λ name known. known) k (filter_of r.parsed) there)))
        refusal.1

module _ (w : Workspace) (bytes : HasByteTexts w) where
  no_groups : (name : Text) → Contains (known_groups Unavailable) name → AreBytes name
  no_groups name none = absurd (Contains-none name none)

  not_refused_default : (cx dx : ContextValue) → HasNamesOf w cx → HasNamesOf w dx → (text : Option Text) → IsAcceptedDefault dx text → (faults : Vec ParseSingleError Global) → IsRefusedDefault cx text faults → syntax_faults faults.items ≡ 0
  not_refused_default cx dx of_cx of_dx (Some text) accepted faults refused =
      not_refused w bytes cx of_cx dx of_dx Unavailable Unavailable kind.DefaultFilter (λ name known. known) no_groups text accepted faults refused
  not_refused_default cx dx of_cx of_dx None accepted faults refused = absurd refused

  filters_not_refused : HasAcceptedFilters w → (place : ℕ) (faults : Vec ParseSingleError Global) → RefusesFilter w place faults → syntax_faults faults.items ≡ 0
  filters_not_refused (dx, of_dx, accepted) place faults (cx, of_cx, refusal) =
      ⊎_elim
      (λ g.
      let its = All-contains (HasAcceptedFilter dx) w.groups g.group accepted.groups (Contains-slice_get w.groups place g.group g.at) in
      not_refused w bytes cx of_cx dx of_dx Unavailable Unavailable kind.OverrideFilter (λ name known. known) no_groups g.group.filter its faults g.refused)
      (λ d. not_refused_default cx dx of_cx of_dx w.default_filter accepted.default faults d.refused)
      refusal

-- a listing that is well-formed has no fault
sound : (names : List (List ℕ)) (fault : ListingFault) → IsWellFormed names → HasFault names fault → ⊥
sound names LineFeed well h = well.one_line h
sound names RepeatedName well h = well.distinct h.1

-- a count that is not the largest grows
grows : (n : ℕ) → n < largest → one_more n ≡ n → ⊥
grows n less same = grind (arith, less, same)

module _ (q : Question) (r : Readings) (old new : Shown) (answered : IsAnswered q r) (lists : ListsWell q old new) where
  -- the names of known groups are made of bytes
  byte_known : (groups : KnownGroups) → AreGroupsOf q.workspace groups → (name : Text) → Contains (known_groups groups) name → AreBytes name
  byte_known groups are name known =
      ⊎_elim
      (λ is. subst AreBytes is (bytes_by_test (codes "@global") refl))
      (λ listed. let (g, its, is) = Contains-map_cases (λ (g : Group). g.name) q.workspace.groups name listed in subst AreBytes is (answered.read.spelled.texts.groups g its))
      ((are.names name).0 known)

  not_faulty : (id : Text) (fault : ListingFault) → FaultyFor q old id fault new → ⊥
  not_faulty id fault h =
      let at = h.faulty.within in
      let itself : Text = slice_index_or h.ids h.place [] in
      let (b, is, available, wanted) = (h.asked.members itself).0 (Contains-get_or h.ids h.place [] at) in
      let (names, held, well) = subst (HoldsWellFormed old) is (lists.listings b available) in
      let (others, again, faulty) = h.faulty.faulty in
      sound names fault well (subst (λ ns. HasFault ns fault) (same_Some others names (sym again ∙ held)) faulty)

  not_failed : (id : Text) → FailsFor q old id new → ⊥
  not_failed id h = grows old.failures lists.not_full (sym h.failed.failed.failures ∙ lists.none_failed)

  selected : (result : Result Selected SelectError) → Answers q old result new → IsSelectedOrWants result
  selected (Ok selection) h = tt
  selected (Err (Record (refused.Broken rule place))) h = none-some (rule, place) (sym answered.checked.0 ∙ h.0)
  selected (Err (Record (refused.Filter place faults))) h = filters_not_refused q.workspace answered.read.spelled.texts answered.checked.1 place faults h.0.1
  selected (Err (Record refused.Memory)) h = h.0
  selected (Err (UnknownExtra place)) h = none-some place (sym answered.known ∙ h.1)
  selected (Err (Filter place faults)) h =
      let t = h.0 in
      let accepted = answered.accepted t.text (Contains-slice_get q.texts place t.text t.at) in
      let group_too = λ (name : Text) (known : Contains (known_groups r.groups) name). (t.are_groups.names name).1 ((answered.read.groups.names name).0 known) in
      not_refused q.workspace answered.read.spelled.texts t.context t.names r.context answered.read.names r.groups t.groups kind.Test group_too (byte_known t.groups t.are_groups) t.text accepted faults t.refused
  selected (Err (Lister id)) h = not_failed _ h
  selected (Err (BadListing id fault)) h = not_faulty _ fault h
  selected (Err Memory) h = tt

pub served_are_answered : ServedQuestionsAreAnswered
served_are_answered q r old new result answered lists h = selected q r old new answered lists result h
