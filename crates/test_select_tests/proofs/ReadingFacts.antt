-- Two ways in which the filters of one question are read.
use Rattle.std.proofs.Common.{◌≡◌, ◌∙◌, ap, refl, sym, subst, ⊎_elim, List, [], ◌∷◌, ◌++◌, Contains, Option, true, ◌&&◌, codes, filter}
use Rattle.list_facts.specs.Ascending.{IsAscendingOf}
use Rattle.list_facts.proofs.Ascending.{one_ascending}
use Rattle.list_facts.proofs.Membership.{Contains-cons_cases, Contains-filter_cases, Contains-first, Contains-flat_map_cases, Contains-map_cases, Contains-none}
use Rattle.workspace_record.specs.Records.{Link, Package, Target, Text, Workspace, WorkspaceDetails}
use Rattle.workspace_record.specs.Features.{FeatureValue, feature_cmp, feature_cmp_total}
use Rattle.workspace_record.specs.declared.choice.PlatformTable.{PlatformTable}
use Rattle.workspace_record.specs.declared.kinds.TargetKind.{TargetKind}
use Rattle.workspace_record.specs.declared.kinds.TargetKind.TheVariants.{Lib, ProcMacro, Test, Bench, Bin, Example, BuildScript}
use Rattle.feature_account_rules.specs.Lines.{is_member}
use Rattle.feature_account_rules.specs.RuleList.{named_of}
use Rattle.test_select_rules.proofs.FeatureOrder.{feature_exact}
use Rattle.test_select_features.specs.LinesOn.{links_on}
use Rattle.guppy_package_table.specs.Tables.{TableValue}
use Rattle.test_select_rules.specs.Binaries.{Binary, binaries, binaries_of, binary_id, binary_of, kind_text, may_have_tests}
use Rattle.nextest_filter_evaluation.specs.Formulas.{Formula, leaf}
use Rattle.nextest_filtering.specs.Filters.{FilterLeaf}
use Rattle.nextest_filtering.specs.Filters as filter
use Rattle.nextest_filtering.specs.SameFilters.{AreBytes, IsByteBinary}
use Rattle.nextest_filtering.proofs.AlikeFacts.{AlikeFormula}
use Rattle.nextest_filtering.proofs.ByteFacts.{bytes_by_test, bytes_joined}
use Rattle.nextest_filtering.proofs.SameFacts.{same}
use Rattle.test_select_checks.specs.FilterTexts.{IsFilterOf}
use Rattle.test_select_features.specs.Switching.{AreOn}
use Rattle.test_select_checks.proofs.AlikeFacts.{alike_back, alike_there}
use Rattle.test_select_checks.proofs.OneReadingFacts.{AreOneReading, all_alike, default_gives_alike, default_holds_alike, holds_in_alike, may_hold_alike, other_way, texts_alike}
use Rattle.test_select_checks.proofs.OneRecordFacts.{byte_packages, one_context}
use Rattle.test_select_tests.specs.SelectionLaws.{SayTheSame}
use Rattle.test_select_rules.specs.Asked.{binary_asked, test_asked}
use Rattle.test_select_tests.specs.Questions.{HasByteTexts, Question, WantedIn}
use Rattle.test_select_tests.specs.Following.{IsFollowedIn}
use Rattle.test_select_tests.specs.NamedFeatures.{AreNamedOn}
use Rattle.test_select_tests.specs.Readings.{AreReadAs, AreReadings, Readings}
use Rattle.test_select_tests.specs.Selecting.{IsAvailableBinary, IsChosen, IsLetThrough, IsWanted}
use Rattle.test_select_tests.specs.declared.asked_binaries.AskedBinaries.{AskedBinaries}
use Rattle.test_select_tests.specs.declared.asked_binaries.AskedBinaries.TheVariants.{LetThrough, Available}
use Rattle.test_select_tests.specs.declared.scope.LinkScope.{LinkScope}
use Rattle.test_select_tests.specs.declared.scope.LinkScope.TheVariants.{SwitchedOn, Declared}

-- what is on is one list
pub one_on : (q : Question) (a b : List FeatureValue) → AreOn q.workspace q.choice q.table a → AreOn q.workspace q.choice q.table b → a ≡ b
one_on q a b p o =
    let itself : IsAscendingOf feature_cmp a a = record { members = λ f. same (Contains a f); ascending = p.ascending } in
    let other : IsAscendingOf feature_cmp a b = record { members = λ f. (λ h. (p.members f).1 ((o.members f).0 h), λ h. (o.members f).1 ((p.members f).0 h)); ascending = o.ascending } in
    one_ascending feature_cmp_total feature_exact a a b itself other

-- the links that are on are made of the rows
module _ (on : List FeatureValue) (table : PlatformTable) where
  abbrev links_of_rows : List Package → List Link → WorkspaceDetails → List Link
  links_of_rows packages links workspace = links_on (record { packages = packages; links = links; workspace = workspace; listing = [] }) on table

  one_links_on : (g h : TableValue) → g.packages ≡ h.packages → g.links ≡ h.links → g.workspace ≡ h.workspace → links_on g on table ≡ links_on h on table
  one_links_on g h packages links workspace =
      ap (λ ps. links_of_rows ps g.links g.workspace) packages ∙ ap (λ ls. links_of_rows h.packages ls g.workspace) links ∙ ap (λ w. links_of_rows h.packages h.links w) workspace

-- two graphs that are followed have the same packages and links
pub record HaveSameRows (g h : TableValue) : Type 0 where
  pub packages : g.packages ≡ h.packages
  pub links : g.links ≡ h.links

pub one_followed : (scope : LinkScope) (w : Workspace) (on : List FeatureValue) (table : PlatformTable) (g h : TableValue) → IsFollowedIn scope w on table g → IsFollowedIn scope w on table h → HaveSameRows g h
one_followed Declared w on table g h p q = record { packages = p.rows ∙ sym q.rows; links = p.link_rows ∙ sym q.link_rows }
one_followed SwitchedOn w on table g h (d, is_d, p) (e, is_e, q) =
    let packages : d.packages ≡ e.packages = is_d.rows ∙ sym is_e.rows in
    let links = one_links_on on table d e packages (is_d.link_rows ∙ sym is_e.link_rows) (is_d.workspace_row ∙ sym is_e.workspace_row) in
    record { packages = p.rows ∙ packages ∙ sym q.rows; links = p.link_rows ∙ links ∙ sym q.link_rows }

-- the ids, names and kinds of binaries are made of bytes
byte_kind : (k : TargetKind) → AreBytes (kind_text k)
byte_kind Lib = bytes_by_test (codes "lib") refl
byte_kind ProcMacro = bytes_by_test (codes "proc-macro") refl
byte_kind Test = bytes_by_test (codes "test") refl
byte_kind Bench = bytes_by_test (codes "bench") refl
byte_kind Bin = bytes_by_test (codes "bin") refl
byte_kind Example = bytes_by_test (codes "example") refl
byte_kind BuildScript = bytes_by_test (codes "build-script") refl

module _ (package_name name : Text) (byte_package : AreBytes package_name) (byte_name : AreBytes name) where
  behind_kind : (kind : Text) → AreBytes kind → AreBytes (package_name ++ (codes "::" ++ (kind ++ (codes "/" ++ name))))
  behind_kind kind byte_text =
      bytes_joined package_name _ byte_package (bytes_joined (codes "::") _ (bytes_by_test (codes "::") refl) (bytes_joined kind _ byte_text (bytes_joined (codes "/") name (bytes_by_test (codes "/") refl) byte_name)))

  byte_id : (kind : TargetKind) → AreBytes (binary_id package_name kind name)
  byte_id Lib = byte_package
  byte_id ProcMacro = byte_package
  byte_id Test = bytes_joined package_name _ byte_package (bytes_joined (codes "::") name (bytes_by_test (codes "::") refl) byte_name)
  byte_id Bench = behind_kind (codes "bench") (byte_kind Bench)
  byte_id Bin = behind_kind (codes "bin") (byte_kind Bin)
  byte_id Example = behind_kind (codes "example") (byte_kind Example)
  byte_id BuildScript = behind_kind (codes "build-script") (byte_kind BuildScript)

byte_binary : (w : Workspace) → HasByteTexts w → (b : Binary) → Contains (binaries w) b → IsByteBinary (binary_asked b)
byte_binary w bytes b declared =
    let (p, among, of_p) = Contains-flat_map_cases binaries_of (filter (λ (p : Package). is_member w p.id) w.packages) b declared in
    let (t, built, is) = Contains-map_cases (binary_of p) (filter (λ (t : Target). t.tested && may_have_tests t.kind) p.targets) b of_p in
    let owner = (Contains-filter_cases (λ (p : Package). is_member w p.id) w.packages p among).0 in
    let its = (Contains-filter_cases (λ (t : Target). t.tested && may_have_tests t.kind) p.targets t built).0 in
    let names = bytes.packages p owner in
    let byte_name = names.targets t its in
    subst (λ (x : Binary). IsByteBinary (binary_asked x)) is (record { id = byte_id p.name t.name names.name byte_name t.kind; name = byte_name; kind = byte_kind t.kind })

-- each filter of the one reading has one of the other that is alike
text_too : (texts : List Text) (fs gs : List (Formula FilterLeaf)) → AreReadAs texts fs → AreReadAs texts gs → (f : Formula FilterLeaf) → Contains fs f → (g : Formula FilterLeaf) × Contains gs g × AlikeFormula f g
text_too [] fs gs p q f inside =
    let g = leaf filter.All in
    let listed : Contains gs g = subst (λ xs. Contains xs g) (sym q) (Contains-first g []) in
    ⊎_elim (λ is. (g, listed, all_alike f g (sym is) refl)) (λ none. absurd (Contains-none f none)) (Contains-cons_cases g [] f (subst (λ xs. Contains xs f) p inside))
text_too (text ∷ texts) fs gs p q f inside =
    let (t, among, of_f) = alike_back IsFilterOf (text ∷ texts) fs f p inside in
    let (g, there, of_g) = alike_there IsFilterOf (text ∷ texts) gs t q among in
    (g, there, texts_alike t f g of_f of_g)

module _ (q : Question) (bytes : HasByteTexts q.workspace) where
  -- what the one reading says, the other says too, where they are one but for their patterns
  module _ (r s : Readings) (alike : AreOneReading q.workspace r.context s.context r.filters s.filters) (p : AreReadAs q.texts r.texts) (o : AreReadAs q.texts s.texts) where
    through_too : (b : Binary) → Contains (binaries q.workspace) b → IsLetThrough q r b → IsLetThrough q s b
    through_too b declared ((f, read, may_hold), by_default) =
        let asked = byte_binary q.workspace bytes b declared in
        let (g, there, like) = text_too q.texts r.texts s.texts p o f read in
        ((g, there, (may_hold_alike alike (binary_asked b) asked f g like).0 may_hold), (default_gives_alike alike (binary_asked b) asked true).0 by_default)

    wanted_too : (b : Binary) → Contains (binaries q.workspace) b → (asks : AskedBinaries) → WantedIn asks (IsLetThrough q r b) → WantedIn asks (IsLetThrough q s b)
    wanted_too b declared LetThrough through = through_too b declared through
    wanted_too b declared Available through = through

    asked_too : (id : Text) → ((b : Binary) × (b.id ≡ id) × IsAvailableBinary q b × IsWanted q r b) → (b : Binary) × (b.id ≡ id) × IsAvailableBinary q b × IsWanted q s b
    asked_too id (b, is, available, wanted) = (b, is, available, wanted_too b available.declared q.asks wanted)

    chosen_too : (listing_of : Text → Option (List Text)) (pair : Text × Text) → AreBytes pair.1 → IsChosen q r listing_of pair → IsChosen q s listing_of pair
    chosen_too listing_of pair test h =
        let asked = byte_binary q.workspace bytes h.binary h.available.declared in
        let (f, read, holds) = h.holds in
        let (g, there, like) = text_too q.texts r.texts s.texts p o f read in
        record {
          binary = h.binary;
          available = h.available;
          id = h.id;
          names = h.names;
          listing = h.listing;
          listed = h.listed;
          holds = (g, there, (holds_in_alike alike (test_asked h.binary pair.1) asked test f g like).0 holds);
          default_holds = (default_holds_alike alike (test_asked h.binary pair.1) asked test).0 h.default_holds;
        }

  pub one_says_the_same : (r s : Readings) → AreOneReading q.workspace r.context s.context r.filters s.filters → AreReadAs q.texts r.texts → AreReadAs q.texts s.texts → SayTheSame q r s
  one_says_the_same r s alike p o =
      let back = other_way alike in
      record {
        chosen = λ listing_of pair test. (chosen_too r s alike p o listing_of pair test, chosen_too s r back o p listing_of pair test);
        asked = λ ids. (
          λ h. record { members = λ id. (λ i. asked_too r s alike p o id ((h.members id).0 i), λ b. (h.members id).1 (asked_too s r back o p id b)); ascending = h.ascending },
          λ h. record { members = λ id. (λ i. asked_too s r back o p id ((h.members id).0 i), λ b. (h.members id).1 (asked_too r s alike p o id b)); ascending = h.ascending },
        );
      }

module _ (q : Question) where
  one_reading : (r s : Readings) → AreReadings q r → AreReadings q s → AreOneReading q.workspace r.context s.context r.filters s.filters
  one_reading r s p o =
      let (on, is_on, followed, named) = p.followed in
      let (other, is_other, too, again) = o.followed in
      let same_on = one_on q other on is_other is_on in
      let rows = one_followed q.scope q.workspace on q.table r.context.graph s.context.graph followed (subst (λ (xs : List FeatureValue). IsFollowedIn q.scope q.workspace xs q.table s.context.graph) same_on too) in
      let named_too = subst (λ (xs : List FeatureValue). AreNamedOn xs s.context.on) same_on again in
      record {
        one = one_context q.workspace r.context s.context p.names o.names rows.packages rows.links (λ f. (λ h. (named_too f).1 ((named f).0 h), λ h. (named f).1 ((named_too f).0 h)));
        byte_packages = byte_packages q.workspace r.context p.names (λ x inside. (p.spelled.texts.packages x inside).name);
        byte_on = λ f listed. p.spelled.on f.0 f.1 ((is_on.members (named_of f.0 f.1)).0 ((named f).0 listed));
        byte_groups = p.spelled.texts.groups;
        of_first = p.filters;
        of_second = o.filters;
      }

  pub say_the_same : (r s : Readings) → AreReadings q r → AreReadings q s → SayTheSame q r s
  say_the_same r s p o = one_says_the_same q p.spelled.texts r s (one_reading r s p o) p.texts o.texts

-- the filters of a question are read alike, whichever binaries are asked
pub read_before : (q : Question) (asks : AskedBinaries) (s : Readings) → AreReadings (record q { asks = asks }) s → AreReadings q s
read_before q asks s h = record { spelled = record { texts = h.spelled.texts; on = h.spelled.on }; names = h.names; followed = h.followed; groups = h.groups; filters = h.filters; texts = h.texts }
