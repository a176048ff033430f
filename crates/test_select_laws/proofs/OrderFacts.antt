-- Selections over records that list the same in whichever order.
use Rattle.std.proofs.Common.{◌≡◌, refl, sym, ap, subst, ◌∙◌, ◌↔◌, ◌⊎◌, true, ◌&&◌, List, Contains, Option, codes, filter, map}
use Rattle.list_facts.proofs.Membership.{Contains-filter, Contains-filter_cases, Contains-flat_map, Contains-flat_map_cases, Contains-map, Contains-map_cases}
use Rattle.workspace_record.specs.Records.{Group, Package, Target, Text, Workspace}
use Rattle.workspace_record.specs.Features.{FeatureValue}
use Rattle.feature_account_rules.specs.IsRule.{IsMember}
use Rattle.feature_account_rules.specs.Lines.{is_member}
use Rattle.feature_account_rules.specs.RuleList.{named_of}
use Rattle.feature_account_rules.proofs.LineFacts.{is_member-Decides}
use Rattle.guppy_package_rules.specs.Kept.{AreKept}
use Rattle.test_select_rules.specs.Binaries.{Binary, binaries, binaries_of, binary_id, binary_of, kind_text, may_have_tests, platform_of}
use Rattle.test_select_feature_laws.proofs.KeptFacts.{rows_kept}
use Rattle.test_select_feature_laws.proofs.OrderFacts.{stays_on}
use Rattle.nextest_filter_tokens.specs.declared.filterset_kind.FiltersetKind.{FiltersetKind}
use Rattle.nextest_filter_evaluation.specs.Groups.{known_groups}
use Rattle.nextest_binaries.specs.Queries as asked
use Rattle.nextest_filter_evaluation.specs.Formulas.{Formula}
use Rattle.nextest_filtering.specs.Filters.{FilterLeaf}
use Rattle.nextest_filtering.specs.SameFilters.{HasSamePackages}
use Rattle.test_select_checks.specs.Alike.{AreAlike}
use Rattle.test_select_checks.specs.FilterTexts.{IsAcceptedText}
use Rattle.test_select_checks.specs.Meaning.{DefaultGivesIn, DefaultHoldsIn, HoldsIn, MayHoldIn}
use Rattle.test_select_checks.specs.RecordFilters.{AreReadingsOf, FilterReadings, IsReadDefault, IsReadGroup}
use Rattle.test_select_features.specs.Switching.{AreOn}
use Rattle.test_select_checks.proofs.OneReadingFacts.{AreOneReading}
use Rattle.test_select_checks.proofs.OneRecordFacts.{byte_packages}
use Rattle.test_select_tests.specs.Following.{IsFollowedIn}
use Rattle.test_select_tests.specs.NamedFeatures.{AreNamedOn}
use Rattle.test_select_rules.specs.Asked.{binary_asked}
use Rattle.test_select_tests.specs.Questions.{IsFeatureOn, Question, WantedIn}
use Rattle.test_select_tests.specs.Readings.{AreReadings, Readings}
use Rattle.test_select_tests.specs.Selecting.{IsAsked, IsAvailableBinary, IsChosen, IsLetThrough, IsWanted}
use Rattle.test_select_tests.specs.declared.asked_binaries.AskedBinaries.{AskedBinaries}
use Rattle.test_select_tests.specs.declared.asked_binaries.AskedBinaries.TheVariants.{LetThrough, Available}
use Rattle.test_select_tests.proofs.ReadingFacts.{one_on, one_says_the_same}
use Rattle.test_select_tests.proofs.SelectingFacts.{one_asked, one_report}
use Rattle.test_select_laws.specs.Laws.{Agree}
use Rattle.test_select_laws.specs.Orders.{IsPackageReordered, IsReordered, SelectionOrderIsFree}
use Rattle.test_select_laws.proofs.AcceptedFacts.{HasNamesToo, accepted_too}
use Rattle.test_select_laws.proofs.OrderContextFacts.{by_features, followed_there, names_there, turned}

-- a question and one of another record
abbrev over : Question → Workspace → Question
over q v = record q { workspace = v }

-- binaries that filters are asked about alike, with the same target
record IsLike (b c : Binary) : Type 0 where
  asked : binary_asked b ≡ binary_asked c
  target : b.target ≡ c.target

module _ (w v : Workspace) (same : IsReordered w v) where
  member_there : (p q : Package) → IsPackageReordered p q → is_member w p.id ≡ true → is_member v q.id ≡ true
  member_there p q like h =
      let member = (is_member-Decides w p.id).0 h in
      let there : IsMember v p.id = (member.0, (same.members (record { package_id = p.id; path = member.0 })).0 member.1) in
      (is_member-Decides v q.id).1 (subst (IsMember v) like.itself.id there)

  -- each binary has its like
  binary_there : (b : Binary) → Contains (binaries w) b → (c : Binary) × Contains (binaries v) c × IsLike b c
  binary_there b declared =
      let (p, among, of_p) = Contains-flat_map_cases binaries_of (filter (λ (p : Package). is_member w p.id) w.packages) b declared in
      let (t, built, is) = Contains-map_cases (binary_of p) (filter (λ (t : Target). t.tested && may_have_tests t.kind) p.targets) b of_p in
      let (listed, member) = Contains-filter_cases (λ (p : Package). is_member w p.id) w.packages p among in
      let (its, tested) = Contains-filter_cases (λ (t : Target). t.tested && may_have_tests t.kind) p.targets t built in
      let (q, there, like) = same.packages.0 p listed in
      let owner = Contains-filter (λ (x : Package). is_member v x.id) v.packages q there (member_there p q like member) in
      let kept = Contains-filter (λ (x : Target). x.tested && may_have_tests x.kind) q.targets t ((like.targets t).0 its) tested in
      let of_q = Contains-map (binary_of q) (filter (λ (x : Target). x.tested && may_have_tests x.kind) q.targets) t kept in
      let told : binary_asked (binary_of p t) ≡ binary_asked (binary_of q t) =
      ap (λ (id : Text). asked_of id p.name t) like.itself.id ∙ ap (λ (name : Text). asked_of q.id name t) like.name in
      let alike : IsLike b (binary_of q t) = subst (λ (x : Binary). IsLike x (binary_of q t)) is (record { asked = told; target = refl }) in
      (binary_of q t, Contains-flat_map binaries_of (filter (λ (x : Package). is_member v x.id) v.packages) q (binary_of q t) owner of_q, alike)
    where
      asked_of : Text → Text → Target → asked.Binary
      asked_of id name t = record {
        package_id = id;
        id = binary_id name t.kind t.name;
        name = t.name;
        kind = kind_text t.kind;
        platform = platform_of t.kind;
      }

module _ (q : Question) (v : Workspace) (same : IsReordered q.workspace v) (kept : AreKept q.workspace.packages q.workspace.links q.workspace.workspace) (other : AreKept v.packages v.links v.workspace) where
  -- what is on is on there
  on_there : (f : FeatureValue) → IsFeatureOn q f → IsFeatureOn (over q v) f
  on_there f on = stays_on q.workspace v kept.ids_apart other.ids_apart (by_features q.workspace v same) q.choice q.table f on

  -- the like of an available binary is available
  available_there : (b c : Binary) → IsLike b c → Contains (binaries v) c → IsAvailableBinary q b → IsAvailableBinary (over q v) c
  available_there b c like declared h = record {
    declared = declared;
    available = λ name required.
        let its = subst (λ (t : Target). Contains t.required_features name) (sym like.target) required in
        on_there (named_of c.owner.id name) (subst (λ (x : asked.Binary). IsFeatureOn q (named_of x.package_id name)) like.asked (h.available name its));
  }

  module _ (s : Readings) where
    -- a test that is chosen is chosen there
    chosen_there : (listing_of : Text → Option (List Text)) (pair : Text × Text) → IsChosen q s listing_of pair → IsChosen (over q v) s listing_of pair
    chosen_there listing_of pair h =
        let (c, declared, like) = binary_there q.workspace v same h.binary h.available.declared in
        let id : h.binary.id ≡ c.id = ap (λ (x : asked.Binary). x.id) like.asked in
        record {
          binary = c;
          available = available_there h.binary c like declared h.available;
          id = sym id ∙ h.id;
          names = h.names;
          listing = ap listing_of (sym id) ∙ h.listing;
          listed = h.listed;
          holds = subst (λ (x : asked.Binary). (f : Formula FilterLeaf) × Contains s.texts f × HoldsIn s.context s.filters (record { binary = x; name = pair.1 }) f) like.asked h.holds;
          default_holds = subst (λ (x : asked.Binary). DefaultHoldsIn s.context s.filters (record { binary = x; name = pair.1 })) like.asked h.default_holds;
        }

    through_there : (b c : Binary) → IsLike b c → IsLetThrough q s b → IsLetThrough (over q v) s c
    through_there b c like h =
        subst (λ (x : asked.Binary). ((f : Formula FilterLeaf) × Contains s.texts f × MayHoldIn s.context s.filters x f) × DefaultGivesIn s.context s.filters x true) like.asked h

    wanted_there : (b c : Binary) → IsLike b c → (asks : AskedBinaries) → WantedIn asks (IsLetThrough q s b) → WantedIn asks (IsLetThrough (over q v) s c)
    wanted_there b c like LetThrough through = through_there b c like through
    wanted_there b c like Available through = through

    -- a binary that is asked is asked there
    asked_there : (id : Text) → ((b : Binary) × (b.id ≡ id) × IsAvailableBinary q b × IsWanted q s b) → (c : Binary) × (c.id ≡ id) × IsAvailableBinary (over q v) c × IsWanted (over q v) s c
    asked_there id (b, is, available, wanted) =
        let (c, declared, like) = binary_there q.workspace v same b available.declared in
        (c, sym (ap (λ (x : asked.Binary). x.id) like.asked) ∙ is, available_there b c like declared available, wanted_there b c like q.asks wanted)

-- readings of the same groups and the same default filter
read_alike : (w v : Workspace) (r : FilterReadings) → w.groups ≡ v.groups → w.default_filter ≡ v.default_filter → AreReadingsOf v r → AreReadingsOf w r
read_alike w v r groups default h = record {
  groups = subst (λ (gs : List Group). AreAlike IsReadGroup gs r.groups) (sym groups) h.groups;
  default = subst (λ (d : Option Text). IsReadDefault d r.default) (sym default) h.default;
}

module _ (q : Question) (v : Workspace) (r s : Readings) (same : IsReordered q.workspace v) (p : AreReadings q r) (o : AreReadings (over q v) s) (kept : AreKept q.workspace.packages q.workspace.links q.workspace.workspace) (other : AreKept v.packages v.links v.workspace) where
  abbrev back : IsReordered v q.workspace
  back = turned q.workspace v same

  -- what is on there is on here
  on_here : (on : List FeatureValue) → AreOn q.workspace q.choice q.table p.followed.0 → AreOn v q.choice q.table on → p.followed.0 ≡ on
  on_here on here there =
      let moved : AreOn q.workspace q.choice q.table on = record {
        served = here.served;
        members = λ f. (
          λ h. on_there (over q v) q.workspace back other kept f ((there.members f).0 h),
          λ h. (there.members f).1 (on_there q v same kept other f h),
        );
        ascending = there.ascending;
      } in
      one_on q p.followed.0 on here moved

  names_here : HasNamesToo r.context s.context
  names_here = names_there q.workspace v kept other same r.context s.context p.names o.names

  names_back : HasNamesToo s.context r.context
  names_back = names_there v q.workspace other kept back s.context r.context o.names p.names

  same_packages : HasSamePackages r.context s.context
  same_packages =
      let (on, is_on, followed, named) = p.followed in
      let (others, are_on, too, again) = o.followed in
      let one = on_here others is_on are_on in
      let followed_too = subst (λ (xs : List FeatureValue). IsFollowedIn q.scope v xs q.table s.context.graph) (sym one) too in
      let named_too = subst (λ (xs : List FeatureValue). AreNamedOn xs s.context.on) (sym one) again in
      record {
        packages = λ x. (names_here.packages x, names_back.packages x);
        leads = λ a b. (
          followed_there q.workspace v kept other same q.scope on q.table r.context.graph s.context.graph followed followed_too a b,
          followed_there v q.workspace other kept back q.scope on q.table s.context.graph r.context.graph followed_too followed a b,
        );
        on = λ f. (λ h. (named_too f).1 ((named f).0 h), λ h. (named f).1 ((named_too f).0 h));
      }

  one_reading : AreOneReading q.workspace r.context s.context r.filters s.filters
  one_reading = record {
    one = same_packages;
    byte_packages = byte_packages q.workspace r.context p.names (λ x inside. (p.spelled.texts.packages x inside).name);
    byte_on = λ f listed. p.spelled.on f.0 f.1 ((p.followed.1.members (named_of f.0 f.1)).0 ((p.followed.3 f).0 listed));
    byte_groups = p.spelled.texts.groups;
    of_first = p.filters;
    of_second = read_alike q.workspace v s.filters same.groups same.default_filter o.filters;
  }

  agree : Agree q (over q v) r s
  agree =
      let says = one_says_the_same q p.spelled.texts r s one_reading p.texts o.texts in
      record {
        reports = λ listing_of pairs others report told.
            one_report
            (λ pair. (
              λ h. (told.members pair).1 (chosen_there q v same kept other s listing_of pair ((says.chosen listing_of pair (report.byte_names pair h)).0 ((report.members pair).0 h))),
              λ h. (report.members pair).1 ((says.chosen listing_of pair (told.byte_names pair h)).1 (chosen_there (over q v) q.workspace back other kept s listing_of pair ((told.members pair).0 h))),
            ))
            report.ascending told.ascending;
        asked = λ ids others own told.
            let moved : IsAsked q s others = record {
              members = λ id. (
                λ h. asked_there (over q v) q.workspace back other kept s id ((told.members id).0 h),
                λ b. (told.members id).1 (asked_there q v same kept other s id b),
              );
              ascending = told.ascending;
            } in
            one_asked q r ids others own ((says.asked others).1 moved);
      }

  -- groups have the same names
  group_here : (name : Text) → Contains (known_groups r.groups) name → Contains (known_groups s.groups) name
  group_here name known = (o.groups.names name).1 (subst (λ (gs : List Group). (codes "@global" ≡ name) ⊎ Contains (map (λ (g : Group). g.name) gs) name) same.groups ((p.groups.names name).0 known))

  group_back : (name : Text) → Contains (known_groups s.groups) name → Contains (known_groups r.groups) name
  group_back name known = (p.groups.names name).1 (subst (λ (gs : List Group). (codes "@global" ≡ name) ⊎ Contains (map (λ (g : Group). g.name) gs) name) (sym same.groups) ((o.groups.names name).0 known))

  accept : (kind : FiltersetKind) (text : Text) → IsAcceptedText r.context r.groups kind text ↔ IsAcceptedText s.context s.groups kind text
  accept kind text = (
    λ (f, h). (f, record { of_text = h.of_text; accepted = accepted_too r.context s.context r.groups s.groups names_here group_here kind f h.accepted }),
    λ (f, h). (f, record { of_text = h.of_text; accepted = accepted_too s.context r.context s.groups r.groups names_back group_back kind f h.accepted }),
  )

pub order_is_free : SelectionOrderIsFree
order_is_free q v r s same p o =
    let kept = rows_kept q.workspace p.followed.1.served.checked.0 in
    let other = rows_kept v o.followed.1.served.checked.0 in
    record { accepted = accept q v r s same p o kept other; agree = agree q v r s same p o kept other }
