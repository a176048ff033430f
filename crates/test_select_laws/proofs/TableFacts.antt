-- Tables of the same answers make the same rules, switch on the same lines, and have the same selections.
use Rattle.std.proofs.Common.{◌≡◌, Bool, ◌&&◌, List, [], ◌++◌, Option, Some, None, map, filter, unwrap_or, refl, sym, ap, ap₂, if◌then◌else◌}
use mathlib.Core.Path.{fun_ext}
use Rattle.std.specs.List.{flat_map}
use Rattle.std.proofs.Common.{subst}
use Rattle.std.specs.List.{list_any}
use Rattle.list_facts.specs.Texts.{texts}
use Rattle.workspace_record.specs.Choices.{Choice}
use Rattle.workspace_record.specs.Entries.{EntryValue, OwnFeature, Dependency, Strong, Weak, entry_value}
use Rattle.workspace_record.specs.Features.{FeatureValue}
use Rattle.workspace_record.specs.Records.{Text, FeatureEntry, Line, Link, Package, Workspace}
use Rattle.workspace_record.specs.Tables.{answer}
use Rattle.workspace_record.specs.declared.choice.PlatformTable.{PlatformTable}
use Rattle.feature_account_rules.specs.Lines.{counting_lines, counts, counts_for, first_of_each, is_in_force, is_workspace_package}
use Rattle.feature_account_rules.specs.RuleList.{base_rules, line_start, chosen_features, dependency_features, entry_rules, feature_rules, given, implies, is_slash_link, line_rules, link_rules, named_of, rule_list, rules_of_entry, slash_lines, strong_features, strong_targets, weak_rule, weak_rules}
use Rattle.feature_account.specs.Accounts.{concluded_set}
use Rattle.feature_account_rules.specs.Closed.{IsOn}
use Rattle.guppy_package_table.specs.Tables.{TableValue, IsTableOf}
use Rattle.test_select_features.specs.LinesOn.{is_line_on, line_is_on, links_on, rows_of}
use Rattle.test_select_features.specs.Switching.{AreOn}
use Rattle.test_select_rules.specs.Binaries.{Binary}
use Rattle.test_select_rules.specs.OnLines.{IsAvailable}
use Rattle.test_select_tests.specs.Following.{IsFollowedIn}
use Rattle.test_select_tests.specs.Questions.{IsFeatureOn, Question}
use Rattle.test_select_tests.specs.Readings.{Readings}
use Rattle.test_select_tests.specs.Selecting.{IsAnswered, IsAsked, IsAvailableBinary, IsChosen, IsReport}
use Rattle.test_select_tests.specs.declared.scope.LinkScope.{LinkScope}
use Rattle.test_select_tests.specs.declared.scope.LinkScope.TheVariants.{SwitchedOn, Declared}
use Rattle.test_select_laws.specs.Tables.{HaveOneAnswer, SelectionsAskForAnswers}

module _ (t u : PlatformTable) (alike : HaveOneAnswer t u) where
  pub in_force_alike : (spec : Option Text) → is_in_force t spec ≡ is_in_force u spec
  in_force_alike None = refl
  in_force_alike (Some spec) = ap₂ unwrap_or (alike.answers spec) alike.unknown_counts

  module _ (w : Workspace) where
    counts_alike : (source : Text) (line : Line) → counts w t source line ≡ counts w u source line
    counts_alike source line =
        ap (λ f. counts_for (is_workspace_package w source) line.kind && f) (in_force_alike line.spec)

    lines_alike : (link : Link) → counting_lines w t link ≡ counting_lines w u link
    lines_alike link = ap (λ p. filter p link.lines) (fun_ext (counts_alike link.from))

    slash_alike : (p : Package) (name feature : Text) (link : Link) → slash_lines w t p name feature link ≡ slash_lines w u p name feature link
    slash_alike p name feature link =
        ap (λ lines. if is_slash_link w p name feature link then lines else []) (lines_alike link)

    targets_alike : (p : Package) (name feature : Text) (link : Link) → strong_targets w t p name feature link ≡ strong_targets w u p name feature link
    targets_alike p name feature link = ap (map (λ _. named_of link.to feature)) (slash_alike p name feature link)

    strong_alike : (p : Package) (name feature : Text) → strong_features w t p name feature ≡ strong_features w u p name feature
    strong_alike p name feature =
        ap (λ f. flat_map f w.links ++ dependency_features p name) (fun_ext (targets_alike p name feature))

    weak_alike : (p : Package) (f : FeatureValue) (name feature : Text) (link : Link) → weak_rules w t p f name feature link ≡ weak_rules w u p f name feature link
    weak_alike p f name feature link =
        ap (map (weak_rule f p name (named_of link.to feature))) (slash_alike p name feature link)

    entry_alike : (p : Package) (f : FeatureValue) (entry : EntryValue) → rules_of_entry w t p f entry ≡ rules_of_entry w u p f entry
    entry_alike p f (OwnFeature name) = refl
    entry_alike p f (Dependency name) = refl
    entry_alike p f (Strong name feature) = ap (map (implies f)) (strong_alike p name feature)
    entry_alike p f (Weak name feature) = ap (λ g. flat_map g w.links) (fun_ext (weak_alike p f name feature))

    feature_alike : (p : Package) (f : FeatureEntry) → feature_rules w t p f ≡ feature_rules w u p f
    feature_alike p f =
        ap (λ g. flat_map g f.enables) (fun_ext (λ e. entry_alike p (named_of p.id f.name) (entry_value e)))

    package_alike : (p : Package) → entry_rules w t p ≡ entry_rules w u p
    package_alike p = ap (λ g. flat_map g p.features) (fun_ext (feature_alike p))

    link_alike : (link : Link) → link_rules w t link ≡ link_rules w u link
    link_alike link = ap (flat_map (line_rules w link)) (lines_alike link)

    pub rules_alike : (choice : Choice) → rule_list w choice t ≡ rule_list w choice u
    rules_alike choice =
        ap₂ (λ es ls. map given (chosen_features w choice) ++ (flat_map base_rules (first_of_each w.packages) ++ (flat_map es (first_of_each w.packages) ++ flat_map ls w.links))) (fun_ext package_alike) (fun_ext link_alike)

  -- ---- lines that are on

  line_on_alike : (in_workspace : Bool) (on : List FeatureValue) (link : Link) (line : Line) → line_is_on in_workspace on t link line ≡ line_is_on in_workspace on u link line
  line_on_alike in_workspace on link line =
      ap (λ f. (counts_for in_workspace line.kind && f) && concluded_set on (line_start link line)) (in_force_alike line.spec)

  pub links_on_alike : (g : TableValue) (on : List FeatureValue) → links_on g on t ≡ links_on g on u
  links_on_alike g on =
      let alike : (λ (link : Link) (line : Line). is_line_on g on t link line) ≡ (λ link line. is_line_on g on u link line) =
      fun_ext (λ link. fun_ext (line_on_alike (is_workspace_package (rows_of g) link.from) on link)) in
      ap (λ (is_on : Link → Line → Bool). map (λ (link : Link). record link { lines = filter (is_on link) link.lines }) (filter (λ (link : Link). list_any (is_on link) link.lines) g.links)) alike

  followed_alike : (scope : LinkScope) (w : Workspace) (on : List FeatureValue) (g : TableValue) → IsFollowedIn scope w on t g → IsFollowedIn scope w on u g
  followed_alike Declared w on g h = h
  followed_alike SwitchedOn w on g h =
      (h.0, h.1, subst (λ links. IsTableOf h.0.packages links h.0.workspace g) (links_on_alike h.0 on) h.2)

-- as they answer alike, so they do the other way round
other_way : (t u : PlatformTable) → HaveOneAnswer t u → HaveOneAnswer u t
other_way t u alike = record { answers = λ spec. sym (alike.answers spec); unknown_counts = sym alike.unknown_counts }

-- ---- selections

module _ (q : Question) (known : PlatformTable) (alike : HaveOneAnswer q.table known) where
  abbrev there : Question
  there = record q { table = known }

  on_there : (f : FeatureValue) → IsFeatureOn q f → IsFeatureOn there f
  on_there f h = subst (λ rules. IsOn rules f) (rules_alike q.table known alike q.workspace q.choice) h

  on_here : (f : FeatureValue) → IsFeatureOn there f → IsFeatureOn q f
  on_here f h = subst (λ rules. IsOn rules f) (sym (rules_alike q.table known alike q.workspace q.choice)) h

  pub available_there : (b : Binary) → IsAvailableBinary q b → IsAvailableBinary there b
  available_there b h = record {
    declared = h.declared;
    available = subst (λ rules. IsAvailable (IsOn rules) b) (rules_alike q.table known alike q.workspace q.choice) h.available;
  }

  are_on_there : (on : List FeatureValue) → AreOn q.workspace q.choice q.table on → AreOn q.workspace q.choice known on
  are_on_there on h = record {
    served = h.served;
    members = λ f. (λ inside. on_there f ((h.members f).0 inside), λ is_on. (h.members f).1 (on_here f is_on));
    ascending = h.ascending;
  }

  answered_there : (r : Readings) → IsAnswered q r → IsAnswered there r
  answered_there r h = record {
    checked = h.checked;
    known = h.known;
    read = record {
      spelled = record { texts = h.read.spelled.texts; on = λ id name is_on. h.read.spelled.on id name (on_here _ is_on) };
      names = h.read.names;
      followed = (h.read.followed.0, are_on_there h.read.followed.0 h.read.followed.1, followed_alike q.table known alike q.scope q.workspace h.read.followed.0 r.context.graph h.read.followed.2, h.read.followed.3);
      groups = h.read.groups;
      filters = h.read.filters;
      texts = h.read.texts;
    };
    accepted = h.accepted;
  }

  pub chosen_there : (r : Readings) (listing_of : Text → Option (List Text)) (pair : Text × Text) → IsChosen q r listing_of pair → IsChosen there r listing_of pair
  chosen_there r listing_of pair h = record {
    binary = h.binary;
    available = available_there h.binary h.available;
    id = h.id;
    names = h.names;
    listing = h.listing;
    listed = h.listed;
    holds = h.holds;
    default_holds = h.default_holds;
  }

module _ (q : Question) (known : PlatformTable) (alike : HaveOneAnswer q.table known) (r : Readings) where
  back : HaveOneAnswer known q.table
  back = other_way q.table known alike

  asked_there : (ids : List Text) → IsAsked q r ids → IsAsked (record q { table = known }) r ids
  asked_there ids h = record {
    members = λ id. (
      λ inside. let b = (h.members id).0 inside in (b.0, b.1, available_there q known alike b.0 b.2, b.3),
      λ b. (h.members id).1 (b.0, b.1, available_there (record q { table = known }) q.table back b.0 b.2, b.3),
    );
    ascending = h.ascending;
  }

  report_there : (listing_of : Text → Option (List Text)) (pairs : List (Text × Text)) → IsReport q r listing_of pairs → IsReport (record q { table = known }) r listing_of pairs
  report_there listing_of pairs h = record {
    members = λ pair. (
      λ inside. chosen_there q known alike r listing_of pair ((h.members pair).0 inside),
      λ chosen. (h.members pair).1 (chosen_there (record q { table = known }) q.table back r listing_of pair chosen),
    );
    byte_names = h.byte_names;
    ascending = h.ascending;
  }

-- a selection is one of another table of the same answers too
pub selects_there : SelectionsAskForAnswers
selects_there q known old new selection alike h = record {
  readings = h.readings;
  answered = answered_there q known alike h.readings h.answered;
  asked = asked_there q known alike h.readings selection.asked h.asked;
  lister = h.lister;
  not_full = h.not_full;
  well_formed = h.well_formed;
  report = report_there q known alike h.readings old.listing_of selection.chosen h.report;
}
