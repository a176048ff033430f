-- Filters that name no features say the same, whatever is said to be on.
use Rattle.std.proofs.Common.{◌≡◌, ◌↔◌, inl, inr, ⊎_elim, true≢false, Bool, true, false, List, [], ◌∷◌, Contains, Option}
use Rattle.list_facts.proofs.Membership.{Contains-first, Contains-rest}
use Rattle.workspace_record.specs.Records.{Text, Workspace}
use Rattle.guppy_package_parts.specs.declared.dependency_direction.DependencyDirection.{DependencyDirection}
use Rattle.guppy_package_parts.specs.declared.dependency_direction.DependencyDirection.TheVariants as direction
use Rattle.nextest_filter_tokens.specs.declared.heads.Predicate.TheVariants as predicate
use Rattle.nextest_filter_evaluation.specs.NameTests.{NameTest}
use Rattle.nextest_binaries.specs.Queries as asked
use Rattle.nextest_filter_evaluation.specs.Formulas.{Formula, has_leaf, Holds}
use Rattle.nextest_filter_evaluation.proofs.FormulaFacts.{each_map, each_without, gives_alike, holds_alike}
use Rattle.nextest_filtering.specs.Contexts.{ContextValue}
use Rattle.nextest_filtering.specs.Filters.{FilterLeaf, Named, Platform, Default, All}
use Rattle.nextest_filtering.specs.Filters as filter
use Rattle.nextest_filtering.specs.Meaning.{FilterLeafGives, FilterLeafHolds, IsMatched, IsReachedOf}
use Rattle.nextest_filtering.proofs.SameFacts.{gives_same, same}
use Rattle.test_select_checks.specs.Contexts.{HasNamesOf}
use Rattle.test_select_checks.specs.Groups.{IsGroupOf}
use Rattle.test_select_checks.specs.Meaning.{DefaultGivesIn, DefaultHoldsIn, GroupHoldsIn, HoldsIn, IsInGroup, MayHoldIn}
use Rattle.test_select_tests.specs.Questions.{Question, WantedIn}
use Rattle.test_select_rules.specs.Asked.{binary_asked, test_asked}
use Rattle.test_select_tests.specs.Readings.{Readings}
use Rattle.test_select_tests.specs.Selecting.{IsAsked, IsChosen, IsLetThrough}
use Rattle.test_select_tests.specs.declared.asked_binaries.AskedBinaries.{AskedBinaries}
use Rattle.test_select_tests.specs.declared.asked_binaries.AskedBinaries.TheVariants.{LetThrough, Available}
use Rattle.test_select_rules.specs.Binaries.{Binary}
use Rattle.test_select_laws.specs.Laws.{NameNoFeature, names_feature}

-- the context with nothing said to be on
abbrev pub plain_context : ContextValue → ContextValue
plain_context cx = record { graph = cx.graph; packages = cx.packages; binaries = cx.binaries; features = cx.features; on = [] }

abbrev pub plain : Readings → Readings
plain r = record { context = plain_context r.context; groups = r.groups; filters = r.filters; texts = r.texts }

pub plain_names : (w : Workspace) (cx : ContextValue) → HasNamesOf w cx → HasNamesOf w (plain_context cx)
plain_names w cx h = record {
  declared = h.declared;
  is_declared = h.is_declared;
  needed = record { graph = h.needed.graph; rows = h.needed.rows; are_rows = h.needed.are_rows; named = h.needed.named; built = h.needed.built; featured = h.needed.featured };
}

module _ (cx : ContextValue) (test : NameTest) where
  matched_plain : (id : Text) → IsMatched cx test id ↔ IsMatched (plain_context cx) test id
  matched_plain id = (
    λ h. record { found = h.found; listed = h.listed; suits = h.suits; is_its = h.is_its },
    λ h. record { found = h.found; listed = h.listed; suits = h.suits; is_its = h.is_its },
  )

  reached_plain : (d : DependencyDirection) (id : Text) → IsReachedOf cx (IsMatched cx test) d id ↔ IsReachedOf (plain_context cx) (IsMatched (plain_context cx) test) d id
  reached_plain d id = (
    λ h. record { found = h.found; listed = h.listed; is_its = h.is_its; start = h.start; starts_there = (matched_plain h.start).0 h.starts_there; leads = h.leads },
    λ h. record { found = h.found; listed = h.listed; is_its = h.is_its; start = h.start; starts_there = (matched_plain h.start).1 h.starts_there; leads = h.leads },
  )

module _ (cx : ContextValue) where
  module _ (member other : NameTest → Type 0) (default another : Type 0) (t : asked.Test) (members : (m : NameTest) → member m ↔ other m) (defaults : default ↔ another) where
    leaf_plain : (l : FilterLeaf) → names_feature l ≡ false → FilterLeafHolds cx member default t l ↔ FilterLeafHolds (plain_context cx) other another t l
    leaf_plain (Named predicate.Package test span) e = matched_plain cx test t.binary.package_id
    leaf_plain (Named predicate.Deps test span) e = reached_plain cx test direction.Forward t.binary.package_id
    leaf_plain (Named predicate.Rdeps test span) e = reached_plain cx test direction.Reverse t.binary.package_id
    leaf_plain (Named predicate.Kind test span) e = same _
    leaf_plain (Named predicate.Binary test span) e = same _
    leaf_plain (Named predicate.BinaryId test span) e = same _
    leaf_plain (Named predicate.Test test span) e = same _
    leaf_plain (Named predicate.Group test span) e = members test
    leaf_plain (Named predicate.Feature test span) e = absurd (true≢false e)
    leaf_plain (Platform platform span) e = same _
    leaf_plain (Default span) e = defaults
    leaf_plain All e = same _
    leaf_plain filter.None e = same _

    filter_plain : (f : Formula FilterLeaf) → has_leaf names_feature f ≡ false → Holds (FilterLeafHolds cx member default t) f ↔ Holds (FilterLeafHolds (plain_context cx) other another t) f
    filter_plain f none = holds_alike _ _ f (each_map _ _ f leaf_plain (each_without names_feature f none))

  module _ (default another : Bool → Type 0) (b : asked.Binary) (defaults : (v : Bool) → default v ↔ another v) where
    leaf_gives_plain : (l : FilterLeaf) → names_feature l ≡ false → (v : Bool) → FilterLeafGives cx default b l v ↔ FilterLeafGives (plain_context cx) another b l v
    leaf_gives_plain (Named predicate.Package test span) e v = gives_same _ _ (matched_plain cx test b.package_id) v
    leaf_gives_plain (Named predicate.Deps test span) e v = gives_same _ _ (reached_plain cx test direction.Forward b.package_id) v
    leaf_gives_plain (Named predicate.Rdeps test span) e v = gives_same _ _ (reached_plain cx test direction.Reverse b.package_id) v
    leaf_gives_plain (Named predicate.Kind test span) e v = same _
    leaf_gives_plain (Named predicate.Binary test span) e v = same _
    leaf_gives_plain (Named predicate.BinaryId test span) e v = same _
    leaf_gives_plain (Named predicate.Test test span) e v = same _
    leaf_gives_plain (Named predicate.Group test span) e v = same _
    leaf_gives_plain (Named predicate.Feature test span) e v = absurd (true≢false e)
    leaf_gives_plain (Platform platform span) e v = same _
    leaf_gives_plain (Default span) e v = defaults v
    leaf_gives_plain All e v = same _
    leaf_gives_plain filter.None e v = same _

-- the group of a test is one, where the groups' filters hold alike
group_same : (P Q : Formula FilterLeaf → Type 0) (gs : List (Text × Formula FilterLeaf)) → ((g : Text × Formula FilterLeaf) → Contains gs g → P g.1 ↔ Q g.1) → (name : Text) → IsGroupOf P gs name → IsGroupOf Q gs name
group_same P Q [] each name is = is
group_same P Q (g ∷ gs) each name is =
    let here = each g (Contains-first g gs) in
    ⊎_elim
    (λ first. inl (here.0 first.0, first.1))
    (λ later. inr ((λ holds. later.0 (here.1 holds)), group_same P Q gs (λ x inside. each x (Contains-rest g gs x inside)) name later.1))
    is

module _ (r : Readings) (none : NameNoFeature r) where
  module _ (t : asked.Test) where
    default_plain : DefaultHoldsIn r.context r.filters t ↔ DefaultHoldsIn (plain_context r.context) r.filters t
    default_plain = filter_plain r.context (λ _. ⊥) (λ _. ⊥) ⊥ ⊥ t (λ m. same ⊥) (same ⊥) r.filters.default none.default

    group_plain : (g : Text × Formula FilterLeaf) → Contains r.filters.groups g → GroupHoldsIn r.context r.filters t g.1 ↔ GroupHoldsIn (plain_context r.context) r.filters t g.1
    group_plain g listed = filter_plain r.context (λ _. ⊥) (λ _. ⊥) (DefaultHoldsIn r.context r.filters t) (DefaultHoldsIn (plain_context r.context) r.filters t) t (λ m. same ⊥) default_plain g.1 (none.groups g listed)

    in_group_plain : (m : NameTest) → IsInGroup r.context r.filters t m ↔ IsInGroup (plain_context r.context) r.filters t m
    in_group_plain m = (
      λ h. record { name = h.name; is_its = group_same (GroupHoldsIn r.context r.filters t) (GroupHoldsIn (plain_context r.context) r.filters t) r.filters.groups group_plain h.name h.is_its; suits = h.suits },
      λ h. record { name = h.name; is_its = group_same (GroupHoldsIn (plain_context r.context) r.filters t) (GroupHoldsIn r.context r.filters t) r.filters.groups (λ g listed. let same_group = group_plain g listed in (same_group.1, same_group.0)) h.name h.is_its; suits = h.suits },
    )

    text_plain : (f : Formula FilterLeaf) → Contains r.texts f → HoldsIn r.context r.filters t f ↔ HoldsIn (plain_context r.context) r.filters t f
    text_plain f listed = filter_plain r.context (IsInGroup r.context r.filters t) (IsInGroup (plain_context r.context) r.filters t) (DefaultHoldsIn r.context r.filters t) (DefaultHoldsIn (plain_context r.context) r.filters t) t in_group_plain default_plain f (none.texts f listed)

  module _ (b : asked.Binary) where
    default_gives_plain : (v : Bool) → DefaultGivesIn r.context r.filters b v ↔ DefaultGivesIn (plain_context r.context) r.filters b v
    default_gives_plain v =
        gives_alike _ _ r.filters.default (each_map _ _ r.filters.default (leaf_gives_plain r.context (λ _. Unit {0}) (λ _. Unit {0}) b (λ x. same (Unit {0}))) (each_without names_feature r.filters.default none.default)) v

    may_plain : (f : Formula FilterLeaf) → Contains r.texts f → MayHoldIn r.context r.filters b f ↔ MayHoldIn (plain_context r.context) r.filters b f
    may_plain f listed =
        gives_alike _ _ f (each_map _ _ f (leaf_gives_plain r.context (DefaultGivesIn r.context r.filters b) (DefaultGivesIn (plain_context r.context) r.filters b) b default_gives_plain) (each_without names_feature f (none.texts f listed))) true

  module _ (q : Question) where
    pub chosen_plain : (listing_of : Text → Option (List Text)) (pair : Text × Text) → IsChosen q r listing_of pair ↔ IsChosen q (plain r) listing_of pair
    chosen_plain listing_of pair = (
      λ h. record {
        binary = h.binary;
        available = h.available;
        id = h.id;
        names = h.names;
        listing = h.listing;
        listed = h.listed;
        holds = (h.holds.0, h.holds.1, (text_plain (test_asked h.binary pair.1) h.holds.0 h.holds.1).0 h.holds.2);
        default_holds = (default_plain (test_asked h.binary pair.1)).0 h.default_holds;
      },
      λ h. record {
        binary = h.binary;
        available = h.available;
        id = h.id;
        names = h.names;
        listing = h.listing;
        listed = h.listed;
        holds = (h.holds.0, h.holds.1, (text_plain (test_asked h.binary pair.1) h.holds.0 h.holds.1).1 h.holds.2);
        default_holds = (default_plain (test_asked h.binary pair.1)).1 h.default_holds;
      },
    )

    through_plain : (b : Binary) → IsLetThrough q r b ↔ IsLetThrough q (plain r) b
    through_plain b = (
      λ h. ((h.0.0, h.0.1, (may_plain (binary_asked b) h.0.0 h.0.1).0 h.0.2), (default_gives_plain (binary_asked b) true).0 h.1),
      λ h. ((h.0.0, h.0.1, (may_plain (binary_asked b) h.0.0 h.0.1).1 h.0.2), (default_gives_plain (binary_asked b) true).1 h.1),
    )

    wanted_plain : (asks : AskedBinaries) (b : Binary) → WantedIn asks (IsLetThrough q r b) ↔ WantedIn asks (IsLetThrough q (plain r) b)
    wanted_plain LetThrough b = through_plain b
    wanted_plain Available b = same _

    pub asked_plain : (ids : List Text) → IsAsked q r ids ↔ IsAsked q (plain r) ids
    asked_plain ids = (
      λ h. record {
        members = λ id. (
          λ there. let b = (h.members id).0 there in (b.0, b.1, b.2, (wanted_plain q.asks b.0).0 b.3),
          λ b. (h.members id).1 (b.0, b.1, b.2, (wanted_plain q.asks b.0).1 b.3),
        );
        ascending = h.ascending;
      },
      λ h. record {
        members = λ id. (
          λ there. let b = (h.members id).0 there in (b.0, b.1, b.2, (wanted_plain q.asks b.0).1 b.3),
          λ b. (h.members id).1 (b.0, b.1, b.2, (wanted_plain q.asks b.0).0 b.3),
        );
        ascending = h.ascending;
      },
    )
