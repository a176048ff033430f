-- Two selections over the same listings.
use Rattle.std.proofs.Common.{◌≡◌, ◌∙◌, refl, sym, ap, subst, Bool, true, false, true≢false, List, Contains, Option, bytes_eq}
use Rattle.std.specs.List.{list_any}
use Rattle.std.proofs.lemmas.Slice.Eq.{bytes_eq-Decides}
use Rattle.list_facts.proofs.Quantifiers.{list_any-from_Contains, list_any_cases}
use Rattle.workspace_record.specs.Records.{Text}
use Rattle.test_select_tests.specs.SelectionLaws.{ListedBinariesSuffice, SelectionsAskWhatIsListed, SelectionsReportAlike}
use Rattle.test_select_tests.specs.Questions.{Question}
use Rattle.test_select_tests.specs.Readings.{Readings}
use Rattle.test_select_tests.specs.Selecting.{IsAsked, IsChosen}
use Rattle.test_select_tests.specs.Selections.{report}
use Rattle.test_select_tests.proofs.ReadingFacts.{read_before, say_the_same}
use Rattle.test_select_tests.proofs.SelectingFacts.{chosen_before, chosen_too, let_through_twice, one_asked, one_report}
use Rattle.test_select_tests.proofs.WantedFacts.{wanted_twice}

-- a text that is not denied of being among others is one of them
settled : {A : Type 0} (b : Bool) → (b ≡ true → A) → (A → b ≡ true) → ((A → ⊥) → ⊥) → A
settled true listed made twice = listed refl
settled false listed made twice = absurd (twice (λ a. true≢false (sym (made a))))

among : (ids : List Text) (id : Text) → ((Contains ids id → ⊥) → ⊥) → Contains ids id
among ids id = settled (list_any (bytes_eq id) ids)
    (λ e. let x = list_any_cases (bytes_eq id) ids e in subst (Contains ids) (sym ((bytes_eq-Decides id x.0).0 x.2)) x.1)
    (λ inside. list_any-from_Contains (bytes_eq id) ids id inside ((bytes_eq-Decides id id).1 refl))

module _ (q : Question) (r : Readings) (listing_of : Text → Option (List Text)) (pair : Text × Text) (h : IsChosen q r listing_of pair) where
  -- the binary of a chosen test is asked
  asked_for : (ids : List Text) → IsAsked q r ids → Contains ids pair.0
  asked_for ids asked =
      among ids pair.0 (λ out. wanted_twice q.asks (let_through_twice q r h.binary pair.1 h.holds h.default_holds) (λ wanted. out ((asked.members pair.0).1 (h.binary, h.id, h.available, wanted))))

  -- it is chosen by any listings that list the same of its binary
  listed_alike : (others : Text → Option (List Text)) → listing_of pair.0 ≡ others pair.0 → IsChosen q r others pair
  listed_alike others same = record {
    binary = h.binary;
    available = h.available;
    id = h.id;
    names = h.names;
    listing = ap others h.id ∙ sym same ∙ ap listing_of (sym h.id) ∙ h.listing;
    listed = h.listed;
    holds = h.holds;
    default_holds = h.default_holds;
  }

pub report_alike : SelectionsReportAlike
report_alike q asks old new before after one other s o held =
    let same = say_the_same q s.readings o.readings s.answered.read (read_before q asks o.readings o.answered.read) in
    let there : (pair : Text × Text) → Contains one.chosen pair → Contains other.chosen pair = λ pair h.
    let chosen = (s.report.members pair).0 h in
    let moved = listed_alike q s.readings old.listing_of pair chosen before.listing_of (held pair.0 (asked_for q s.readings old.listing_of pair chosen one.asked s.asked)) in
    (o.report.members pair).1 (chosen_too q o.readings asks before.listing_of pair ((same.chosen before.listing_of pair (s.report.byte_names pair h)).0 moved)) in
    let back : (pair : Text × Text) → Contains other.chosen pair → Contains one.chosen pair = λ pair h.
    let chosen = (same.chosen before.listing_of pair (o.report.byte_names pair h)).1 (chosen_before q o.readings asks before.listing_of pair ((o.report.members pair).0 h)) in
    (s.report.members pair).1 (listed_alike q s.readings before.listing_of pair chosen old.listing_of (sym (held pair.0 (asked_for q s.readings before.listing_of pair chosen one.asked s.asked)))) in
    let alike = one_report (λ pair. (there pair, back pair)) s.report.ascending o.report.ascending in
    (alike, ap report alike)

pub asked_as_listed : SelectionsAskWhatIsListed
asked_as_listed q old new selection ids answer listed =
    let same = say_the_same q answer.readings listed.readings answer.answered.read listed.answered.read in
    one_asked q listed.readings selection.asked ids ((same.asked selection.asked).0 answer.asked) listed.asked

pub listed_suffice : ListedBinariesSuffice
listed_suffice q ids old new before after one other listed first second held =
    let asked = asked_as_listed q old new one ids first listed in
    report_alike q q.asks old new before after one other first second (λ id inside. held id (subst (λ xs. Contains xs id) asked inside))
