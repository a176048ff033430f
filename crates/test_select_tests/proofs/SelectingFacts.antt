-- From a plan that was carried out to the answer of the question.
use Rattle.std.proofs.Common.{◌≡◌, ◌<◌, length, All, List, refl, sym, subst, ◌↔◌, Contains, inl, inr, Option, Result, Ok, Err}
use Rattle.std.specs.List.Sorted.{IsStrictlySortedBy}
use Rattle.list_facts.specs.Ascending.{IsAscendingOf, pair_cmp, text_cmp}
use Rattle.list_facts.proofs.Ascending.{one_ascending, pair_total, pair_exact, text_total, text_exact}
use Rattle.workspace_record.specs.Records.{Text}
use Rattle.nextest_binaries.specs.Listers.{Shown, Asked, largest}
use Rattle.nextest_binaries.specs.Asking.{HoldsWellFormed}
use Rattle.test_select_rules.specs.Binaries.{Binary}
use Rattle.test_select_checks.specs.declared.select_error.SelectError.{SelectError}
use Rattle.test_select_checks.specs.declared.select_error.SelectError.TheVariants.{Record, UnknownExtra, Filter as BadFilter, Lister, BadListing, Memory}
use Rattle.test_select_tests.specs.Choosing.{ids_of, IsMatched, IsCarriedOut, CarriesOut}
use Rattle.test_select_tests.specs.Plans.{IsPlan, PassesIn, Plans}
use Rattle.test_select_rules.specs.Asked.{test_asked}
use Rattle.test_select_tests.specs.QuestionFilters.{CompiledQuestion}
use Rattle.test_select_tests.specs.Questions.{Question}
use Rattle.test_select_tests.specs.Readings.{Readings}
use Rattle.test_select_tests.specs.Selecting.{Answers, DefaultHolds, IsAsked, IsChosen, IsLetThrough, ListsIds, Selects, TextsHold}
use Rattle.test_select_tests.specs.Selections.{Selected}
use Rattle.test_select_tests.specs.declared.asked_binaries.AskedBinaries.{AskedBinaries}
use Rattle.test_select_tests.proofs.MayFacts.{default_may, filter_may}
use Rattle.test_select_tests.proofs.WantedFacts.{wanted_twice}

-- whether a test is chosen does not depend on which binaries are asked
module _ (q : Question) (r : Readings) (asks : AskedBinaries) (listing_of : Text → Option (List Text)) (pair : Text × Text) where
  pub chosen_too : IsChosen q r listing_of pair → IsChosen (record q { asks = asks }) r listing_of pair
  chosen_too h = record {
    binary = h.binary;
    available = record { declared = h.available.declared; available = h.available.available };
    id = h.id;
    names = h.names;
    listing = h.listing;
    listed = h.listed;
    holds = h.holds;
    default_holds = h.default_holds;
  }

  pub chosen_before : IsChosen (record q { asks = asks }) r listing_of pair → IsChosen q r listing_of pair
  chosen_before h = record {
    binary = h.binary;
    available = record { declared = h.available.declared; available = h.available.available };
    id = h.id;
    names = h.names;
    listing = h.listing;
    listed = h.listed;
    holds = h.holds;
    default_holds = h.default_holds;
  }

-- two ascending lists of the same pairs are one
pub one_report : {a b : List (Text × Text)} → ((pair : Text × Text) → Contains a pair ↔ Contains b pair) → IsStrictlySortedBy pair_cmp a → IsStrictlySortedBy pair_cmp b → a ≡ b
one_report {a} {b} same ascending other =
    let itself : IsAscendingOf pair_cmp a a = record { members = λ pair. (λ h. h, λ h. h); ascending = ascending } in
    let two : IsAscendingOf pair_cmp a b = record { members = λ pair. (λ h. (same pair).1 h, λ h. (same pair).0 h); ascending = other } in
    one_ascending pair_total pair_exact a a b itself two

module _ (q : Question) where
  -- the ids to ask for are one list
  pub one_asked : (r : Readings) (a b : List Text) → IsAsked q r a → IsAsked q r b → a ≡ b
  one_asked r a b p o =
      let itself : IsAscendingOf text_cmp a a = record { members = λ id. (λ h. h, λ h. h); ascending = p.ascending } in
      let other : IsAscendingOf text_cmp a b = record { members = λ id. (λ h. (p.members id).1 ((o.members id).0 h), λ h. (o.members id).1 ((p.members id).0 h)); ascending = o.ascending } in
      one_ascending text_total text_exact a a b itself other

  -- the ids of a plan's binaries are those that the question asks
  pub lists_ids : (filters : CompiledQuestion) (asked : List Binary) → IsPlan q filters asked → (ids : List Text) → ids ≡ ids_of asked → ListsIds q ids
  lists_ids filters asked plan ids same =
      record { readings = plan.readings; answered = plan.answered; asked = subst (IsAsked q plan.readings) (sym same) plan.ids }

  -- where a text and the default filter hold of a test, it is not denied that its binary is let through
  pub let_through_twice : (r : Readings) (b : Binary) (test : Text) → TextsHold q r b test → DefaultHolds q r b test → (IsLetThrough q r b → ⊥) → ⊥
  let_through_twice r b test h default out =
      filter_may r.context r.filters (test_asked b test) h.0 h.2 (λ may. default_may r.context r.filters (test_asked b test) default (λ gives. out ((h.0, h.1, may), gives)))

  module _ (filters : CompiledQuestion) (asked : List Binary) (plan : IsPlan q filters asked) (old : Shown) where
    -- a test is matched in a planned binary exactly where it is chosen
    matched_iff : (pair : Text × Text) → IsMatched (PassesIn filters) asked old.listing_of pair ↔ IsChosen q plan.readings old.listing_of pair
    matched_iff pair =
        let there : IsMatched (PassesIn filters) asked old.listing_of pair → IsChosen q plan.readings old.listing_of pair = λ m.
        let passes = (plan.passes m.binary pair.1).0 m.is_held in
        record {
          binary = m.binary;
          available = ((plan.binaries m.binary).0 m.is_asked).0;
          id = m.id;
          names = m.names;
          listing = m.listing;
          listed = m.listed;
          holds = passes.0;
          default_holds = passes.1;
        } in
        let back : IsChosen q plan.readings old.listing_of pair → IsMatched (PassesIn filters) asked old.listing_of pair = λ h. record {
          binary = h.binary;
          is_asked = (plan.binaries h.binary).1 (h.available, plan.decided h.binary h.available (wanted_twice q.asks (let_through_twice plan.readings h.binary pair.1 h.holds h.default_holds)));
          id = h.id;
          names = h.names;
          listing = h.listing;
          listed = h.listed;
          is_held = (plan.passes h.binary pair.1).1 (h.holds, h.default_holds);
        } in
        (there, back)

    selects : (s : Selected) (new : Shown) → IsCarriedOut (PassesIn filters) asked old s new → Selects q old s new
    selects s new done = record {
      readings = plan.readings;
      answered = plan.answered;
      asked = subst (IsAsked q plan.readings) (sym done.ids) plan.ids;
      lister = subst (λ ids. Asked old ids new) (sym done.ids) done.lister;
      not_full = subst (λ ids. 0 < length ids → old.failures < largest) (sym done.ids) done.not_full;
      well_formed = subst (All (HoldsWellFormed old)) (sym done.ids) done.well_formed;
      report = record {
        members = λ pair. (λ h. (matched_iff pair).0 ((done.chosen pair).0 h), λ h. (done.chosen pair).1 ((matched_iff pair).1 h));
        byte_names = done.byte_names;
        ascending = done.ascending;
      };
    }

    -- and so the answer of the plan is that of the question
    pub answers_question : (r : Result Selected SelectError) (new : Shown) → CarriesOut (PassesIn filters) asked old r new → Answers q old r new
    answers_question (Ok s) new h = selects s new h
    answers_question (Err (Record e)) new h = absurd h
    answers_question (Err (UnknownExtra place)) new h = absurd h
    answers_question (Err (BadFilter place faults)) new h = absurd h
    answers_question (Err (Lister id)) new h = record { readings = plan.readings; answered = plan.answered; ids = ids_of asked; asked = plan.ids; place = h.place; at = h.at; failed = h.failed }
    answers_question (Err (BadListing id fault)) new h = record { readings = plan.readings; answered = plan.answered; ids = ids_of asked; asked = plan.ids; place = h.place; at = h.at; faulty = h.faulty }
    answers_question (Err Memory) new h = inr (record { readings = plan.readings; answered = plan.answered; ids = ids_of asked; asked = plan.ids; begun = h })

-- a question that is refused while it is planned changes no lister
pub plan_refused : (q : Question) (old : Shown) (e : SelectError) → Plans q (Err e) → Answers q old (Err e) old
plan_refused q old (Record e) h = (h, refl)
plan_refused q old (UnknownExtra place) h = (h.0, h.1, refl)
plan_refused q old (BadFilter place faults) h = (h, refl)
plan_refused q old (Lister id) h = absurd h
plan_refused q old (BadListing id fault) h = absurd h
plan_refused q old Memory h = inl refl
