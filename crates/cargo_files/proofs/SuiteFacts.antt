-- Listings of test binaries, one binary more at a time.
use Rattle.std.proofs.Common.{◌≡◌, ℕ, ◌+◌, ◌<◌, Bool, List, [], ◌∷◌, ◌++◌, length, take, get_or, map, Contains, Option, Some, None, flat_map, String, Global, string_bytes, sym, ap, ◌∙◌, subst, ⊎_elim}
use Rattle.std.specs.Option.{option_map_or}
use Rattle.std.proofs.lemmas.Grind.{flat_map-append}
use Rattle.std.proofs.lemmas.List.{append-nil}
use Rattle.list_facts.proofs.Lists.{map-take_more}
use Rattle.list_facts.proofs.Membership.{Contains-append_cases, Contains-cons_cases, Contains-map, Contains-none}
use Rattle.serde_json.specs.Data.{Data}
use Rattle.workspace_record.specs.Records.{Text}
use Rattle.cargo_files.specs.Added.{IsAdded}
use Rattle.cargo_files.specs.Nextest.{suite_tests}
use Rattle.cargo_files.specs.Listed.{AreSuites, MayStand, suite_listing}
use Rattle.cargo_files.specs.Refused.{RefusesSuites, RefusesTests}
use Rattle.cargo_files.specs.declared.refusal.Refusal.{Refusal}
use Rattle.cargo_files.specs.declared.refusal.Refusal.TheVariants.{Choice, File, Memory, Metadata, NoJson, NoList, NoSuites, Record, Repeated, Settings, Spec, StrayLine, UnreadList}

module _ (list : Data) (built : Bool) where
  -- the tests of a binary that were added may stand, behind those of the others
  own_added : (id : Text) (tests : Option (List Text)) (old new : List (Text × List Text)) → IsAdded id tests built old new → MayStand built tests × (new ≡ old ++ option_map_or (λ names. (id, names) ∷ []) tests [])
  own_added id None old new added = (added.0, added.1 ∙ sym (append-nil old))
  own_added id (Some names) old new added = added

  pub suite_added : (id : Text) (tests : Option (List Text)) (old new : List (Text × List Text)) → tests ≡ suite_tests list id → IsAdded id tests built old new → MayStand built (suite_tests list id) × (new ≡ old ++ suite_listing list id)
  suite_added id tests old new is added =
      subst (λ o. MayStand built o × (new ≡ old ++ option_map_or (λ names. (id, names) ∷ []) o [])) is (own_added id tests old new added)

module _ (list : Data) (ids : List Text) (built : Bool) where
  -- one more binary is listed, behind the others
  pub suites_more : (listings new : List (Text × List Text)) (id : Text) → AreSuites list ids built listings → MayStand built (suite_tests list id) → new ≡ listings ++ suite_listing list id
      → AreSuites list (ids ++ id ∷ []) built new
  suites_more listings new id are stands added = record {
    listed = added ∙ ap (λ t. t ++ suite_listing list id) are.listed ∙ sym (flat_map-append (suite_listing list) ids (id ∷ []) ∙ ap (λ t. flat_map (suite_listing list) ids ++ t) (append-nil (suite_listing list id)));
    stand = λ other h. ⊎_elim (are.stand other)
        (λ own. ⊎_elim (λ e. subst (λ t. MayStand built (suite_tests list t)) e stands) (λ none. absurd (Contains-none other none)) (Contains-cons_cases id [] other own))
        (Contains-append_cases ids (id ∷ []) other h);
  }

  -- what refuses the tests of one of the binaries refuses the list
  pub refuses_one : (id : Text) (refusal : Refusal) → Contains ids id → RefusesTests id (suite_tests list id) built refusal → RefusesSuites list ids built refusal
  refuses_one id (NoList named) among refused = (id, among, refused)
  refuses_one id (Repeated named again) among refused = (id, among, refused)
  refuses_one id Memory among refused = tt
  refuses_one id NoSuites among refused = absurd refused
  refuses_one id NoJson among refused = absurd refused
  refuses_one id (Metadata e) among refused = absurd refused
  refuses_one id (Record e) among refused = absurd refused
  refuses_one id (Settings e) among refused = absurd refused
  refuses_one id (Spec e) among refused = absurd refused
  refuses_one id (Choice e) among refused = absurd refused
  refuses_one id (File e) among refused = absurd refused
  refuses_one id (UnreadList named) among refused = absurd refused
  refuses_one id (StrayLine named place) among refused = absurd refused

-- the binaries of the ids before a place, and the one there
module _ (list : Data) (ids : List (String Global)) (built : Bool) (i : ℕ) (item : String Global) (within : i < length ids) (is : item ≡ get_or ids i item) where
  pub suites_at : (listings new : List (Text × List Text)) (id : Text) → id ≡ string_bytes item
      → AreSuites list (map string_bytes (take i ids)) built listings → MayStand built (suite_tests list id) → new ≡ listings ++ suite_listing list id
      → AreSuites list (map string_bytes (take (i + 1) ids)) built new
  suites_at listings new id named are stands added =
      let taken = map-take_more string_bytes ids i item within ∙ ap (λ s. map string_bytes (take i ids) ++ s ∷ []) (ap string_bytes (sym is) ∙ sym named) in
      subst (λ t. AreSuites list t built new) (sym taken) (suites_more list (map string_bytes (take i ids)) built listings new id are stands added)

  pub named_at : (id : Text) → id ≡ string_bytes item → Contains (map string_bytes ids) id
  named_at id named = subst (λ t. Contains (map string_bytes ids) t) (sym named) (Contains-map string_bytes ids item (i, within, sym is))
