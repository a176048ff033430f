-- Tests chosen from listings, one binary after another.
use Rattle.std.proofs.Common.{◌≡◌, ◌↔◌, ◌⊎◌, inl, inr, ⊎_elim, ℕ, List, [], ◌∷◌, ◌++◌, length, take, map, refl, sym, ◌∙◌, ap, subst, Contains, Some, Option, String, Vec, string_bytes, arith, drop, take_all}
use Rattle.std.proofs.lemmas.List.{append-nil, drop_all, length-map, map-append}
use Rattle.std.specs.Global.{Global}
use Rattle.std.specs.List.{zip}
use Rattle.list_facts.specs.Ascending.{IsAscendingOf, pair_cmp}
use Rattle.list_facts.specs.Texts.{texts}
use Rattle.list_facts.proofs.Membership.{Contains-none, Contains-first, Contains-rest, Contains-cons_cases, Contains-append_left, Contains-append_right, Contains-append_cases, Contains-map, Contains-map_cases}
use Rattle.list_facts.proofs.Lists.{map-map}
use Rattle.workspace_record.specs.Records.{Text}
use Rattle.nextest_binaries.specs.Listers.{Shown}
use Rattle.nextest_binaries.specs.Asking.{Answered, AskedSome}
use Rattle.nextest_binaries.specs.declared.binary_info.BinaryInfo.{BinaryInfo}
use Rattle.nextest_binaries.proofs.Asking.{asked_all}
use Rattle.test_select_rules.specs.Binaries.{Binary}
use Rattle.test_select_rules.specs.BinaryView.{binary_view}
use Rattle.test_select_rules.specs.declared.test_binary.TestBinary.{TestBinary}
use Rattle.nextest_binaries.specs.Queries as asked
use Rattle.nextest_filtering.specs.SameFilters.{AreBytes}
use Rattle.test_select_tests.specs.Choosing.{AreListed, IsCarriedOut, IsListed, IsMatched, IsTestOf, ids_of}
use Rattle.test_select_tests.specs.Kept.{Adds}
use Rattle.test_select_tests.specs.Passing.{ArePassing, IsPassing}
use Rattle.test_select_tests.specs.Plans.{PassesIn}
use Rattle.test_select_rules.specs.Asked.{binary_asked}
use Rattle.test_select_tests.specs.QuestionFilters.{CompiledQuestion, Pass}
use Rattle.test_select_tests.specs.Selections.{Selected}
use Rattle.test_select_rules.specs.Told.{Told, told_by, told_of}
use Rattle.test_select_tests.proofs.KeptFacts.{adds_none, adds_one, adds_then}

-- the ids that are told are the ids of the binaries
pub ids_told : (infos : List BinaryInfo) (bs : List Binary) → map told_by infos ≡ map told_of bs → map (λ (i : BinaryInfo). i.id.now) infos ≡ ids_of bs
ids_told infos bs h = sym (map-map (λ (t : Told). t.id) told_by infos) ∙ ap (map (λ (t : Told). t.id)) h ∙ map-map (λ (t : Told). t.id) told_of bs

-- all ids were asked, under the name that they were told by
pub begun_all : (old new : Shown) (told ids : List Text) (answers : List (List Text)) → told ≡ ids → Answered old told answers new → AskedSome old ids new
begun_all old new told ids answers same h = subst (λ all. AskedSome old all new) same (asked_all old new told answers h)

pub some_exact : {X : Type 0} {x y : X} → Some x ≡ Some y → x ≡ y
some_exact e = cc

-- elements that were lent and are seen as before
pub lent_back : {X Y : Type 0} (f : X → Y) (old new : List X) (n : ℕ) → n ≡ length old → map f new ≡ map f old → map f (take n (new ++ drop (length new) old)) ≡ map f old
lent_back f old new n count same =
    let size : length new ≡ length old = sym (length-map new f) ∙ ap length same ∙ length-map old f in
    let whole : new ++ drop (length new) old ≡ new = ap (λ ys. new ++ ys) (drop_all (length new) old (omega arith)) ∙ append-nil new in
    ap (λ ys. map f (take n ys)) whole ∙ ap (map f) (take_all n new (omega arith)) ∙ same

-- names of one binary of which the filters hold
module _ (filters : CompiledQuestion) (b : asked.Binary) where
  names_cases : (front : List Text) (last name : Text) → IsPassing filters b (front ++ last ∷ []) name ↔ (IsPassing filters b front name ⊎ IsPassing filters b (last ∷ []) name)
  names_cases front last name = (
    λ h. ⊎_elim (λ i. inl (record { named = i; passes = h.passes })) (λ i. inr (record { named = i; passes = h.passes })) (Contains-append_cases front (last ∷ []) name h.named),
    λ s. ⊎_elim (λ h. record { named = Contains-append_left front (last ∷ []) name h.named; passes = h.passes }) (λ h. record { named = Contains-append_right front (last ∷ []) name h.named; passes = h.passes }) s,
  )

  -- one name more of a listing
  pub one_name_more : (names : List (String Global)) (last : String Global) (old mid new : List Text) → Adds (IsPassing filters b (texts names)) old mid → Adds (IsPassing filters b (string_bytes last ∷ [])) mid new → Adds (IsPassing filters b (texts (names ++ last ∷ []))) old new
  one_name_more names last old mid new first second =
      rw (map-append string_bytes names (last ∷ [])) (adds_then _ _ _ old mid new first second (names_cases (texts names) (string_bytes last)))

  -- one name, of whose test they hold or do not
  pub passing_added : (name : Text) (old new : List Text) → Pass filters (record { binary = b; name = name }) → new ≡ old ++ name ∷ [] → Adds (IsPassing filters b (name ∷ [])) old new
  passing_added name old new holds grown =
      adds_one _ old new name grown (record { named = Contains-first name []; passes = holds }) (λ other h. ⊎_elim (λ e. e) (λ n. absurd (Contains-none other n)) (Contains-cons_cases name [] other h.named))

  pub not_passing : (name : Text) (xs : List Text) → (Pass filters (record { binary = b; name = name }) → ⊥) → Adds (IsPassing filters b (name ∷ [])) xs xs
  not_passing name xs fails =
      adds_none _ xs (λ other h. ⊎_elim (λ e. fails (subst (λ n. Pass filters (record { binary = b; name = n })) (sym e) h.passes)) (λ n. Contains-none other n) (Contains-cons_cases name [] other h.named))

  -- the names that were found, in another order
  pub passing_in_order : (names found sorted : List Text) → Adds (IsPassing filters b names) [] found → ((x : Text) → Contains sorted x ↔ Contains found x) → ArePassing filters b names sorted
  passing_in_order names found sorted added same name = (
    λ h. ⊎_elim (λ n. absurd (Contains-none name n)) (λ p. p) ((added name).0 ((same name).0 h)),
    λ p. (same name).1 ((added name).1 (inr p)),
  )

-- the tests of these names, under the id of a binary of the record
pub tests_added : (filters : CompiledQuestion) (b : Binary) (a : asked.Binary) (names passing : List (String Global)) (old new : List (Text × Text)) → a ≡ binary_asked b → ArePassing filters a (texts names) (texts passing) → new ≡ old ++ map (λ (t : String Global). (b.id, string_bytes t)) passing → Adds (IsTestOf (PassesIn filters) b names) old new
tests_added filters b a names passing old new same are grown pair =
    let under : String Global → Text × Text = λ t. (b.id, string_bytes t) in
    let to : Contains (map under passing) pair → IsTestOf (PassesIn filters) b names pair = λ h.
    let (t, there, is) = Contains-map_cases under passing pair h in
    let p = (are (string_bytes t)).0 (Contains-map string_bytes passing t there) in
    subst (IsTestOf (PassesIn filters) b names) is (record { id = refl; listed = p.named; is_held = subst (λ x. Pass filters (record { binary = x; name = string_bytes t })) same p.passes }) in
    let from : IsTestOf (PassesIn filters) b names pair → Contains (map under passing) pair = λ h.
    let p : IsPassing filters a (texts names) pair.1 = record { named = h.listed; passes = subst (λ x. Pass filters (record { binary = x; name = pair.1 })) (sym same) h.is_held } in
    let (t, there, is) = Contains-map_cases string_bytes passing pair.1 ((are pair.1).1 p) in
    subst (Contains (map under passing)) (λ i. (h.id i, is i)) (Contains-map under passing t there) in
    rw grown (
      λ h. ⊎_elim (λ l. inl l) (λ r. inr (to r)) (Contains-append_cases old (map under passing) pair h),
      λ s. ⊎_elim (λ l. Contains-append_left old (map under passing) pair l) (λ t. Contains-append_right old (map under passing) pair (from t)) s,
    )

module _ (holds : Binary → Text → Type 0) where
  -- the tests of one binary more
  pub listed_more : (entries : List (TestBinary × Vec (String Global) Global)) (b : TestBinary) (names : Vec (String Global) Global) (old mid new : List (Text × Text)) → Adds (IsListed holds entries) old mid → Adds (IsTestOf holds (binary_view b) names.items) mid new → Adds (IsListed holds (entries ++ (b, names) ∷ [])) old new
  listed_more entries b names old mid new first second =
      let entry : TestBinary × Vec (String Global) Global = (b, names) in
      adds_then (IsListed holds entries) (IsTestOf holds (binary_view b) names.items) (IsListed holds (entries ++ entry ∷ [])) old mid new first second (λ pair. (
        λ h. ⊎_elim (λ a. inl (record { entry = h.entry; among = a; is_its = h.is_its })) (λ a. ⊎_elim (λ e. inr (subst (λ (x : TestBinary × Vec (String Global) Global). IsTestOf holds (binary_view x.0) x.1.items pair) (sym e) h.is_its)) (λ n. absurd (Contains-none h.entry n)) (Contains-cons_cases entry [] h.entry a)) (Contains-append_cases entries (entry ∷ []) h.entry h.among),
        λ s. ⊎_elim (λ h. record { entry = h.entry; among = Contains-append_left entries (entry ∷ []) h.entry h.among; is_its = h.is_its }) (λ t. record { entry = entry; among = Contains-append_right entries (entry ∷ []) entry (Contains-first entry []); is_its = t }) s,
      ))

  -- the listings of all binaries, sorted
  pub listed_all : (asked : List TestBinary) (listings : List (Vec (String Global) Global)) (found sorted : List (Text × Text)) → Adds (IsListed holds (zip asked listings)) [] found → IsAscendingOf pair_cmp found sorted → AreListed holds asked listings sorted
  listed_all asked listings found sorted added ascending = record {
    members = λ pair. (
      λ h. ⊎_elim (λ n. absurd (Contains-none pair n)) (λ l. l) ((added pair).0 ((ascending.members pair).0 h)),
      λ l. (ascending.members pair).1 ((added pair).1 (inr l)),
    );
    ascending = ascending.ascending;
  }

  module _ (listing_of : Text → Option (List Text)) where
    abbrev answers : List (Vec (String Global) Global) → List (List Text)
    answers listings = map (λ listing. texts listing.items) listings

    -- a binary at whose place a listing stands was asked, and the listing is the one that is held
    entry_held : (asked : List TestBinary) (listings : List (Vec (String Global) Global)) → map Some (answers listings) ≡ map listing_of (ids_of (map binary_view asked)) → (entry : TestBinary × Vec (String Global) Global) → Contains (zip asked listings) entry → Contains (map binary_view asked) (binary_view entry.0) × (listing_of (binary_view entry.0).id ≡ Some (texts entry.1.items))
    entry_held [] listings held entry i = absurd (Contains-none entry i)
    entry_held (b ∷ bs) [] held entry i = absurd (Contains-none entry i)
    entry_held (b ∷ bs) (l ∷ ls) held entry i =
        let here : Some (texts l.items) ≡ listing_of (binary_view b).id = cc in
        let later : map Some (answers ls) ≡ map listing_of (ids_of (map binary_view bs)) = cc in
        ⊎_elim
        (λ e. subst (λ (x : TestBinary × Vec (String Global) Global). Contains (map binary_view (b ∷ bs)) (binary_view x.0) × (listing_of (binary_view x.0).id ≡ Some (texts x.1.items))) e (Contains-first (binary_view b) (map binary_view bs), sym here))
        (λ r. let h = entry_held bs ls later entry r in (Contains-rest (binary_view b) (map binary_view bs) (binary_view entry.0) h.0, h.1))
        (Contains-cons_cases (b, l) (zip bs ls) entry i)

    -- each binary that was asked has a listing at its place
    entry_found : (asked : List TestBinary) (listings : List (Vec (String Global) Global)) → map Some (answers listings) ≡ map listing_of (ids_of (map binary_view asked)) → (b : Binary) → Contains (map binary_view asked) b → (entry : TestBinary × Vec (String Global) Global) × Contains (zip asked listings) entry × (binary_view entry.0 ≡ b)
    entry_found [] listings held b i = absurd (Contains-none b i)
    entry_found (t ∷ ts) [] held b i = absurd cc
    entry_found (t ∷ ts) (l ∷ ls) held b i =
        let later : map Some (answers ls) ≡ map listing_of (ids_of (map binary_view ts)) = cc in
        ⊎_elim
        (λ e. ((t, l), Contains-first (t, l) (zip ts ls), e))
        (λ r. let h = entry_found ts ls later b r in (h.0, Contains-rest (t, l) (zip ts ls) h.0 h.1, h.2))
        (Contains-cons_cases (binary_view t) (map binary_view ts) b i)

    -- the listed tests are those that are matched
    pub each_iff : (asked : List TestBinary) (listings : List (Vec (String Global) Global)) → map Some (answers listings) ≡ map listing_of (ids_of (map binary_view asked)) → (pair : Text × Text) → IsListed holds (zip asked listings) pair ↔ IsMatched holds (map binary_view asked) listing_of pair
    each_iff asked listings held pair =
        let there : IsListed holds (zip asked listings) pair → IsMatched holds (map binary_view asked) listing_of pair = λ h.
        let e = entry_held asked listings held h.entry h.among in
        record { binary = binary_view h.entry.0; is_asked = e.0; id = h.is_its.id; names = texts h.entry.1.items; listing = e.1; listed = h.is_its.listed; is_held = h.is_its.is_held } in
        let back : IsMatched holds (map binary_view asked) listing_of pair → IsListed holds (zip asked listings) pair = λ m.
        let f = entry_found asked listings held m.binary m.is_asked in
        let e = entry_held asked listings held f.0 f.1 in
        let names : m.names ≡ texts f.0.1.items = some_exact (sym m.listing ∙ sym (ap (λ (x : Binary). listing_of x.id) f.2) ∙ e.1) in
        record {
          entry = f.0;
          among = f.1;
          is_its = record {
            id = ap (λ (x : Binary). x.id) f.2 ∙ m.id;
            listed = subst (λ ns. Contains ns pair.1) names m.listed;
            is_held = subst (λ (x : Binary). holds x pair.1) (sym f.2) m.is_held;
          };
        } in
        (there, back)

  -- what was asked and chosen is what the plan says
  pub carried_out : (asked : List TestBinary) (old new : Shown) (told : List Text) (listings : List (Vec (String Global) Global)) (chosen : List (Text × Text)) (ids : List Text) (s : Selected) → told ≡ ids_of (map binary_view asked) → Answered old told (map (λ listing. texts listing.items) listings) new → AreListed holds asked listings chosen → ((pair : Text × Text) → Contains chosen pair → AreBytes pair.1) → ids ≡ ids_of (map binary_view asked) → s ≡ record { chosen = chosen; asked = ids } → IsCarriedOut holds (map binary_view asked) old s new
  carried_out asked old new told listings chosen ids s telling answered listed byte_names all is =
      let done = subst (λ ts. Answered old ts (map (λ listing. texts listing.items) listings) new) telling answered in
      let each = each_iff old.listing_of asked listings done.held in
      subst (λ x. IsCarriedOut holds (map binary_view asked) old x new) (sym is) (record {
        ids = all;
        lister = done.asked;
        not_full = done.not_full;
        well_formed = done.well_formed;
        chosen = λ pair. (λ h. (each pair).0 ((listed.members pair).0 h), λ m. (listed.members pair).1 ((each pair).1 m));
        byte_names = byte_names;
        ascending = listed.ascending;
      })
