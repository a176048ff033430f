-- The binary that is looked for, and the first feature that it lacks.
use Rattle.std.proofs.Common.{◌≡◌, ◌∙◌, refl, sym, ap, subst, true≢false, ℕ, suc, Bool, true, false, cond, not, List, [], ◌∷◌, map, take, String, Global, string_bytes, bytes_eq, Contains, Some, None, slice_get, ⊎_elim}
use Rattle.std.specs.List.{find, list_any}
use Rattle.std.proofs.lemmas.List.{take-map}
use Rattle.std.proofs.lemmas.Option.{slice_get-map}
use Rattle.std.proofs.lemmas.Slice.Eq.{bytes_eq-Decides}
use Rattle.std.specs.Option.{option_map}
use Rattle.list_facts.proofs.Quantifiers.{list_any-from_Contains, list_any_cases}
use Rattle.list_facts.proofs.Membership.{Contains-none, Contains-first, Contains-rest, Contains-cons_cases, Contains-map, Contains-map_cases}
use Rattle.workspace_record.specs.Records.{Text}
use Rattle.workspace_record.specs.Features.{FeatureValue}
use Rattle.feature_account.specs.Accounts.{concluded_set}
use Rattle.feature_account_rules.specs.RuleList.{named_of}
use Rattle.feature_account.proofs.ConcludedFacts.{concluded_iff}
use Rattle.test_select_rules.specs.Binaries.{Binary}
use Rattle.test_select_rules.specs.BinaryView.{binary_view}
use Rattle.test_select_rules.specs.declared.test_binary.TestBinary.{TestBinary}
use Rattle.test_select_tests.specs.Reasons.{FindsOff}
use Rattle.test_select_tests.proofs.ChoosingFacts.{some_exact}

no_some : {X : Type 0} {x : X} → None ≡ Some x → ⊥
no_some e = cc

module _ {X : Type 0} (test : X → Bool) where
  -- what is found stands at a place and passes, and nothing before it does
  pub record IsFound (xs : List X) (x : X) : Type 0 where
    pub place : ℕ
    pub at : slice_get xs place ≡ Some x
    pub among : Contains xs x
    pub passes : test x ≡ true
    pub before : (y : X) → Contains (take place xs) y → test y ≡ false

  found_first : (y : X) (ys : List X) (x : X) → test y ≡ true → y ≡ x → IsFound (y ∷ ys) x
  found_first y ys x passes same = record {
    place = 0;
    at = ap Some same;
    among = subst (Contains (y ∷ ys)) same (Contains-first y ys);
    passes = subst (λ z. test z ≡ true) same passes;
    before = λ z none. absurd (Contains-none z none);
  }

  found_rest : (y : X) (ys : List X) (x : X) → test y ≡ false → IsFound ys x → IsFound (y ∷ ys) x
  found_rest y ys x fails rest = record {
    place = suc rest.place;
    at = rest.at;
    among = Contains-rest y ys x rest.among;
    passes = rest.passes;
    before = λ z i. ⊎_elim (λ e. subst (λ t. test t ≡ false) e fails) (λ r. rest.before z r) (Contains-cons_cases y (take rest.place ys) z i);
  }

  found_by : (y : X) (ys : List X) (x : X) (b : Bool) → test y ≡ b → cond b (Some y) (find test ys) ≡ Some x → (find test ys ≡ Some x → IsFound ys x) → IsFound (y ∷ ys) x
  found_by y ys x true passes is rest = found_first y ys x passes (some_exact is)
  found_by y ys x false fails is rest = found_rest y ys x fails (rest is)

  pub found : (xs : List X) (x : X) → find test xs ≡ Some x → IsFound xs x
  found [] x is = absurd (no_some is)
  found (y ∷ ys) x is = found_by y ys x (test y) refl is (found ys x)

  missed_by : (y : X) (ys : List X) (b : Bool) → test y ≡ b → cond b (Some y) (find test ys) ≡ None → (find test ys ≡ None → (x : X) → Contains ys x → test x ≡ false) → (x : X) → Contains (y ∷ ys) x → test x ≡ false
  missed_by y ys true passes is rest x i = absurd (no_some (sym is))
  missed_by y ys false fails is rest x i =
      ⊎_elim (λ e. subst (λ t. test t ≡ false) e fails) (λ r. rest is x r) (Contains-cons_cases y ys x i)

  -- where nothing is found, nothing passes
  pub missed : (xs : List X) → find test xs ≡ None → (x : X) → Contains xs x → test x ≡ false
  missed [] is x i = absurd (Contains-none x i)
  missed (y ∷ ys) is x i = missed_by y ys (test y) refl is (missed ys) x i

-- a binary is looked for by its id
module _ (id : Text) (all : List TestBinary) (bs : List Binary) (are : map binary_view all ≡ bs) where
  pub binary_found : (b : TestBinary) → find (λ b. bytes_eq (b.id) id) all ≡ Some b → Contains bs (binary_view b) × ((binary_view b).id ≡ id)
  binary_found b is =
      let it = found (λ (b : TestBinary). bytes_eq (b.id) id) all b is in (
        subst (λ xs. Contains xs (binary_view b)) are (Contains-map binary_view all b it.among),
        (bytes_eq-Decides (b.id) id).0 it.passes,
      )

  pub binary_missed : find (λ b. bytes_eq (b.id) id) all ≡ None → (b : Binary) → Contains bs b → b.id ≡ id → ⊥
  binary_missed is b among same =
      let it = Contains-map_cases binary_view all b (subst (λ xs. Contains xs b) (sym are) among) in
      let fails = missed (λ (b : TestBinary). bytes_eq (b.id) id) all is it.0 it.1 in
      true≢false (sym ((bytes_eq-Decides it.0.id id).1 (ap (λ (b : Binary). b.id) it.2 ∙ same)) ∙ fails)

not_true : {b : Bool} → not b ≡ true → b ≡ true → ⊥
not_true {b = true} e h = true≢false (sym e)
not_true {b = false} e h = true≢false (sym h)

not_false : {b : Bool} → not b ≡ false → b ≡ true
not_false {b = true} e = refl
not_false {b = false} e = absurd (true≢false e)

-- a feature that is off is looked for among those that the binary requires
module _ (on : List FeatureValue) (b : Binary) (names : List (String Global)) (same : b.target.required_features ≡ map string_bytes names) where
  abbrev is_off : String Global → Bool
  is_off name = not (concluded_set on (named_of b.owner.id (string_bytes name)))

  stands_on : (name : String Global) → is_off name ≡ false → Contains on (named_of b.owner.id (string_bytes name))
  stands_on name is = (concluded_iff on (named_of b.owner.id (string_bytes name))).0 (not_false is)

  pub off_found : (name : String Global) → find is_off names ≡ Some name → FindsOff (λ f. Contains on f) b (Some (string_bytes name))
  off_found name is =
      let it = found is_off names name is in
      record {
        place = it.place;
        at = ap (λ xs. slice_get xs it.place) same ∙ slice_get-map string_bytes names it.place ∙ ap (option_map string_bytes) it.at;
        off = λ h. not_true it.passes ((concluded_iff on (named_of b.owner.id (string_bytes name))).1 h);
        before = λ text i.
            let s = Contains-map_cases string_bytes (take it.place names) text (subst (λ xs. Contains xs text) (take-map string_bytes it.place names) (subst (λ xs. Contains (take it.place xs) text) same i)) in
            subst (λ t. Contains on (named_of b.owner.id t)) s.2 (stands_on s.0 (it.before s.0 s.1));
      }

  pub none_off : find is_off names ≡ None → FindsOff (λ f. Contains on f) b None
  none_off is text i =
      let s = Contains-map_cases string_bytes names text (subst (λ xs. Contains xs text) same i) in
      subst (λ t. Contains on (named_of b.owner.id t)) s.2 (stands_on s.0 (missed is_off names is s.0 s.1))

-- a name is looked for among names
module _ (names : List Text) (name : Text) where
  pub is_among : list_any (bytes_eq name) names ≡ true → Contains names name
  is_among is =
      let w = list_any_cases (bytes_eq name) names is in
      subst (Contains names) (sym ((bytes_eq-Decides name w.0).0 w.2)) w.1

  pub not_among : list_any (bytes_eq name) names ≡ false → Contains names name → ⊥
  not_among none i =
      true≢false (sym (list_any-from_Contains (bytes_eq name) names name i ((bytes_eq-Decides name name).1 refl)) ∙ none)
