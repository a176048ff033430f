-- The first group whose filter holds.
use Rattle.std.proofs.Common.{◌≡◌, ◌∙◌, ◌↔◌, inl, inr, ⊎_elim, sym, subst, true≢false, Bool, false, IsTrue, List, [], ◌∷◌, Result, Ok, Err, IfOk, String, BTreeSet, Contains, map, codes}
use Rattle.std.specs.Global.{Global}
use Rattle.list_facts.specs.Texts.{texts}
use Rattle.list_facts.proofs.Membership.{Contains-cons_cases, Contains-first, Contains-rest}
use Rattle.workspace_record.specs.Records.{Text, Group, Workspace}
use Rattle.nextest_filter_evaluation.specs.declared.groups.KnownGroups.TheVariants.{Known}
use Rattle.test_select_checks.specs.Alike.{AreAlike}
use Rattle.test_select_checks.specs.Groups.{AreGroupsOf, IsGroupOf}

module _ {F : Type 0} (holds : F → Type 0) where
  -- a group whose filter does not hold is passed over
  pub group_passed : (left rest all : List (Text × F)) (g : Text × F) (b : Bool) → left ≡ g ∷ rest → (IsTrue b ↔ holds g.1) → b ≡ false → ((name : Text) → IsGroupOf holds left name → IsGroupOf holds all name) → (name : Text) → IsGroupOf holds rest name → IsGroupOf holds all name
  group_passed left rest all g b steps says is_false was name h =
      was name (subst (λ gs. IsGroupOf holds gs name) (sym steps) (inr ((λ x. true≢false (sym (says.1 x) ∙ is_false)), h)))

  -- a group whose filter holds is the test's
  pub group_found : (left rest all : List (Text × F)) (g : Text × F) (b : Bool) (name : Text) → left ≡ g ∷ rest → (IsTrue b ↔ holds g.1) → IsTrue b → name ≡ g.0 → ((name : Text) → IsGroupOf holds left name → IsGroupOf holds all name) → IsGroupOf holds all name
  group_found left rest all g b name steps says is_true same was =
      was name (subst (λ gs. IsGroupOf holds gs name) (sym steps) (inl (says.0 is_true, sym same)))

  -- a test is in one group
  pub group_once : (all : List (Text × F)) (a b : Text) → IsGroupOf holds all a → IsGroupOf holds all b → a ≡ b
  group_once [] a b p r = sym p ∙ r
  group_once (g ∷ gs) a b p r =
      ⊎_elim
      (λ x. ⊎_elim (λ y. sym x.1 ∙ y.1) (λ y. absurd (y.0 x.0)) r)
      (λ x. ⊎_elim (λ y. absurd (x.0 y.0)) (λ y. group_once gs a b x.1 y.1) r)
      p

  -- so its group suits exactly if that name does
  pub suits_exactly : {E : Type 0} (all : List (Text × F)) (found : Text) (suits : Text → Type 0) (r : Result Bool E) → IsGroupOf holds all found → IfOk r (λ b. IsTrue b ↔ suits found) → IfOk r (λ b. IsTrue b ↔ ((name : Text) × IsGroupOf holds all name × suits name))
  suits_exactly all found suits (Ok b) is h = (λ x. (found, is, h.0 x), λ y. h.1 (subst suits (group_once all y.0 found y.1 is) y.2))
  suits_exactly all found suits (Err e) is h = h

-- two lists of groups of which the same filters hold
module _ {F G : Type 0} (stands : Text × F → Text × G → Type 0) (holds : F → Type 0) (other : G → Type 0) (same_name : (f : Text × F) (g : Text × G) → stands f g → f.0 ≡ g.0) (alike : (f : Text × F) (g : Text × G) → stands f g → holds f.1 ↔ other g.1) where
  pub groups_alike : (fs : List (Text × F)) (gs : List (Text × G)) (name : Text) → AreAlike stands fs gs → IsGroupOf holds fs name ↔ IsGroupOf other gs name
  groups_alike [] [] name h = (λ x. x, λ x. x)
  groups_alike [] (g ∷ gs) name h = absurd h
  groups_alike (f ∷ fs) [] name h = absurd h
  groups_alike (f ∷ fs) (g ∷ gs) name h =
      let one = alike f g h.0 in
      let rest = groups_alike fs gs name h.1 in
      let called : f.0 ≡ g.0 = same_name f g h.0 in (
        λ s. ⊎_elim (λ x. inl (one.0 x.0, subst (λ n. n ≡ name) called x.1)) (λ x. inr ((λ y. x.0 (one.1 y)), rest.0 x.1)) s,
        λ s. ⊎_elim (λ x. inl (one.1 x.0, subst (λ n. n ≡ name) (sym called) x.1)) (λ x. inr ((λ y. x.0 (one.0 y)), rest.1 x.1)) s,
      )

-- the known groups of a record
pub are_groups : (w : Workspace) (names : BTreeSet (String Global)) (groups : List Group) → groups ≡ w.groups → ((name : Text) → Contains (texts names.keys) name ↔ Contains (map (λ (g : Group). g.name) groups) name) → AreGroupsOf w (Known names)
are_groups w names groups same each = record {
  are_known = tt;
  names = λ name.
      let listed : Contains (texts names.keys) name ↔ Contains (map (λ (g : Group). g.name) w.groups) name = subst (λ (gs : List Group). Contains (texts names.keys) name ↔ Contains (map (λ (g : Group). g.name) gs) name) same (each name) in (
        λ i. ⊎_elim (λ e. inl e) (λ r. inr (listed.0 r)) (Contains-cons_cases (codes "@global") (texts names.keys) name i),
        λ s. ⊎_elim (λ e. subst (λ n. Contains (codes "@global" ∷ texts names.keys) n) e (Contains-first (codes "@global") (texts names.keys))) (λ r. Contains-rest (codes "@global") (texts names.keys) name (listed.1 r)) s,
      );
}
