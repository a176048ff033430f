-- Filters that are read in the same texts, over contexts with the same packages.
use Rattle.std.proofs.Common.{◌≡◌, ◌↔◌, inl, inr, ⊎_elim, refl, sym, subst, Bool, true, List, [], ◌∷◌, Option, Some, None, Contains, codes}
use Rattle.list_facts.proofs.Membership.{Contains-first, Contains-rest}
use Rattle.workspace_record.specs.Records.{Group, Text, Workspace}
use Rattle.nextest_filter_evaluation.specs.NameTests.{NameTest}
use Rattle.nextest_binaries.specs.Queries as asked
use Rattle.nextest_filter_evaluation.specs.Formulas.{Formula, leaf}
use Rattle.nextest_filtering.specs.Contexts.{ContextValue}
use Rattle.nextest_filtering.specs.Filters.{FilterLeaf, filter_of}
use Rattle.nextest_filtering.specs.Filters as filter
use Rattle.nextest_filtering.specs.SameFilters.{AreBytes, HasSamePackages, IsByteBinary}
use Rattle.nextest_filtering.proofs.AlikeFacts.{AlikeFormula, SuitAlike, all, gives_alike, holds_alike, leaves, leaves_give_alike, leaves_hold_alike}
use Rattle.nextest_filtering.proofs.BareFacts.{read_alike}
use Rattle.nextest_filtering.proofs.ByteFacts.{bytes_by_test}
use Rattle.nextest_filtering.proofs.SameFacts.{same, turned}
use Rattle.test_select_checks.specs.Alike.{AreAlike}
use Rattle.test_select_checks.specs.FilterTexts.{IsFilterOf}
use Rattle.test_select_checks.specs.Groups.{IsGroupOf}
use Rattle.test_select_checks.specs.Meaning.{DefaultGivesIn, DefaultHoldsIn, GroupHoldsIn, HoldsIn, IsInGroup, MayHoldIn}
use Rattle.test_select_checks.specs.RecordFilters.{AreReadingsOf, FilterReadings, IsReadDefault, IsReadGroup}

-- what one text reads as differs in its patterns alone, which suit alike
pub texts_alike : (text : Text) (f g : Formula FilterLeaf) → IsFilterOf text f → IsFilterOf text g → AlikeFormula f g
texts_alike text f g p q =
    subst (λ x. AlikeFormula x g) (sym p.is_filter) (subst (AlikeFormula (filter_of p.parsed)) (sym q.is_filter)
    (read_alike text p.parsed q.parsed p.reads q.reads p.as_written q.as_written))

pub all_alike : (f g : Formula FilterLeaf) → f ≡ leaf filter.All → g ≡ leaf filter.All → AlikeFormula f g
all_alike f g p q = subst (λ x. AlikeFormula x g) (sym p) (subst (AlikeFormula (leaf filter.All)) (sym q) (leaves filter.All filter.All all))

pub defaults_alike : (text : Option Text) (f g : Formula FilterLeaf) → IsReadDefault text f → IsReadDefault text g → AlikeFormula f g
defaults_alike (Some text) f g p q = texts_alike text f g p q
defaults_alike None f g p q = all_alike f g p q

-- the name of a group of the record is made of bytes
pub byte_group : (groups : List Group) → ((g : Group) → Contains groups g → AreBytes g.name) → (rs : List (Text × Formula FilterLeaf)) → AreAlike IsReadGroup groups rs → (holds : Formula FilterLeaf → Type 0) (name : Text) → IsGroupOf holds rs name → AreBytes name
byte_group [] bytes [] h holds name is = subst AreBytes is (bytes_by_test (codes "@global") refl)
byte_group [] bytes (r ∷ rs) h holds name is = absurd h
byte_group (g ∷ gs) bytes [] h holds name is = absurd h
byte_group (g ∷ gs) bytes (r ∷ rs) h holds name is =
    ⊎_elim
    (λ here. subst AreBytes here.1 (subst AreBytes (sym h.0.name) (bytes g (Contains-first g gs))))
    (λ later. byte_group gs (λ x inside. bytes x (Contains-rest g gs x inside)) rs h.1 holds name later.1)
    is

-- one group is the first whose filter holds, where the filters hold alike
module _ (P Q : Formula FilterLeaf → Type 0) (alike : (f g : Formula FilterLeaf) → AlikeFormula f g → P f ↔ Q g) where
  pub groups_alike : (groups : List Group) (rs ss : List (Text × Formula FilterLeaf)) → AreAlike IsReadGroup groups rs → AreAlike IsReadGroup groups ss → (name : Text) → IsGroupOf P rs name → IsGroupOf Q ss name
  groups_alike [] [] [] p q name is = is
  groups_alike [] [] (s ∷ ss) p q name is = absurd q
  groups_alike [] (r ∷ rs) ss p q name is = absurd p
  groups_alike (g ∷ gs) [] ss p q name is = absurd p
  groups_alike (g ∷ gs) (r ∷ rs) [] p q name is = absurd q
  groups_alike (g ∷ gs) (r ∷ rs) (s ∷ ss) p q name is =
      let one = alike r.1 s.1 (texts_alike g.filter r.1 s.1 p.0.reads q.0.reads) in
      let named : r.0 ≡ s.0 = cc in
      ⊎_elim
      (λ here. inl (one.0 here.0, subst (λ n. n ≡ name) named here.1))
      (λ later. inr ((λ holds. later.0 (one.1 holds)), groups_alike gs rs ss p.1 q.1 name later.1))
      is

-- two readings of one record, over contexts with the same packages in which the same is on
pub record AreOneReading (w : Workspace) (cx dx : ContextValue) (r s : FilterReadings) : Type 0 where
  pub one : HasSamePackages cx dx
  pub byte_packages : (p : Text × Text) → Contains cx.packages p → AreBytes p.1
  pub byte_on : (f : Text × Text) → Contains cx.on f → AreBytes f.1
  pub byte_groups : (g : Group) → Contains w.groups g → AreBytes g.name
  pub of_first : AreReadingsOf w r
  pub of_second : AreReadingsOf w s

module _ {w : Workspace} {cx dx : ContextValue} {r s : FilterReadings} (o : AreOneReading w cx dx r s) where
  pub other_way : AreOneReading w dx cx s r
  other_way = record {
    one = record { packages = λ p. turned (o.one.packages p); leads = λ a b. turned (o.one.leads a b); on = λ f. turned (o.one.on f) };
    byte_packages = λ p listed. o.byte_packages p ((o.one.packages p).1 listed);
    byte_on = λ f listed. o.byte_on f ((o.one.on f).1 listed);
    byte_groups = o.byte_groups;
    of_first = o.of_second;
    of_second = o.of_first;
  }

  module _ (t : asked.Test) (byte_binary : IsByteBinary t.binary) (byte_test : AreBytes t.name) where
    abbrev no_group : (a b : NameTest) → SuitAlike a b → ⊥ ↔ ⊥
    no_group a b suit = same ⊥

    pub default_holds_alike : DefaultHoldsIn cx r t ↔ DefaultHoldsIn dx s t
    default_holds_alike =
        holds_alike _ _ (leaves_hold_alike cx dx o.one o.byte_packages o.byte_on (λ _. ⊥) (λ _. ⊥) no_group ⊥ ⊥ (same ⊥) t byte_binary byte_test)
        r.default s.default (defaults_alike w.default_filter r.default s.default o.of_first.default o.of_second.default)

    pub group_holds_alike : (f g : Formula FilterLeaf) → AlikeFormula f g → GroupHoldsIn cx r t f ↔ GroupHoldsIn dx s t g
    group_holds_alike f g alike =
        holds_alike _ _ (leaves_hold_alike cx dx o.one o.byte_packages o.byte_on (λ _. ⊥) (λ _. ⊥) no_group (DefaultHoldsIn cx r t) (DefaultHoldsIn dx s t) default_holds_alike t byte_binary byte_test) f g alike

  module _ (b : asked.Binary) (byte_binary : IsByteBinary b) where
    pub default_gives_alike : (v : Bool) → DefaultGivesIn cx r b v ↔ DefaultGivesIn dx s b v
    default_gives_alike v =
        gives_alike _ _ (leaves_give_alike cx dx o.one o.byte_packages o.byte_on (λ _. Unit {0}) (λ _. Unit {0}) (λ x. same (Unit {0})) b byte_binary)
        r.default s.default (defaults_alike w.default_filter r.default s.default o.of_first.default o.of_second.default) v

    pub may_hold_alike : (f g : Formula FilterLeaf) → AlikeFormula f g → MayHoldIn cx r b f ↔ MayHoldIn dx s b g
    may_hold_alike f g alike =
        gives_alike _ _ (leaves_give_alike cx dx o.one o.byte_packages o.byte_on (DefaultGivesIn cx r b) (DefaultGivesIn dx s b) default_gives_alike b byte_binary) f g alike true

module _ {w : Workspace} {cx dx : ContextValue} {r s : FilterReadings} (o : AreOneReading w cx dx r s) (t : asked.Test) (byte_binary : IsByteBinary t.binary) (byte_test : AreBytes t.name) where
  group_too : (a b : NameTest) → SuitAlike a b → IsInGroup cx r t a → IsInGroup dx s t b
  group_too a b suit h = record {
    name = h.name;
    is_its = groups_alike (GroupHoldsIn cx r t) (GroupHoldsIn dx s t) (group_holds_alike o t byte_binary byte_test) w.groups r.groups s.groups o.of_first.groups o.of_second.groups h.name h.is_its;
    suits = (suit h.name (byte_group w.groups o.byte_groups r.groups o.of_first.groups (GroupHoldsIn cx r t) h.name h.is_its)).0 h.suits;
  }

module _ {w : Workspace} {cx dx : ContextValue} {r s : FilterReadings} (o : AreOneReading w cx dx r s) (t : asked.Test) (byte_binary : IsByteBinary t.binary) (byte_test : AreBytes t.name) where
  in_groups_alike : (a b : NameTest) → SuitAlike a b → IsInGroup cx r t a ↔ IsInGroup dx s t b
  in_groups_alike a b suit = (group_too o t byte_binary byte_test a b suit, group_too (other_way o) t byte_binary byte_test b a (λ n bytes. turned (suit n bytes)))

  pub holds_in_alike : (f g : Formula FilterLeaf) → AlikeFormula f g → HoldsIn cx r t f ↔ HoldsIn dx s t g
  holds_in_alike f g alike =
      holds_alike _ _ (leaves_hold_alike cx dx o.one o.byte_packages o.byte_on (IsInGroup cx r t) (IsInGroup dx s t) in_groups_alike (DefaultHoldsIn cx r t) (DefaultHoldsIn dx s t) (default_holds_alike o t byte_binary byte_test) t byte_binary byte_test) f g alike
