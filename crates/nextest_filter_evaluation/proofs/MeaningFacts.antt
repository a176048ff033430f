-- What compiled filters say, where this is known of the default filter.
use Rattle.std.proofs.Common.{◌≡◌, ◌∙◌, ◌↔◌, refl, sym, true≢false, Bool, true, false, not, Option, Some, Result, Ok, Err, IfOk, IsTrue}
use Rattle.nextest_filter_evaluation.specs.NameTests.{NameTest}
use Rattle.nextest_binaries.specs.Queries as asked
use Rattle.nextest_filter_evaluation.specs.Formulas.{Formula, negation, either, both, leaf, Holds, SomeAnswersGive, EachLeaf, has_leaf}
use Rattle.nextest_filter_evaluation.specs.Compiled.{Leaf, Packages, Kind, Platform, Binary, BinaryId, Test, Group, Default, All, is_group, is_default}
use Rattle.nextest_filter_evaluation.specs.Compiled as compiled
use Rattle.nextest_filter_evaluation.specs.Meaning.{LeafHolds, LeafGives}
use Rattle.nextest_filter_evaluation.specs.Kleene.{Tells}
use Rattle.nextest_filter_evaluation.proofs.FormulaFacts.{each_of, each_map, each_without, each_if, holds_alike, gives_alike}
use Rattle.nextest_filter_evaluation.proofs.KleeneFacts.{known_iff, tells_alike}

same : (P : Type 0) → P ↔ P
same P = (λ p. p, λ p. p)

module _ (member other : NameTest → Type 0) (default another : Type 0) (t : asked.Test) where
  -- leaves that are neither groups nor the default filter say the same
  leaf_alike : (l : Leaf) → (is_group l ≡ true → (m : NameTest) → member m ↔ other m) → (is_default l ≡ true → default ↔ another) → LeafHolds member default t l ↔ LeafHolds other another t l
  leaf_alike (Packages ids) g d = same _
  leaf_alike (Kind test span) g d = same _
  leaf_alike (Platform platform span) g d = same _
  leaf_alike (Binary test span) g d = same _
  leaf_alike (BinaryId test span) g d = same _
  leaf_alike (Test test span) g d = same _
  leaf_alike (Group test span) g d = g refl test
  leaf_alike Default g d = d refl
  leaf_alike All g d = same _
  leaf_alike compiled.None g d = same _

  filter_alike : (f : Formula Leaf) → EachLeaf (λ l. (is_group l ≡ true → (m : NameTest) → member m ↔ other m) × (is_default l ≡ true → default ↔ another)) f → Holds (LeafHolds member default t) f ↔ Holds (LeafHolds other another t) f
  filter_alike f e = holds_alike _ _ f (each_map _ _ f (λ l h. leaf_alike l h.0 h.1) e)

each_pair : {L : Type 0} (P Q : L → Type 0) (f : Formula L) → EachLeaf P f → EachLeaf Q f → EachLeaf (λ l. P l × Q l) f
each_pair P Q (negation a) p q = each_pair P Q a p q
each_pair P Q (either a b) p q = (each_pair P Q a p.0 q.0, each_pair P Q b p.1 q.1)
each_pair P Q (both a b) p q = (each_pair P Q a p.0 q.0, each_pair P Q b p.1 q.1)
each_pair P Q (leaf l) p q = (p, q)

never : {A : Type 0} (b : Bool) → b ≡ false → b ≡ true → A
never b f t = absurd (true≢false (sym t ∙ f))

module _ (t : asked.Test) where
  -- a filter that names neither groups nor the default filter says the same whatever is said of these
  pub alone : (member other : NameTest → Type 0) (default another : Type 0) (f : Formula Leaf) → has_leaf is_group f ≡ false → has_leaf is_default f ≡ false → Holds (LeafHolds member default t) f ↔ Holds (LeafHolds other another t) f
  alone member other default another f g d =
      filter_alike member other default another t f
      (each_pair _ _ f (each_map _ _ f (λ l e. never (is_group l) e) (each_without is_group f g)) (each_map _ _ f (λ l e. never (is_default l) e) (each_without is_default f d)))

  -- one that names no group says the same whatever is said of groups
  pub groupless : (member other : NameTest → Type 0) (default : Type 0) (f : Formula Leaf) → has_leaf is_group f ≡ false → Holds (LeafHolds member default t) f ↔ Holds (LeafHolds other default t) f
  groupless member other default f g =
      filter_alike member other default default t f
      (each_pair _ _ f (each_map _ _ f (λ l e. never (is_group l) e) (each_without is_group f g)) (each_of _ f (λ l _. same default)))

  -- what is said of the default filter is wanted only where it is named
  pub with_default : (member : NameTest → Type 0) (default another : Type 0) (f : Formula Leaf) → (has_leaf is_default f ≡ true → default ↔ another) → Holds (LeafHolds member default t) f ↔ Holds (LeafHolds member another t) f
  with_default member default another f d =
      filter_alike member member default another t f
      (each_pair _ _ f (each_of _ f (λ l _ m. same (member m))) (each_if is_default (default ↔ another) f d))

module _ (b : asked.Binary) where
  leaf_gives_alike : (default another : Bool → Type 0) (l : Leaf) → (is_default l ≡ true → (v : Bool) → default v ↔ another v) → (v : Bool) → LeafGives default b l v ↔ LeafGives another b l v
  leaf_gives_alike default another (Packages ids) d v = same _
  leaf_gives_alike default another (Kind test span) d v = same _
  leaf_gives_alike default another (Platform platform span) d v = same _
  leaf_gives_alike default another (Binary test span) d v = same _
  leaf_gives_alike default another (BinaryId test span) d v = same _
  leaf_gives_alike default another (Test test span) d v = same _
  leaf_gives_alike default another (Group test span) d v = same _
  leaf_gives_alike default another Default d v = d refl v
  leaf_gives_alike default another All d v = same _
  leaf_gives_alike default another compiled.None d v = same _

  pub gives_with_default : (default another : Bool → Type 0) (f : Formula Leaf) → (has_leaf is_default f ≡ true → (v : Bool) → default v ↔ another v) → (v : Bool) → SomeAnswersGive (LeafGives default b) f v ↔ SomeAnswersGive (LeafGives another b) f v
  gives_with_default default another f d = gives_alike _ _ f (each_map _ _ f (λ l h. leaf_gives_alike default another l h) (each_if is_default ((v : Bool) → default v ↔ another v) f d))

if_ok : {X E : Type 0} (P Q : X → Type 0) (r : Result X E) → ((x : X) → P x → Q x) → IfOk r P → IfOk r Q
if_ok P Q (Ok x) f h = f x h
if_ok P Q (Err e) f h = h

pub iff_trans : {A B C : Type 0} → A ↔ B → B ↔ C → A ↔ C
iff_trans f g = (λ a. g.0 (f.0 a), λ c. f.1 (g.1 c))

pub says_alike : {E : Type 0} (P Q : Type 0) (r : Result Bool E) → P ↔ Q → IfOk r (λ x. IsTrue x ↔ P) → IfOk r (λ x. IsTrue x ↔ Q)
says_alike P Q r alike h = if_ok _ _ r (λ x s. iff_trans s alike) h

pub knows_alike : {E : Type 0} (G H : Bool → Type 0) (r : Result (Option Bool) E) → ((v : Bool) → G v ↔ H v) → IfOk r (λ o. Tells o G) → IfOk r (λ o. Tells o H)
knows_alike G H r alike h = if_ok _ _ r (λ o s. tells_alike o G H alike s) h

pub known_exactly : {E : Type 0} (G : Bool → Type 0) (r : Result (Option Bool) E) → IfOk r (λ o. Tells o G) → IfOk r (λ o. (v : Bool) → (o ≡ Some v) ↔ (G (not v) → ⊥))
known_exactly G r h = if_ok _ _ r (λ o tells v. known_iff o G tells v) h
