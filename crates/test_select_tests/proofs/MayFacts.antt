-- Where a filter holds of a test, it is not denied that some answers about its binary give it the value true.
use Rattle.std.proofs.Common.{◌⊎◌, inl, inr, ⊎_elim, refl, Bool, true, false, ◌||◌, ◌&&◌}
use Rattle.nextest_filter_tokens.specs.declared.heads.Predicate.TheVariants as names
use Rattle.nextest_filter_evaluation.specs.NameTests.{NameTest}
use Rattle.nextest_binaries.specs.Queries as asked
use Rattle.nextest_filter_evaluation.specs.Formulas.{Formula, negation, either, both, leaf, EachLeaf, Holds, SomeAnswersGive}
use Rattle.nextest_filter_evaluation.specs.Meaning.{Gives}
use Rattle.nextest_filter_evaluation.proofs.FormulaFacts.{each_of}
use Rattle.nextest_filtering.specs.Contexts.{ContextValue}
use Rattle.nextest_filtering.specs.Filters.{FilterLeaf, Named, Platform, Default, All}
use Rattle.nextest_filtering.specs.Filters as filter
use Rattle.nextest_filtering.specs.Meaning.{FilterLeafHolds, FilterLeafGives}
use Rattle.test_select_checks.specs.Meaning.{DefaultGivesIn, DefaultHoldsIn, HoldsIn, IsInGroup, MayHoldIn}
use Rattle.test_select_checks.specs.RecordFilters.{FilterReadings}

-- it is not denied that what is said to give values gives the one that the proposition has
abbrev Takes : Type 0 → (Bool → Type 0) → Type 0
Takes P gives = ((v : Bool) → Gives P v → gives v → ⊥) → ⊥

gives_either : (P Q : Type 0) (v w : Bool) → Gives P v → Gives Q w → Gives (P ⊎ Q) (v || w)
gives_either P Q true w h i = inl h
gives_either P Q false true h i = inr i
gives_either P Q false false h i = λ s. ⊎_elim h i s

gives_both : (P Q : Type 0) (v w : Bool) → Gives P v → Gives Q w → Gives (P × Q) (v && w)
gives_both P Q true true h i = (h, i)
gives_both P Q true false h i = λ s. i s.1
gives_both P Q false w h i = λ s. h s.0

module _ {L : Type 0} (holds : L → Type 0) (gives : L → Bool → Type 0) where
  takes_not : (a : Formula L) → Takes (Holds holds a) (SomeAnswersGive gives a) → Takes (Holds holds (negation a)) (SomeAnswersGive gives (negation a))
  takes_not a h k = h (λ v. at v)
    where
      at : (v : Bool) → Gives (Holds holds a) v → SomeAnswersGive gives a v → ⊥
      at true p g = k false (λ n. n p) g
      at false n g = k true n g

  takes : (f : Formula L) → EachLeaf (λ l. Takes (holds l) (gives l)) f → Takes (Holds holds f) (SomeAnswersGive gives f)
  takes (negation a) e = takes_not a (takes a e)
  takes (either a b) e = λ k. takes a e.0 (λ v h g. takes b e.1 (λ w i j. k (v || w) (gives_either _ _ v w h i) (v, w, g, j, refl)))
  takes (both a b) e = λ k. takes a e.0 (λ v h g. takes b e.1 (λ w i j. k (v && w) (gives_both _ _ v w h i) (v, w, g, j, refl)))
  takes (leaf l) e = e

known : (P : Type 0) → Takes P (Gives P)
known P k = k false (λ p. k true p p) (λ p. k true p p)

unknown : (P : Type 0) → Takes P (λ _. Unit {0})
unknown P k = k false (λ p. k true p tt) tt

true_of : (P : Type 0) (gives : Bool → Type 0) → Takes P gives → P → (gives true → ⊥) → ⊥
true_of P gives h p k = h (λ v. at v)
  where
    at : (v : Bool) → Gives P v → gives v → ⊥
    at true q g = k g
    at false n g = n p

module _ (cx : ContextValue) where
  leaf_takes : (member : NameTest → Type 0) (default : Type 0) (gives : Bool → Type 0) (t : asked.Test) → Takes default gives → (l : FilterLeaf) → Takes (FilterLeafHolds cx member default t l) (FilterLeafGives cx gives t.binary l)
  leaf_takes member default gives t d (Named names.Package test span) = known _
  leaf_takes member default gives t d (Named names.Deps test span) = known _
  leaf_takes member default gives t d (Named names.Rdeps test span) = known _
  leaf_takes member default gives t d (Named names.Kind test span) = known _
  leaf_takes member default gives t d (Named names.Binary test span) = known _
  leaf_takes member default gives t d (Named names.BinaryId test span) = known _
  leaf_takes member default gives t d (Named names.Test test span) = unknown _
  leaf_takes member default gives t d (Named names.Group test span) = unknown _
  leaf_takes member default gives t d (Named names.Feature test span) = known _
  leaf_takes member default gives t d (Platform platform span) = known _
  leaf_takes member default gives t d (Default span) = d
  leaf_takes member default gives t d All = known _
  leaf_takes member default gives t d filter.None = known _

  filter_takes : (member : NameTest → Type 0) (default : Type 0) (gives : Bool → Type 0) (t : asked.Test) → Takes default gives → (f : Formula FilterLeaf) → Takes (Holds (FilterLeafHolds cx member default t) f) (SomeAnswersGive (FilterLeafGives cx gives t.binary) f)
  filter_takes member default gives t d f = takes _ _ f (each_of _ f (leaf_takes member default gives t d))

  module _ (r : FilterReadings) (t : asked.Test) where
    default_takes : Takes (DefaultHoldsIn cx r t) (DefaultGivesIn cx r t.binary)
    default_takes = filter_takes (λ _. ⊥) ⊥ (λ _. Unit {0}) t (unknown ⊥) r.default

    pub default_may : DefaultHoldsIn cx r t → (DefaultGivesIn cx r t.binary true → ⊥) → ⊥
    default_may = true_of _ _ default_takes

    pub filter_may : (f : Formula FilterLeaf) → HoldsIn cx r t f → (MayHoldIn cx r t.binary f → ⊥) → ⊥
    filter_may f = true_of _ _ (filter_takes (IsInGroup cx r t) (DefaultHoldsIn cx r t) (DefaultGivesIn cx r t.binary) t default_takes f)
