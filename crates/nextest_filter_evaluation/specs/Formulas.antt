-- Propositions over leaves of any sort: whether they hold, and which values answers to their leaves give them.
use Rattle.std.specs.Prelude.{◌≡◌, ◌⊎◌, Bool, ◌||◌, ◌&&◌, not, List, [], ◌∷◌, ◌++◌}

-- a proposition over leaves of any sort (from nextest's `matches_binary`)
pub data Formula (L : Type 0) : Type 0 where
  negation : Formula L → Formula L
  either : Formula L → Formula L → Formula L
  both : Formula L → Formula L → Formula L
  leaf : L → Formula L

module _ {L : Type 0} where
  -- the leaves from left to right
  abbrev pub leaves : Formula L → List L
  leaves (negation a) = leaves a
  leaves (either a b) = leaves a ++ leaves b
  leaves (both a b) = leaves a ++ leaves b
  leaves (leaf l) = l ∷ []

  -- some leaf passes the test
  abbrev pub has_leaf : (L → Bool) → Formula L → Bool
  has_leaf test (negation a) = has_leaf test a
  has_leaf test (either a b) = has_leaf test a || has_leaf test b
  has_leaf test (both a b) = has_leaf test a || has_leaf test b
  has_leaf test (leaf l) = test l

  -- each leaf keeps the rule
  abbrev pub EachLeaf : (L → Type 0) → Formula L → Type 0
  EachLeaf rule (negation a) = EachLeaf rule a
  EachLeaf rule (either a b) = EachLeaf rule a × EachLeaf rule b
  EachLeaf rule (both a b) = EachLeaf rule a × EachLeaf rule b
  EachLeaf rule (leaf l) = rule l

  -- the formula holds, where it is said which leaves do (from nextest's `matches_binary`)
  abbrev pub Holds : (L → Type 0) → Formula L → Type 0
  Holds holds (negation a) = Holds holds a → ⊥
  Holds holds (either a b) = Holds holds a ⊎ Holds holds b
  Holds holds (both a b) = Holds holds a × Holds holds b
  Holds holds (leaf l) = holds l

  -- some answers give the formula the value, where it is said which values each leaf may take, each occurrence apart
  -- (from nextest's `matches_binary`)
  abbrev pub SomeAnswersGive : (L → Bool → Type 0) → Formula L → Bool → Type 0
  SomeAnswersGive gives (negation a) v = SomeAnswersGive gives a (not v)
  SomeAnswersGive gives (either a b) v = (x : Bool) × (y : Bool) × SomeAnswersGive gives a x × SomeAnswersGive gives b y × ((x || y) ≡ v)
  SomeAnswersGive gives (both a b) v = (x : Bool) × (y : Bool) × SomeAnswersGive gives a x × SomeAnswersGive gives b y × ((x && y) ≡ v)
  SomeAnswersGive gives (leaf l) v = gives l v

  -- no answers give the other value (from nextest's `matches_binary`)
  abbrev pub AllAnswersGive : (L → Bool → Type 0) → Formula L → Bool → Type 0
  AllAnswersGive gives f v = SomeAnswersGive gives f (not v) → ⊥
