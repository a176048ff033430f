-- Compiled filters say what the filters say that they are made of.
use Rattle.std.proofs.Common.{◌↔◌, inl, inr, ⊎_elim, Bool, true, false, not}
use Rattle.nextest_filter_tokens.specs.declared.heads.Predicate.TheVariants as names
use Rattle.nextest_filter_evaluation.specs.NameTests.{NameTest}
use Rattle.nextest_binaries.specs.Queries as asked
use Rattle.nextest_filter_evaluation.specs.Formulas.{Formula, negation, either, both, leaf, Holds, SomeAnswersGive}
use Rattle.nextest_filter_evaluation.specs.Compiled.{Leaf}
use Rattle.nextest_filter_evaluation.specs.Meaning.{Gives, LeafHolds, LeafGives}
use Rattle.nextest_filtering.specs.Contexts.{ContextValue}
use Rattle.nextest_filtering.specs.Filters.{FilterLeaf, Named, Platform, Default, All}
use Rattle.nextest_filtering.specs.Filters as filter
use Rattle.nextest_filtering.specs.Meaning.{FilterLeafHolds, FilterLeafGives}
use Rattle.nextest_filtering.specs.Compiling.{IsCompiled, IsCompiledLeaf}

pub same : (P : Type 0) → P ↔ P
same P = (λ p. p, λ p. p)

pub turned : {P Q : Type 0} → P ↔ Q → Q ↔ P
turned h = (h.1, h.0)

pub gives_same : (P Q : Type 0) → P ↔ Q → (v : Bool) → Gives P v ↔ Gives Q v
gives_same P Q h true = h
gives_same P Q h false = (λ n q. n (h.1 q), λ n p. n (h.0 p))

module _ (cx : ContextValue) where
  module _ (P : Leaf → Type 0) (Q : FilterLeaf → Type 0) (alike : (l : FilterLeaf) (m : Leaf) → IsCompiledLeaf cx l m → P m ↔ Q l) where
    holds_by : (f : Formula FilterLeaf) (c : Formula Leaf) → IsCompiled cx f c → Holds P c ↔ Holds Q f
    holds_by (negation a) (negation c) h = let k = holds_by a c h in (λ n x. n (k.1 x), λ n x. n (k.0 x))
    holds_by (negation a) (either c d) h = absurd h
    holds_by (negation a) (both c d) h = absurd h
    holds_by (negation a) (leaf m) h = absurd h
    holds_by (either a b) (negation c) h = absurd h
    holds_by (either a b) (either c d) h =
        let j = holds_by a c h.0 in
        let k = holds_by b d h.1 in
        (λ s. ⊎_elim (λ x. inl (j.0 x)) (λ y. inr (k.0 y)) s, λ s. ⊎_elim (λ x. inl (j.1 x)) (λ y. inr (k.1 y)) s)
    holds_by (either a b) (both c d) h = absurd h
    holds_by (either a b) (leaf m) h = absurd h
    holds_by (both a b) (negation c) h = absurd h
    holds_by (both a b) (either c d) h = absurd h
    holds_by (both a b) (both c d) h =
        let j = holds_by a c h.0 in
        let k = holds_by b d h.1 in
        (λ s. (j.0 s.0, k.0 s.1), λ s. (j.1 s.0, k.1 s.1))
    holds_by (both a b) (leaf m) h = absurd h
    holds_by (leaf l) (negation c) h = absurd h
    holds_by (leaf l) (either c d) h = absurd h
    holds_by (leaf l) (both c d) h = absurd h
    holds_by (leaf l) (leaf m) h = alike l m h

  module _ (P : Leaf → Bool → Type 0) (Q : FilterLeaf → Bool → Type 0) (alike : (l : FilterLeaf) (m : Leaf) → IsCompiledLeaf cx l m → (v : Bool) → P m v ↔ Q l v) where
    gives_by : (f : Formula FilterLeaf) (c : Formula Leaf) → IsCompiled cx f c → (v : Bool) → SomeAnswersGive P c v ↔ SomeAnswersGive Q f v
    gives_by (negation a) (negation c) h v = gives_by a c h (not v)
    gives_by (negation a) (either c d) h v = absurd h
    gives_by (negation a) (both c d) h v = absurd h
    gives_by (negation a) (leaf m) h v = absurd h
    gives_by (either a b) (negation c) h v = absurd h
    gives_by (either a b) (either c d) h v =
        let j = gives_by a c h.0 in
        let k = gives_by b d h.1 in
        (λ s. (s.0, s.1, (j s.0).0 s.2, (k s.1).0 s.3, s.4), λ s. (s.0, s.1, (j s.0).1 s.2, (k s.1).1 s.3, s.4))
    gives_by (either a b) (both c d) h v = absurd h
    gives_by (either a b) (leaf m) h v = absurd h
    gives_by (both a b) (negation c) h v = absurd h
    gives_by (both a b) (either c d) h v = absurd h
    gives_by (both a b) (both c d) h v =
        let j = gives_by a c h.0 in
        let k = gives_by b d h.1 in
        (λ s. (s.0, s.1, (j s.0).0 s.2, (k s.1).0 s.3, s.4), λ s. (s.0, s.1, (j s.0).1 s.2, (k s.1).1 s.3, s.4))
    gives_by (both a b) (leaf m) h v = absurd h
    gives_by (leaf l) (negation c) h v = absurd h
    gives_by (leaf l) (either c d) h v = absurd h
    gives_by (leaf l) (both c d) h v = absurd h
    gives_by (leaf l) (leaf m) h v = alike l m h v

  leaf_holds_as : (member : NameTest → Type 0) (default : Type 0) (t : asked.Test) (l : FilterLeaf) (m : Leaf) → IsCompiledLeaf cx l m → LeafHolds member default t m ↔ FilterLeafHolds cx member default t l
  leaf_holds_as member default t (Named names.Package test span) m h = rw h.is_leaf (h.members t.binary.package_id)
  leaf_holds_as member default t (Named names.Deps test span) m h = rw h.is_leaf (h.members t.binary.package_id)
  leaf_holds_as member default t (Named names.Rdeps test span) m h = rw h.is_leaf (h.members t.binary.package_id)
  leaf_holds_as member default t (Named names.Kind test span) m h = rw h (same _)
  leaf_holds_as member default t (Named names.Binary test span) m h = rw h (same _)
  leaf_holds_as member default t (Named names.BinaryId test span) m h = rw h (same _)
  leaf_holds_as member default t (Named names.Test test span) m h = rw h (same _)
  leaf_holds_as member default t (Named names.Group test span) m h = rw h (same _)
  leaf_holds_as member default t (Named names.Feature test span) m h = rw h.is_leaf (h.members t.binary.package_id)
  leaf_holds_as member default t (Platform platform span) m h = rw h (same _)
  leaf_holds_as member default t (Default span) m h = rw h (same _)
  leaf_holds_as member default t All m h = rw h (same _)
  leaf_holds_as member default t filter.None m h = rw h (same _)

  leaf_gives_as : (default : Bool → Type 0) (b : asked.Binary) (l : FilterLeaf) (m : Leaf) → IsCompiledLeaf cx l m → (v : Bool) → LeafGives default b m v ↔ FilterLeafGives cx default b l v
  leaf_gives_as default b (Named names.Package test span) m h v = rw h.is_leaf (gives_same _ _ (h.members b.package_id) v)
  leaf_gives_as default b (Named names.Deps test span) m h v = rw h.is_leaf (gives_same _ _ (h.members b.package_id) v)
  leaf_gives_as default b (Named names.Rdeps test span) m h v = rw h.is_leaf (gives_same _ _ (h.members b.package_id) v)
  leaf_gives_as default b (Named names.Kind test span) m h v = rw h (same _)
  leaf_gives_as default b (Named names.Binary test span) m h v = rw h (same _)
  leaf_gives_as default b (Named names.BinaryId test span) m h v = rw h (same _)
  leaf_gives_as default b (Named names.Test test span) m h v = rw h (same _)
  leaf_gives_as default b (Named names.Group test span) m h v = rw h (same _)
  leaf_gives_as default b (Named names.Feature test span) m h v = rw h.is_leaf (gives_same _ _ (h.members b.package_id) v)
  leaf_gives_as default b (Platform platform span) m h v = rw h (same _)
  leaf_gives_as default b (Default span) m h v = rw h (same _)
  leaf_gives_as default b All m h v = rw h (same _)
  leaf_gives_as default b filter.None m h v = rw h (same _)

  -- of each test the compiled filter holds exactly if the filter does
  pub compiled_holds : (member : NameTest → Type 0) (default : Type 0) (t : asked.Test) (f : Formula FilterLeaf) (c : Formula Leaf) → IsCompiled cx f c → Holds (LeafHolds member default t) c ↔ Holds (FilterLeafHolds cx member default t) f
  compiled_holds member default t = holds_by _ _ (leaf_holds_as member default t)

  -- the compiled filter may take the values that the filter may
  pub compiled_gives : (default : Bool → Type 0) (b : asked.Binary) (f : Formula FilterLeaf) (c : Formula Leaf) → IsCompiled cx f c → (v : Bool) → SomeAnswersGive (LeafGives default b) c v ↔ SomeAnswersGive (FilterLeafGives cx default b) f v
  compiled_gives default b = gives_by _ _ (leaf_gives_as default b)
