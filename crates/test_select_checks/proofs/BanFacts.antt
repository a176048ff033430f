-- What accepted filters do not name once they are compiled.
use Rattle.std.proofs.Common.{◌≡◌, refl, Bool, false, []}
use Rattle.nextest_filter_tokens.specs.declared.filterset_kind.FiltersetKind.{FiltersetKind}
use Rattle.nextest_filter_tokens.specs.declared.filterset_kind.FiltersetKind.TheVariants.{DefaultFilter}
use Rattle.nextest_filter_tokens.specs.declared.heads.Predicate.TheVariants as names
use Rattle.nextest_filter_evaluation.specs.declared.groups.KnownGroups.{KnownGroups}
use Rattle.nextest_filter_evaluation.specs.Compiled.{Leaf, is_default, is_group}
use Rattle.nextest_filter_evaluation.specs.Formulas.{Formula, negation, either, both, leaf, has_leaf}
use Rattle.nextest_filtering.specs.Acceptance.{IsAccepted, ban_of}
use Rattle.nextest_filtering.specs.Compiling.{IsCompiled, IsCompiledLeaf}
use Rattle.nextest_filtering.specs.Contexts.{ContextValue}
use Rattle.nextest_filtering.specs.Filters.{FilterLeaf, Named, Platform, Default, All}
use Rattle.nextest_filtering.specs.Filters as filter

module _ (cx : ContextValue) where
  -- of leaves that are not banned none passes the test
  module _ (groups : KnownGroups) (k : FiltersetKind) (test : Leaf → Bool) (free : (l : FilterLeaf) (m : Leaf) → IsCompiledLeaf cx l m → ban_of k l ≡ [] → test m ≡ false) where
    has_none : (f : Formula FilterLeaf) (c : Formula Leaf) → IsCompiled cx f c → IsAccepted cx groups k f → has_leaf test c ≡ false
    has_none (negation a) (negation c) h e = has_none a c h e
    has_none (negation a) (either c d) h e = absurd h
    has_none (negation a) (both c d) h e = absurd h
    has_none (negation a) (leaf m) h e = absurd h
    has_none (either a b) (negation c) h e = absurd h
    has_none (either a b) (either c d) h e = rw (has_none a c h.0 e.0, has_none b d h.1 e.1) refl
    has_none (either a b) (both c d) h e = absurd h
    has_none (either a b) (leaf m) h e = absurd h
    has_none (both a b) (negation c) h e = absurd h
    has_none (both a b) (either c d) h e = absurd h
    has_none (both a b) (both c d) h e = rw (has_none a c h.0 e.0, has_none b d h.1 e.1) refl
    has_none (both a b) (leaf m) h e = absurd h
    has_none (leaf l) (negation c) h e = absurd h
    has_none (leaf l) (either c d) h e = absurd h
    has_none (leaf l) (both c d) h e = absurd h
    has_none (leaf l) (leaf m) h e = free l m h e.0

  default_free : (l : FilterLeaf) (m : Leaf) → IsCompiledLeaf cx l m → ban_of DefaultFilter l ≡ [] → is_default m ≡ false
  default_free (Named names.Package test span) m h e = rw h.is_leaf refl
  default_free (Named names.Deps test span) m h e = rw h.is_leaf refl
  default_free (Named names.Rdeps test span) m h e = rw h.is_leaf refl
  default_free (Named names.Kind test span) m h e = rw h refl
  default_free (Named names.Binary test span) m h e = rw h refl
  default_free (Named names.BinaryId test span) m h e = rw h refl
  default_free (Named names.Test test span) m h e = rw h refl
  default_free (Named names.Group test span) m h e = rw h refl
  default_free (Named names.Feature test span) m h e = rw h.is_leaf refl
  default_free (Platform platform span) m h e = rw h refl
  default_free (Default span) m h e = absurd cc
  default_free All m h e = rw h refl
  default_free filter.None m h e = rw h refl

  group_free : (l : FilterLeaf) (m : Leaf) → IsCompiledLeaf cx l m → ban_of DefaultFilter l ≡ [] → is_group m ≡ false
  group_free (Named names.Package test span) m h e = rw h.is_leaf refl
  group_free (Named names.Deps test span) m h e = rw h.is_leaf refl
  group_free (Named names.Rdeps test span) m h e = rw h.is_leaf refl
  group_free (Named names.Kind test span) m h e = rw h refl
  group_free (Named names.Binary test span) m h e = rw h refl
  group_free (Named names.BinaryId test span) m h e = rw h refl
  group_free (Named names.Test test span) m h e = rw h refl
  group_free (Named names.Group test span) m h e = absurd cc
  group_free (Named names.Feature test span) m h e = rw h.is_leaf refl
  group_free (Platform platform span) m h e = rw h refl
  group_free (Default span) m h e = absurd cc
  group_free All m h e = rw h refl
  group_free filter.None m h e = rw h refl

  -- the default filter names neither itself nor groups
  pub no_default : (groups : KnownGroups) (f : Formula FilterLeaf) (c : Formula Leaf) → IsCompiled cx f c → IsAccepted cx groups DefaultFilter f → has_leaf is_default c ≡ false
  no_default groups f c = has_none groups DefaultFilter is_default default_free f c

  pub no_group : (groups : KnownGroups) (f : Formula FilterLeaf) (c : Formula Leaf) → IsCompiled cx f c → IsAccepted cx groups DefaultFilter f → has_leaf is_group c ≡ false
  no_group groups f c = has_none groups DefaultFilter is_group group_free f c
