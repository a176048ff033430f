-- Laws of matchers.
use Rattle.std.specs.Prelude.{◌≡◌, ◌↔◌, IsTrue}
use Rattle.std.specs.Cmp.{IsEquivalence}
use Rattle.nextest_filter_matchers.specs.Identities.{identities_decide}
use Rattle.nextest_filter_matchers.specs.Matchers.{identity_of, matcher_eq, matchers_equivalent}
use Rattle.nextest_filter_matchers.specs.declared.name_matcher.NameMatcher.{NameMatcher}

-- matchers are equal exactly if the same tells them apart from others, and that is an equivalence
abbrev pub MatchersAreLawful : Type 0
MatchersAreLawful =
    IsEquivalence matcher_eq × ((a b : NameMatcher) → IsTrue (matcher_eq a b) ↔ (identity_of a ≡ identity_of b))

pub matchers_lawful : MatchersAreLawful
matchers_lawful = (matchers_equivalent, λ a b. identities_decide (identity_of a) (identity_of b))
