-- The order of paths that are compared by their components.
use Rattle.std.specs.Prelude.{Bool}
use Rattle.std.specs.Ordering.{eq_by_cmp, as_partial_cmp}
use Rattle.std.specs.Cmp.{IsEquivalence, IsPartialEquivalence, IsTotalOrder, IsPartialOrder, partial_equiv_from_equiv, partial_order_from_agreeing_total, eq_by_cmp_equiv}
use Rattle.std.specs.declared.cmp.Ordering.{Ordering}
use Rattle.std.proofs.Common.{refl}
use Rattle.std.proofs.lemmas.Cmp.{on_total}
use Rattle.guppy_package_rules.specs.Paths.{path_cmp, path_cmp_total}
use Rattle.guppy_package_rules.specs.declared.paths.PathText.{PathText}

-- component by component
abbrev pub path_text_cmp : PathText → PathText → Ordering
path_text_cmp a b = path_cmp a.text.now b.text.now

-- the components are the same
abbrev pub path_text_eq : PathText → PathText → Bool
path_text_eq = eq_by_cmp path_text_cmp

pub path_text_total : IsTotalOrder path_text_cmp
path_text_total = on_total (λ p. p.text.now) path_cmp_total

pub path_text_equivalence : IsEquivalence path_text_eq
path_text_equivalence = eq_by_cmp_equiv path_text_total

pub path_text_eq_laws : IsPartialEquivalence path_text_eq
path_text_eq_laws = partial_equiv_from_equiv path_text_equivalence

pub path_text_cmp_laws : IsPartialOrder path_text_eq (as_partial_cmp path_text_cmp)
path_text_cmp_laws = partial_order_from_agreeing_total path_text_cmp path_text_total (λ a b. refl) (λ a b. refl)
