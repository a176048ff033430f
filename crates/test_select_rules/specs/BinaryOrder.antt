-- The order of test binaries: by their ids.
use Rattle.std.specs.Prelude.{◌≡◌, Bool}
use Rattle.std.specs.Ordering.{eq_by_cmp, as_partial_cmp}
use Rattle.std.specs.Cmp.{IsEquivalence, IsPartialEquivalence, IsTotalOrder, IsPartialOrder, partial_equiv_from_equiv, partial_order_from_agreeing_total}
use Rattle.std.specs.Cmp.Lexicographic.{nat_list_cmp_total, texts_ties}
use Rattle.std.specs.declared.cmp.Ordering.{Ordering}
use Rattle.std.proofs.Common.{refl}
use Rattle.std.proofs.lemmas.Cmp.{on_total}
use Rattle.list_facts.specs.Ascending.{text_cmp}
use Rattle.workspace_record.specs.Equality.{text_eq, texts_decide, equivalence}
use Rattle.test_select_rules.specs.declared.test_binary.TestBinary.{TestBinary}

-- the ids are the same text
abbrev pub same_id : TestBinary → TestBinary → Bool
same_id a b = text_eq a.id b.id

-- byte by byte
abbrev pub id_cmp : TestBinary → TestBinary → Ordering
id_cmp a b = text_cmp a.id b.id

pub same_id_equivalence : IsEquivalence same_id
same_id_equivalence =
    let texts = equivalence texts_decide in
    record {
      refl = λ a. texts.refl a.id;
      symm = λ a b. texts.symm a.id b.id;
      congr = λ a b d. texts.congr a.id b.id d.id;
    }

pub id_cmp_total : IsTotalOrder id_cmp
id_cmp_total = on_total (λ a. a.id) nat_list_cmp_total

-- two ids are the same exactly where the order does not tell them apart
pub ids_tie : (a b : TestBinary) → same_id a b ≡ eq_by_cmp id_cmp a b
ids_tie a b = texts_ties a.id b.id

pub id_cmp_laws : IsPartialOrder same_id (as_partial_cmp id_cmp)
id_cmp_laws = partial_order_from_agreeing_total id_cmp id_cmp_total (λ a b. refl) ids_tie

pub same_id_laws : IsPartialEquivalence same_id
same_id_laws = partial_equiv_from_equiv same_id_equivalence
