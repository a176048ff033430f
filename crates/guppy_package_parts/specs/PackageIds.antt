-- Package ids, each seen as its text: the laws of their order and of their hash.
use Rattle.std.specs.Prelude.{true}
use Rattle.std.specs.Ordering.{as_partial_cmp}
use Rattle.std.specs.Cmp.{IsPartialOrder, partial_order_from_agreeing_total}
use Rattle.std.specs.Cmp.Lexicographic.{nat_list_cmp_total, texts_ties}
use Rattle.std.specs.Hash as fed
use Rattle.std.proofs.Common.{◌≡◌, refl, ap}
use Rattle.list_facts.specs.Ascending.{text_cmp}
use Rattle.workspace_record.specs.Equality.{text_eq, texts_decide}
use Rattle.workspace_record.specs.Records.{Text}

pub ids_in_order : IsPartialOrder text_eq (as_partial_cmp text_cmp)
ids_in_order = partial_order_from_agreeing_total text_cmp nat_list_cmp_total (λ a b. refl) texts_ties

pub same_id_writes : (a b : Text) → text_eq a b ≡ true → fed.str a ≡ fed.str b
same_id_writes a b h = ap fed.str ((texts_decide a b).0 h)
