use Rattle.std.specs.Cmp.Lexicographic.{nat_list_cmp_total, texts_ties}
use Rattle.workspace_record.specs.Equality.{equivalence, texts_decide}
use Rattle.guppy_package_parts.specs.PackageIds.{same_id_writes}
use Rattle.guppy_package_parts.proofs.laws.ids_are_lawful.Goals as goal

pub returns : goal.returns
returns c = record {
  equality = equivalence texts_decide;
  order = nat_list_cmp_total;
  ties = texts_ties;
  hash = same_id_writes;
}
