-- Packages of graphs are told apart by their ids.
use Rattle.std.specs.Ordering.{on}
use Rattle.std.specs.Cmp.{IsEquivalence}
use Rattle.workspace_record.specs.Equality.{equivalence, text_eq, texts_decide}
use Rattle.workspace_record.specs.Records.{Text}
use Rattle.guppy_package_table.specs.Tables.{id_at}
use Rattle.guppy_package_graph.specs.Views.{graph_of, place_of}
use Rattle.guppy_package_graph.specs.declared.package_metadata.PackageMetadata.{PackageMetadata}

-- the id of a package (from guppy's `PackageMetadata`)
abbrev pub id_of : PackageMetadata → Text
id_of m = id_at (graph_of m) (place_of m)

pub packages_equivalence : IsEquivalence (on id_of text_eq)
packages_equivalence =
    let here = equivalence texts_decide in
    record {
      refl = λ x. here.refl (id_of x);
      symm = λ x y. here.symm (id_of x) (id_of y);
      congr = λ x y z. here.congr (id_of x) (id_of y) (id_of z);
    }
