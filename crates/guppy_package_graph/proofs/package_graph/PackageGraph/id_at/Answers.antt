use Rattle.std.proofs.Common.{◌≡◌, [], Some, slice_get, subst, sym}
use Rattle.std.proofs.lemmas.Option.{get_or_from_slice_get}
use Rattle.guppy_package_table.specs.Tables.{TableValue, ids_of}
use Rattle.guppy_package_graph.proofs.package_graph.PackageGraph.id_at.Goals as goal

pub returns : goal.returns
returns c =
    let found = subst (λ (t : TableValue). slice_get (ids_of t.packages) c.args.place ≡ Some c.id_at.result.now) c.self.view_is c.id_at.ensures in
    sym (get_or_from_slice_get (ids_of c.args.self.now.packages) c.args.place c.id_at.result.now [] found)
