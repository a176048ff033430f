use Rattle.std.proofs.Common.{◌≡◌, ℕ, ◌<◌, All, Bor, Option, Some, inr, length, position, subst, sym}
use Rattle.std.proofs.lemmas.List.Elements.{All-push}
use Rattle.std.specs.Str.{bytes_eq}
use Rattle.workspace_record.specs.Records.{Text}
use Rattle.guppy_package_table.specs.Tables.{ids_of}
use Rattle.guppy_package_graph.specs.Finding.{IsUnknown}
use Rattle.guppy_package_graph.proofs.FoundFacts.{found_all, found_more, one_of}
use Rattle.guppy_package_graph.proofs.found_packages.places_of.Goals as goal

pub loop-package_id-preserved : goal.loop-package_id-preserved
loop-package_id-preserved c =
    let find : Bor Text → Option ℕ = λ id. position (bytes_eq id.now) (ids_of c.args.graph.now.packages) in
    let within : ℕ → Type 0 = λ v. v < length c.args.graph.now.packages in
    let was = c.loop-package_id.invariant in
    let items = c.in_ok-push-in-Ok.ensures.items in
    let here = subst (λ x. find x ≡ Some c.in-Ok.place) c.package_id-item.is c.in-Ok.ensures.0 in
    let more = found_more find c.args.package_ids.now c.loop-package_id.package_id-index c.loop-package_id.places.items was.found in
    record {
      found = more c.package_id-item.result c.in-Ok.place c.push.new.self.items c.loop-package_id-test.true here items;
      within = subst (All within) (sym items) (All-push within c.loop-package_id.places.items c.in-Ok.place was.within c.in-Ok.ensures.1);
    }

pub returns : goal.returns
returns c =
    let find : Bor Text → Option ℕ = λ id. position (bytes_eq id.now) (ids_of c.args.graph.now.packages) in
    let was = c.loop-package_id.invariant in
    let found = found_all find c.args.package_ids.now c.loop-package_id.package_id-index c.loop-package_id.places.items was.found c.loop-package_id-test.false in
    record { found = found; within = was.within; refused = tt }

pub returns-in-Err : goal.returns-in-Err
returns-in-Err c =
    let here = subst (λ (x : Bor Text). IsUnknown c.args.graph.now x.now) c.package_id-item.is c.in-Err.ensures.0 in
    let one = one_of (IsUnknown c.args.graph.now) (λ x. x.now) c.args.package_ids.now c.loop-package_id.package_id-index c.package_id-item.result c.loop-package_id-test.true here in
    record { found = tt; within = tt; refused = inr (c.in-Err.ensures.1, one) }
