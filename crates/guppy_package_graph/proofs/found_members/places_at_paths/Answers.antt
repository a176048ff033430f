use Rattle.std.proofs.Common.{ℕ, ◌<◌, All, Bor, Option, inr, length, subst, sym}
use Rattle.std.proofs.lemmas.List.Elements.{All-push}
use Rattle.workspace_record.specs.Records.{Text}
use Rattle.guppy_package_table.specs.Members.{member_at_path}
use Rattle.guppy_package_graph.specs.Members.{IsUnknownPath}
use Rattle.guppy_package_graph.proofs.FoundFacts.{found_all, found_more, one_of}
use Rattle.guppy_package_graph.proofs.found_members.places_at_paths.Goals as goal

pub loop-path-preserved : goal.loop-path-preserved
loop-path-preserved c =
    let find : Bor Text → Option ℕ = λ path. member_at_path c.args.graph.now path.now in
    let within : ℕ → Type 0 = λ v. v < length c.args.graph.now.packages in
    let was = c.loop-path.invariant in
    let items = c.in_ok-push-in-Ok.ensures.items in
    let more = found_more find c.args.paths.now c.loop-path.path-index c.loop-path.places.items was.found in
    record {
      found = more _ c.in-Ok.place c.push.new.self.items c.loop-path-test.true c.in-Ok.ensures.0 items;
      within = subst (All within) (sym items) (All-push within c.loop-path.places.items c.in-Ok.place was.within c.in-Ok.ensures.1);
    }

pub returns : goal.returns
returns c =
    let find : Bor Text → Option ℕ = λ path. member_at_path c.args.graph.now path.now in
    let was = c.loop-path.invariant in
    let found = found_all find c.args.paths.now c.loop-path.path-index c.loop-path.places.items was.found c.loop-path-test.false in
    record { found = found; within = was.within; refused = tt }

pub returns-in-Err : goal.returns-in-Err
returns-in-Err c =
    let one = one_of (IsUnknownPath c.args.graph.now) (λ x. x.now) c.args.paths.now c.loop-path.path-index _ c.loop-path-test.true c.in-Err.ensures.0 in
    record { found = tt; within = tt; refused = inr (c.in-Err.ensures.1, one) }
