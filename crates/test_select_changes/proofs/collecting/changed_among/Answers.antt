use Rattle.std.proofs.Common.{[], map, sym, subst, ◌<◌, ◌≤◌}
use Rattle.std.proofs.lemmas.List.{get_or-map, length-map}
use Rattle.list_facts.specs.Texts.{texts}
use Rattle.nextest_filter_matchers.specs.Matchers.{tokens_of}
use Rattle.test_select_changes.proofs.AroundFacts.{names_more, names_sorted}
use Rattle.test_select_changes.proofs.collecting.changed_among.Goals as goal

pub loop-path-preserved : goal.loop-path-preserved
loop-path-preserved c =
    let paths = map (λ path. path.now) c.args.paths.now in
    let place = c.loop-path.path-index in
    let lt = subst (λ n. place < n) (sym (length-map c.args.paths.now (λ path. path.now))) c.loop-path-test.true in
    names_more c.args.folders.now (map tokens_of c.args.ignored.now) paths place [] _ (texts c.loop-path.names.items) _ (texts c.add_names.new.names.items) lt (get_or-map (λ path. path.now) c.args.paths.now place _ [] c.loop-path-test.true) c.loop-path.invariant (rw c.in-Some.is at c.in_ok-around.ensures) c.in_ok-add_names-in-Some.ensures

pub returns : goal.returns
returns c =
    let paths = map (λ path. path.now) c.args.paths.now in
    let place = c.loop-path.path-index in
    let all = subst (λ n. n ≤ place) (sym (length-map c.args.paths.now (λ path. path.now))) c.loop-path-test.false in
    names_sorted c.args.folders.now (map tokens_of c.args.ignored.now) paths place (texts c.loop-path.names.items) (texts c.in_ok-sorted_texts.field-0.items) all c.loop-path.invariant c.in_ok-sorted_texts.ensures
