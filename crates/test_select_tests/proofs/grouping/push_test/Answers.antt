use Rattle.std.proofs.Common.{◌≡◌, ◌∙◌, ◌-◌, [], ◌∷◌, ◌++◌, List, map, ap, sym, subst, string_bytes, true≢false, arith}
use Rattle.std.proofs.lemmas.List.{map-append}
use Rattle.workspace_record.specs.Records.{Text}
use Rattle.test_select_tests.specs.Grouping.{IsByBinary, IsOfLast, group_of}
use Rattle.test_select_tests.proofs.GroupFacts.{grown, opened, some_last}
use Rattle.test_select_tests.proofs.grouping.push_test.Goals as goal

pub returns-in_ok-push : goal.returns-in_ok-push
returns-in_ok-push c pairs was =
    let groups = c.args.groups.now.items in
    let of_last : IsOfLast (map group_of groups) (string_bytes c.args.id) = subst (λ gs. IsOfLast (map group_of gs) (string_bytes c.args.id)) c.deref.ensures.value (c.is_of_last.ensures.0 c.if-is_of_last.true) in
    let some = some_last groups (string_bytes c.args.id) of_last in
    grown groups (c.len-last.result - 1) c.index_mut.result.now (omega (arith, some, c.len-last.ensures, c.args.groups.now.ok.0)) c.index_mut.ensures.value pairs c.push.new.self c.args.id c.args.test c.in_ok-push.ensures.items of_last was

pub returns-in_ok-push-2 : goal.returns-in_ok-push-2
returns-in_ok-push-2 c pairs was =
    let groups = c.args.groups.now.items in
    let new : map group_of c.push-else-is_of_last.new.self.items ≡ map group_of groups ++ (string_bytes c.args.id, string_bytes c.args.test ∷ []) ∷ [] =
    ap (map group_of) c.in_ok-push-2.ensures.items ∙ map-append group_of groups ((c.args.id, c.in_ok-vec.field-0) ∷ []) ∙ ap (λ (tests : List Text). map group_of groups ++ (string_bytes c.args.id, tests) ∷ []) (ap (map string_bytes) c.in_ok-vec.ensures.items) in
    subst (IsByBinary (pairs ++ (string_bytes c.args.id, string_bytes c.args.test) ∷ [])) (sym new) (opened pairs (map group_of groups) (string_bytes c.args.id) (string_bytes c.args.test) (λ of_last. true≢false (sym (c.is_of_last.ensures.1 (subst (λ gs. IsOfLast (map group_of gs) (string_bytes c.args.id)) (sym c.deref.ensures.value) of_last)) ∙ c.if-is_of_last.false)) was)
