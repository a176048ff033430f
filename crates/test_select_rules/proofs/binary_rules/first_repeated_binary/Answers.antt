use Rattle.std.proofs.Common.{◌≡◌, Bor, IfOk, subst, ◌++◌, ◌∷◌, [], get_or, map, take, take_all, ap, sym, ◌∙◌, List}
use Rattle.std.proofs.lemmas.List.{map_more, map_push}
use Rattle.std.specs.Str.{bytes_eq}
use Rattle.guppy_package_rules.specs.Places.{first_repeat}
use Rattle.workspace_record.specs.Records.{Text}
use Rattle.test_select_rules.specs.Binaries.{Binary}
use Rattle.test_select_rules.specs.BinaryView.{binary_view}
use Rattle.test_select_rules.specs.declared.test_binary.TestBinary.{TestBinary}
use Rattle.test_select_rules.proofs.binary_rules.first_repeated_binary.Goals as goal

pub loop-binary-preserved : goal.loop-binary-preserved
loop-binary-preserved c =
    let all = c.args.all.now in
    let i = c.loop-binary.binary-index in
    let item = c.binary-item.result in
    let so_far = c.loop-binary.invariant in
    let is = c.as_str.ensures.text ∙ ap (λ (b : TestBinary). (binary_view b).id) c.binary-item.is in
    ap (map (λ (t : Bor Text). t.now)) c.in_ok-push.ensures.items ∙ map_push (λ (t : Bor Text). t.now) c.loop-binary.ids.items c.as_str.result ∙ (λ j. so_far j ++ is j ∷ []) ∙ sym (ap (map (λ (b : Binary). b.id)) (map_more binary_view all i item c.loop-binary-test.true) ∙ map_push (λ (b : Binary). b.id) (map binary_view (take i all)) (binary_view (get_or all i item)))

pub returns : goal.returns
returns c =
    let ids = c.loop-binary.invariant ∙ ap (λ (all : List TestBinary). map (λ (b : Binary). b.id) (map binary_view all)) (take_all c.loop-binary.binary-index c.args.all.now c.loop-binary-test.false) in
    subst (λ texts. IfOk c.first_repeated_text.result (λ place. place ≡ first_repeat bytes_eq texts)) (ap (map (λ (t : Bor Text). t.now)) c.deref.ensures.value ∙ ids) c.first_repeated_text.ensures
