use Rattle.std.proofs.Common.{◌≡◌, ◌++◌, ◌∷◌, [], List, String, Global, ap, inl, inr, refl, string_bytes, ◌∙◌}
use Rattle.std.proofs.lemmas.List.{map_push}
use Rattle.std.proofs.lemmas.Result.{err_from_is_err_and}
use Rattle.list_facts.specs.Texts.{texts}
use Rattle.workspace_record.specs.Records.{Text}
use Rattle.nextest_binaries.proofs.file_lister.answer_of.Goals as goal

-- one text more was put at the end
put : (old new : List (String Global)) (s : String Global) (id : Text) → new ≡ old ++ s ∷ [] → string_bytes s ≡ id → texts new ≡ texts old ++ id ∷ []
put old new s id items is = ap texts items ∙ map_push string_bytes old s ∙ ap (λ t. texts old ++ t ∷ []) is

pub returns-in_err-from_str-clause-fails : goal.returns-in_err-from_str-clause-fails
returns-in_err-from_str-clause-fails c =
    let p = err_from_is_err_and c.from_residual.result c.from_residual.ensures.1 in
    rw p.1 (inl refl)

pub returns-in_err-push-clause-fails : goal.returns-in_err-push-clause-fails
returns-in_err-push-clause-fails c =
    let p = err_from_is_err_and c.from_residual-in_err-push.result c.from_residual-in_err-push.ensures.1 in
    rw p.1 (inl (ap texts c.in_err-push.ensures.items))

pub returns-then-failures-eq18446744073709551615-clause-fails : goal.returns-then-failures-eq18446744073709551615-clause-fails
returns-then-failures-eq18446744073709551615-clause-fails c =
    inr (put c.args.asked.now.items _ c.in_ok-from_str.field-0 c.args.id.now c.in_ok-push.ensures.items c.in_ok-from_str.ensures.ok)

pub returns-in_ok-copy_texts-in-Some-clause-asks : goal.returns-in_ok-copy_texts-in-Some-clause-asks
returns-in_ok-copy_texts-in-Some-clause-asks c =
    put c.args.asked.now.items _ c.in_ok-from_str.field-0 c.args.id.now c.in_ok-push.ensures.items c.in_ok-from_str.ensures.ok

pub returns-in-None-clause-fails : goal.returns-in-None-clause-fails
returns-in-None-clause-fails c =
    inr (put c.args.asked.now.items _ c.in_ok-from_str.field-0 c.args.id.now c.in_ok-push.ensures.items c.in_ok-from_str.ensures.ok)
