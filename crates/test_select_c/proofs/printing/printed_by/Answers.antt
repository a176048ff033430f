use Rattle.std.proofs.Common.{Option, inl, subst}
use Rattle.std.specs.Option.{IfSome}
use Rattle.test_select_c.specs.CallParts.{IsTakenFrom, texts_of}
use Rattle.test_select_c.specs.declared.printing.Call.{Call}
use Rattle.test_select_c.proofs.printing.printed_by.Goals as goal

pub returns-in-Ok-Some-clause-prints : goal.returns-in-Ok-Some-clause-prints
returns-in-Ok-Some-clause-prints c = λ is_call.
    let call = c.in-Ok-Some.call in
    let parts : IsTakenFrom c.args.words.now c.args.files.now call = subst (λ (o : Option Call). IfSome o (IsTakenFrom c.args.words.now c.args.files.now)) c.in-Ok-Some.field-0-is c.in-Ok-Some.ensures.parts in
    inl (record {
      texts = texts_of call;
      are_words = parts.are_words;
      listed = call.files.items;
      are_files = parts.are_files;
      ended = c.printed_of.ensures.ends;
    })
