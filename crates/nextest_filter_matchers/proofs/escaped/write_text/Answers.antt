use Rattle.std.proofs.Common.{ap, rules}
use Rattle.std.proofs.Output.{has_written_append, has_written_of_eq}
use Rattle.std.specs.List.{flat_map}
use Rattle.std.proofs.lemmas.Iterator.{YieldsList-from_chars}
use Rattle.std.proofs.lemmas.Iterator.Consumers.{YieldsList-end}
use Rattle.std.proofs.lemmas.List.{map-id}
use Rattle.nextest_filter_matchers.specs.Printing.{printed_character}
use Rattle.nextest_filter_matchers.proofs.PrintFacts.{printed_text-push}
use Rattle.nextest_filter_matchers.proofs.escaped.write_text.Goals as goal

pub returns : goal.returns
returns g c plain ok =
    let end = YieldsList-end (YieldsList-from_chars c.args.text.now c.utf8.text cc) c.loop-c.yielded _ c.loop-c.yielded_by _ _ c.in-None.is c.next.ensures.steps in
    has_written_of_eq _ _ _ _ _ (ap (flat_map printed_character) (simp map-id at end.0)) (c.loop-c.invariant plain)

pub loop-c-preserved : goal.loop-c-preserved
loop-c-preserved g c = λ plain. has_written_of_eq _ _ _ _ _ (printed_text-push c.loop-c.yielded c.in-Some.c) (has_written_append _ _ _ _ _ _ (c.loop-c.invariant plain) (search rules))
