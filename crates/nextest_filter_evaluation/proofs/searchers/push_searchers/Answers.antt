use Rattle.std.proofs.Common.{◌∙◌, ◌-◌, ap, arith, length, map, refl, sym}
use Rattle.std.proofs.lemmas.List.{length-map}
use Rattle.regex.specs.Strings.{matcher_pattern}
use Rattle.nextest_filter_evaluation.specs.Compiled.{compiled_of}
use Rattle.nextest_filter_evaluation.specs.Searches.{searches}
use Rattle.nextest_filter_evaluation.proofs.TurningFacts.{part_turned}
use Rattle.nextest_filter_evaluation.proofs.searchers.push_searchers.Goals as goal

pub returns : goal.returns
returns c =
    let old = c.args.searchers.now in
    let all = c.push_reversed.new.searchers in
    let same = c.deref_mut.ensures.value in
    part_turned matcher_pattern all.items c.deref_mut.result.now c.reverse.new.self _ c.len-from.result all.len (length c.deref_mut.result.now - c.len-from.result) (map matcher_pattern old.items) (searches (compiled_of c.args.filter.now)) same (sym c.deref_mut.ensures.len ∙ ap length same) (omega (arith, c.len-from.ensures, old.ok, length-map old.items matcher_pattern)) refl c.in_ok-push_reversed.ensures c.reverse.ensures.after
