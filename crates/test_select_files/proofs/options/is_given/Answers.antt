use Rattle.std.proofs.Common.{codes, refl}
use Rattle.test_select_files.proofs.WordFacts.{text_said}
use Rattle.test_select_files.proofs.options.is_given.Goals as goal

pub returns : goal.returns
returns c = record { given = text_said c.args.asked.now c.args.flag.now (codes "true") _ c.get_str.result _ c.eq.result (λ x. refl) c.get_str.ensures c.eq.ensures }
