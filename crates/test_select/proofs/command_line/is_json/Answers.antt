use Rattle.std.proofs.Common.{codes, refl}
use Rattle.test_select_files.proofs.WordFacts.{text_said}
use Rattle.test_select.proofs.command_line.is_json.Goals as goal

pub returns : goal.returns
returns c = record { given = text_said c.args.asked.now (codes "format") (codes "json") _ c.get_str.result _ c.eq.result (λ x. refl) c.get_str.ensures c.eq.ensures }
