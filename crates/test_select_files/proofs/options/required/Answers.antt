use Rattle.std.proofs.Common.{◌∙◌, ℕ, List, [], ap, refl}
use Rattle.std.specs.Borrow.{Bor}
use Rattle.std.specs.Prelude.{Option, unwrap_or}
use Rattle.test_select_files.proofs.WordFacts.{unwrap_or-lent}
use Rattle.test_select_files.proofs.options.required.Goals as goal

pub returns : goal.returns
returns c = record {
  value = ap (λ (s : Bor (List ℕ)). s.now) c.unwrap_or.ensures ∙ unwrap_or-lent c.optional.result _ refl ∙ ap (λ (o : Option (List ℕ)). unwrap_or o []) c.optional.ensures.value;
}
