use Rattle.std.proofs.Common.{◌≡◌, ◌∙◌, sym, true, false, refl}
use Rattle.std.proofs.lemmas.Result.{IfOk-weaker}
use Rattle.cargo_files.specs.Expressions.{Cfg}
use Rattle.cargo_files.specs.Specs.{IsCfg, IsSpec, IsTriple, Spec, cfg_spec, is_expression, triple_spec}
use Rattle.cargo_files.proofs.SpecFacts.{cfg_answers}
use Rattle.cargo_files.proofs.spec.spec_holds.Goals as goal

pub returns-then-is_expression-clause-read : goal.returns-then-is_expression-clause-read
returns-then-is_expression-clause-read c =
    let text = c.args.text.now in
    let bytes = c.as_bytes-bytes.ensures.value in
    let begins : is_expression text ≡ true = rw bytes at (sym c.is_expression.ensures.value ∙ c.if-is_expression.true) in
    IfOk-weaker c.expression_holds.result (λ _. (x : Cfg) × IsCfg text x) (λ _. (s : Spec) × IsSpec text s) (λ _ w. (cfg_spec w.0, (begins, w.1))) (rw bytes at c.expression_holds.ensures.read)

pub returns-then-is_expression-clause-answers : goal.returns-then-is_expression-clause-answers
returns-then-is_expression-clause-answers c =
    let bytes = c.as_bytes-bytes.ensures.value in
    let begins : is_expression c.args.text.now ≡ true = rw bytes at (sym c.is_expression.ensures.value ∙ c.if-is_expression.true) in
    cfg_answers c.args.text.now c.args.triple.now c.args.settings.now c.expression_holds.result begins (rw bytes at c.expression_holds.ensures.only)

pub returns-else-is_expression-clause-read : goal.returns-else-is_expression-clause-read
returns-else-is_expression-clause-read c =
    let text = c.args.text.now in
    let bytes = c.as_bytes-bytes.ensures.value in
    let begins : is_expression text ≡ false = rw bytes at (sym c.is_expression.ensures.value ∙ c.if-is_expression.false) in
    IfOk-weaker c.triple_holds.result (λ _. IsTriple text) (λ _. (s : Spec) × IsSpec text s) (λ _ w. (triple_spec text, (begins, refl, w))) (rw bytes at c.triple_holds.ensures.read)
