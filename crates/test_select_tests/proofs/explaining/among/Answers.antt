use Rattle.std.proofs.Common.{Contains, IsTrue, map, option_map, refl, sym}
use Rattle.test_select_tests.specs.QuestionFilters.{question_view}
use Rattle.test_select_rules.specs.BinaryView.{binary_view}
use Rattle.test_select_tests.specs.CompiledReasons.{IsReasonOfBinary, IsReasonOfTest}
use Rattle.test_select_tests.proofs.FoundFacts.{binary_found, binary_missed}
use Rattle.test_select_tests.proofs.TellingFacts.{tells_one}
use Rattle.test_select_tests.proofs.explaining.among.Goals as goal

pub returns-in-Some : goal.returns-in-Some
returns-in-Some g c =
    let q = question_view c.args.filters.now in
    let id = c.args.id.now in
    let all = map binary_view c.args.all.now in
    let found = binary_found id c.args.all.now all refl c.in-Some.binary.now (sym c.in-Some.ensures) in
    tells_one (IsReasonOfTest q (IsTrue c.args.are_given)) (IsReasonOfBinary q) (λ f. Contains c.args.on.now f) all (binary_view c.in-Some.binary.now) id (option_map (λ t. t.now) c.args.test) _ _ c.of_binary.result found.0 found.1 c.of_binary.ensures

pub returns-in-None : goal.returns-in-None
returns-in-None g c = (refl, binary_missed c.args.id.now c.args.all.now (map binary_view c.args.all.now) refl (sym c.in-None.ensures), refl)
