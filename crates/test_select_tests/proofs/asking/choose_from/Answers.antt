use Rattle.std.proofs.Common.{List, String, Vec, map}
use Rattle.std.proofs.lemmas.Result.{err_from_is_err_and}
use Rattle.std.specs.Global.{Global}
use Rattle.list_facts.specs.Texts.{texts, pair_of}
use Rattle.workspace_record.specs.Records.{Text}
use Rattle.nextest_binaries.specs.Asking.{Answered}
use Rattle.test_select_rules.specs.Binaries.{Binary}
use Rattle.test_select_tests.specs.Choosing.{AreListed}
use Rattle.test_select_tests.specs.Plans.{PassesIn}
use Rattle.test_select_tests.specs.QuestionFilters.{question_view}
use Rattle.test_select_tests.proofs.ByteFacts.{pairs_bytes}
use Rattle.test_select_tests.proofs.ChoosingFacts.{begun_all, carried_out}
use Rattle.test_select_tests.proofs.asking.choose_from.Goals as goal

pub returns-in_err-choose-in-Ok-clause-carries : goal.returns-in_err-choose-in-Ok-clause-carries
returns-in_err-choose-in-Ok-clause-carries c old new h =
    let answers = map (λ (v : Vec (String Global) Global). texts v.items) c.in-Ok.listings.items in
    let answered : Answered old (texts c.args.ids.items) answers new = rw c.in-Ok.is at h in
    let p = err_from_is_err_and c.from_residual.result c.from_residual.ensures.1 in
    rw (p.1, p.2) (begun_all old new _ _ answers c.requires.ids answered)

pub returns-in-Ok-clause-carries : goal.returns-in-Ok-clause-carries
returns-in-Ok-clause-carries c old new h =
    let holds : Binary → Text → Type 0 = PassesIn (question_view c.args.plan.now.filters) in
    let asked = c.args.plan.now.asked.items in
    let ids = texts c.args.ids.items in
    let chosen : List (Text × Text) = map pair_of c.in_ok-choose-in-Ok.field-0.items in
    let answered : Answered old ids (map (λ (v : Vec (String Global) Global). texts v.items) c.in-Ok.listings.items) new = rw c.in-Ok.is at h in
    let ascending : AreListed holds asked c.in-Ok.listings.items chosen = c.in_ok-choose-in-Ok.ensures in
    carried_out holds asked old new ids c.in-Ok.listings.items chosen ids c.new.result c.requires.ids answered ascending (pairs_bytes c.in_ok-choose-in-Ok.field-0.items) c.requires.ids c.new.ensures
