use Rattle.std.proofs.Common.{◌≡◌, ◌∷◌, [], Bor, Vec, String, map, subst, sym, ap, ◌∙◌, rules}
use Rattle.std.specs.Global.{Global}
use Rattle.std.specs.List.{zip}
use Rattle.std.proofs.lemmas.List.{map-append}
use Rattle.std.proofs.lemmas.Iterator.{YieldsList-from_slice, YieldsList-from_zip}
use Rattle.std.proofs.lemmas.Iterator.Adapters.{YieldsList-from_vec}
use Rattle.std.proofs.lemmas.Iterator.Consumers.{YieldsList-at, YieldsList-end}
use Rattle.regex.specs.Strings.{matcher_pattern}
use Rattle.list_facts.specs.Texts.{pair_of}
use Rattle.test_select_checks.proofs.ContextFacts.{if_ok_so}
use Rattle.test_select_rules.specs.Binaries.{Binary}
use Rattle.test_select_rules.specs.declared.test_binary.TestBinary.{TestBinary}
use Rattle.workspace_record.specs.Records.{Text}
use Rattle.test_select_tests.specs.Choosing.{IsListed}
use Rattle.test_select_tests.specs.Kept.{Adds}
use Rattle.test_select_tests.specs.Plans.{PassesIn}
use Rattle.test_select_tests.specs.QuestionFilters.{question_view}
use Rattle.test_select_tests.proofs.ChoosingFacts.{lent_back, listed_all, listed_more}
use Rattle.test_select_tests.proofs.asking.choose.Goals as goal

abbrev entry_of : Bor TestBinary × Vec (String Global) Global → TestBinary × Vec (String Global) Global
entry_of e = (e.0.now, e.1)

pub loop-binary-preserved : goal.loop-binary-preserved
loop-binary-preserved c =
    let holds : Binary → Text → Type 0 = PassesIn (question_view c.args.plan.now.filters) in
    let seen = c.loop-binary.yielded in
    let new = map pair_of c.push_chosen.new.chosen.items in
    record {
      patterns = lent_back matcher_pattern c.loop-binary.searchers.items c.push_chosen.new.searchers c.loop-binary.searchers.len (search rules) (c.in_ok-push_chosen.ensures.same ∙ ap (map matcher_pattern) c.deref_mut.ensures.value) ∙ c.loop-binary.invariant.patterns;
      listed = subst (λ es. Adds (IsListed holds es) [] new) (sym (map-append entry_of seen ((c.in-Some.binary, c.in-Some.names) ∷ []))) (listed_more holds (map entry_of seen) c.in-Some.binary.now c.in-Some.names [] (map pair_of c.loop-binary.chosen.items) new c.loop-binary.invariant.listed (c.in_ok-push_chosen.ensures.added (question_view c.args.plan.now.filters) c.in_ok-filters.ensures.lent));
    }

pub returns : goal.returns
returns c =
    let holds : Binary → Text → Type 0 = PassesIn (question_view c.args.plan.now.filters) in
    let asked = c.args.plan.now.asked.items in
    let listings = c.args.listings.items in
    let all : c.deref.result.now ≡ asked = c.deref.ensures.value in
    let binaries = YieldsList-at c.zip-binary-items.ensures.first (YieldsList-from_slice asked (c.iter.ensures.rest ∙ all)) in
    let lists = YieldsList-from_vec listings c.zip-binary-items.ensures.second.0 (c.zip-binary-items.ensures.second.1 ∙ c.args.listings.ok.0) in
    let road = YieldsList-at c.into_iter-binary-iterator.ensures.into_iter_gives (YieldsList-from_zip binaries lists) in
    let ended = YieldsList-end road c.loop-binary.yielded c.loop-binary.binary-iterator c.loop-binary.yielded_by c.next.result c.next.new.self c.in-None.is c.next.ensures.steps in
    let found = map pair_of c.loop-binary.chosen.items in
    let each : Adds (IsListed holds (zip asked listings)) [] found = subst (λ es. Adds (IsListed holds es) [] found) ended.0 c.loop-binary.invariant.listed in
    if_ok_so _ _ c.ascending_pairs.result (λ v ascending. listed_all holds asked listings found (map pair_of v.items) each ascending) c.ascending_pairs.ensures
