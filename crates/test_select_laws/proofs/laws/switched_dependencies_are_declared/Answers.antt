use Rattle.std.proofs.Common.{List, Contains}
use Rattle.workspace_record.specs.Records.{Text}
use Rattle.workspace_record.specs.Features.{FeatureValue}
use Rattle.workspace_record.specs.declared.choice.PlatformTable.{PlatformTable}
use Rattle.nextest_filtering.specs.Contexts.{ContextValue}
use Rattle.nextest_filter_evaluation.specs.NameTests.{NameTest}
use Rattle.nextest_filtering.specs.Meaning.{IsDependency, IsDependent, IsMatched}
use Rattle.test_select_laws.specs.Laws.{IsSwitchedOn, SwitchedDependenciesAreDeclared}
use Rattle.test_select_laws.proofs.PathFacts.{leads_declared}
use Rattle.test_select_laws.proofs.laws.switched_dependencies_are_declared.Goals as goal

module _ (switched declared : ContextValue) (on : List FeatureValue) (table : PlatformTable) (test : NameTest) (id : Text) (is_on : IsSwitchedOn declared.graph on table switched.graph) (listed : (p : Text × Text) → Contains switched.packages p → Contains declared.packages p) where
  matched : (start : Text) → IsMatched switched test start → IsMatched declared test start
  matched start h = record { found = h.found; listed = listed h.found h.listed; suits = h.suits; is_its = h.is_its }

  dependency : IsDependency switched test id → IsDependency declared test id
  dependency h = record {
    found = h.found;
    listed = listed h.found h.listed;
    is_its = h.is_its;
    start = h.start;
    starts_there = matched h.start h.starts_there;
    leads = leads_declared declared.graph switched.graph on table is_on h.start id h.leads;
  }

  dependent : IsDependent switched test id → IsDependent declared test id
  dependent h = record {
    found = h.found;
    listed = listed h.found h.listed;
    is_its = h.is_its;
    start = h.start;
    starts_there = matched h.start h.starts_there;
    leads = leads_declared declared.graph switched.graph on table is_on id h.start h.leads;
  }

both : SwitchedDependenciesAreDeclared
both switched declared on table test id is_on listed = (dependency switched declared on table test id is_on listed, dependent switched declared on table test id is_on listed)

pub returns : goal.returns
returns c = record { among = both }
