-- A record whose rows keep the rules on packages, links and members.
use Rattle.std.proofs.Common.{◌≡◌, ◌∙◌, ℕ, Option, None, Result, Ok, Err, ap, sym}
use Rattle.std.specs.Option.{option_or}
use Rattle.workspace_record.specs.Records.{Workspace}
use Rattle.guppy_package_rules.specs.Kept.{AreKept}
use Rattle.guppy_package_rules.specs.Rules.{first_fault}
use Rattle.guppy_package_rules.specs.Refusals.{IsRefusal}
use Rattle.guppy_package_rules.specs.declared.package_graph_error.PackageGraphError.{PackageGraphError}
use Rattle.guppy_package_rules.specs.declared.package_graph_error.PackageGraphError.TheVariants as graph
use Rattle.guppy_package_rules.specs.declared.record_rule.RecordRule.{RecordRule}
use Rattle.guppy_package_rules.proofs.KeptFacts.{kept_iff}
use Rattle.test_select_rules.specs.RecordRules.{fault_of, further_broken, further_rules}
use Rattle.test_select_checks.specs.Checks.{IsChecked}
use Rattle.test_select_checks.specs.Compiling.{AnswersFilters, ChecksFilters}
use Rattle.test_select_checks.specs.Errors.{graph_error_of}
use Rattle.test_select_checks.specs.declared.record_error.RecordError.{RecordError}
use Rattle.test_select_checks.specs.declared.record_error.RecordError.TheVariants.{Broken, Filter, Memory}

-- its first fault is the first of the further rules
pub further_first : (w : Workspace) (fault : Option (RecordRule × ℕ)) → AreKept w.packages w.links w.workspace → fault ≡ first_fault (further_broken w) further_rules → fault_of w ≡ fault
further_first w fault kept is =
    ap (λ first. option_or first (first_fault (further_broken w) further_rules)) ((kept_iff w.packages w.links w.workspace).1 kept) ∙ sym is

-- a record that breaks no rule is checked as its filters are
pub checked_as_filters : (w : Workspace) (r : Result (Unit {0}) RecordError) → fault_of w ≡ None → ChecksFilters w r → IsChecked w r
checked_as_filters w (Ok u) kept h = (kept, h)
checked_as_filters w (Err (Broken rule place)) kept h = h
checked_as_filters w (Err (Filter place errors)) kept h = (kept, h)
checked_as_filters w (Err Memory) kept h = tt

-- a record whose packages have no graph is refused for the rule that they break
pub refused_as_graph : (w : Workspace) (e : PackageGraphError) → IsRefusal w.packages w.links w.workspace e → IsChecked w (Err (graph_error_of e))
refused_as_graph w (graph.Broken rule place) h = ap (λ first. option_or first (first_fault (further_broken w) further_rules)) h
refused_as_graph w graph.Memory h = tt

pub refused_for_graph : {A : Type 0} (right : A → Type 0) (w : Workspace) (e : PackageGraphError) → IsRefusal w.packages w.links w.workspace e → AnswersFilters right w (Err (graph_error_of e))
refused_for_graph right w (graph.Broken rule place) h = ap (λ first. option_or first (first_fault (further_broken w) further_rules)) h
refused_for_graph right w graph.Memory h = tt
