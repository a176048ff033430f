-- The filter for the tests of what depends on changed packages.
use Rattle.std.specs.Prelude.{List, [], ◌∷◌, false}
use Rattle.list_facts.specs.Texts.{texts}
use Rattle.workspace_record.specs.Records.{Text}
use Rattle.nextest_filter_matchers.specs.Matchers.{Equal}
use Rattle.nextest_filter_tokens.specs.declared.heads.Predicate.TheVariants.{Rdeps}
use Rattle.nextest_filter_tokens.specs.declared.operator_signs.OrOperator.TheVariants.{Pipe}
use Rattle.nextest_filter_syntax.specs.Leaves.{Named, All, None}
use Rattle.nextest_filter_syntax.specs.Trees.{Tree, union_of, set_of}
use Rattle.test_select_changes.specs.declared.changed.Changed.{Changed}
use Rattle.test_select_changes.specs.declared.changed.Changed.TheVariants as changed

-- `rdeps(=NAME)`: the tests of the packages of this name, and of all that depends on them
abbrev pub dependents_of : Text → Tree (Unit {0})
dependents_of name = set_of (Named Rdeps (Equal name false) tt)

-- a filter, or one of these, joined by `|`
abbrev pub or_dependents : Tree (Unit {0}) → List Text → Tree (Unit {0})
or_dependents filter [] = filter
or_dependents filter (name ∷ names) = or_dependents (union_of Pipe filter (dependents_of name)) names

-- the tests of all that depends on packages of these names; none where there is no name
abbrev pub dependents_of_all : List Text → Tree (Unit {0})
dependents_of_all [] = set_of None
dependents_of_all (name ∷ names) = or_dependents (dependents_of name) names

-- all tests where any package may have changed, and else those of all that depends on the changed ones
abbrev pub changed_tree : Changed → Tree (Unit {0})
changed_tree changed.All = set_of All
changed_tree (changed.Packages names) = dependents_of_all (texts names.items)
