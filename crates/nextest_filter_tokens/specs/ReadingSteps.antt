-- What each step of reading says of its place in the text, and of the faults.
use Rattle.std.specs.Prelude.{◌≡◌, ℕ, ◌≤◌, ◌<◌, ◌++◌, List, length, Option, IfSome, IfNone, vec_len}
use Rattle.nextest_filter_matchers.specs.declared.source_span.SourceSpan.{SourceSpan}
use Rattle.nextest_filter_tokens.specs.FaultLists.{AreOver, AreSomeOf, AreWithin, pattern_spans, syntax_faults}
use Rattle.nextest_filter_tokens.specs.declared.fault_list.FaultList.{FaultList}

-- no fault was found but those of refused patterns
abbrev pub IsClean : FaultList → Type 0
IsClean faults = syntax_faults faults.list.items ≡ 0

-- some fault is none of a refused pattern
abbrev pub HasSyntaxFault : FaultList → Type 0
HasSyntaxFault faults = (0 < vec_len faults.list) × (0 < syntax_faults faults.list.items)

-- the faults lie within the text, and those of refused patterns over its patterns
abbrev pub AreOf : List ℕ → FaultList → Type 0
AreOf text faults = AreWithin (length text) faults.list.items × AreOver text faults.list.items

-- no fault is taken back, and those after are of the text
abbrev pub Grows : List ℕ → FaultList → FaultList → Type 0
Grows text before after =
    (vec_len before.list ≤ vec_len after.list) × (syntax_faults before.list.items ≤ syntax_faults after.list.items) × AreOf text after

-- reading goes on from a place to another within the text, and the faults grow
abbrev pub GoesOn : List ℕ → ℕ → ℕ → FaultList → FaultList → Type 0
GoesOn text i j before after = (i ≤ j) × (j ≤ length text) × Grows text before after

-- no fault is taken back, and one that ends at a place may be added
abbrev pub GrowsUpTo : ℕ → FaultList → FaultList → Type 0
GrowsUpTo end before after =
    (vec_len before.list ≤ vec_len after.list) × (syntax_faults before.list.items ≤ syntax_faults after.list.items) × ((n : ℕ) → AreWithin n before.list.items → end ≤ n → AreWithin n after.list.items) × ((text : List ℕ) → AreOver text before.list.items → AreOver text after.list.items)

-- no pattern was refused
abbrev pub KeepsPatterns : FaultList → FaultList → Type 0
KeepsPatterns before after = pattern_spans after.list.items ≡ pattern_spans before.list.items

-- the refused patterns lay at the first places, and now also at some of these, in their order
abbrev pub RefusesSomeOf : List SourceSpan → List SourceSpan → List SourceSpan → Type 0
RefusesSomeOf places before after = (added : List SourceSpan) × (after ≡ before ++ added) × AreSomeOf added places

-- a part is answered and no pattern was refused, or there is a fault
abbrev pub Spoils : {A : Type 0} → Option A → FaultList → FaultList → Type 0
Spoils part before after = IfSome part (λ _. KeepsPatterns before after) × IfNone part (0 < vec_len after.list)

-- a part is answered and no pattern was refused, or some fault is none of a refused pattern
abbrev pub SpoilsSyntax : {A : Type 0} → Option A → FaultList → FaultList → Type 0
SpoilsSyntax part before after =
    IfSome part (λ _. KeepsPatterns before after) × IfNone part (HasSyntaxFault after)
