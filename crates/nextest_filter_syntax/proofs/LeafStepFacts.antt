-- The steps of reading: what the places and the faults after several of them are.
use Rattle.std.proofs.Common.{ℕ, ◌≤◌, List, Option, Some, None, IfNone, length, arith}
use Rattle.nextest_filter_tokens.specs.ReadingSteps.{AreOf, GoesOn, Grows, GrowsUpTo, HasSyntaxFault, IsClean, Spoils, SpoilsSyntax}
use Rattle.nextest_filter_tokens.specs.declared.fault_list.FaultList.{FaultList}

pub grows_same : (text : List ℕ) (f : FaultList) → AreOf text f → Grows text f f
grows_same text f of = (omega arith, omega arith, of)

pub goes_both : (text : List ℕ) (i j k : ℕ) (f g h : FaultList) → GoesOn text i j f g → GoesOn text j k g h → GoesOn text i k f h
goes_both text i j k f g h p q =
    (omega (arith, p.0, q.0), q.1, (omega (arith, p.2.0, q.2.0), omega (arith, p.2.1, q.2.1), q.2.2))

-- what goes on from a place goes on from one before it
pub goes_from : (text : List ℕ) (i j k : ℕ) (f g : FaultList) → i ≤ j → GoesOn text j k f g → GoesOn text i k f g
goes_from text i j k f g up p = (omega (arith, up, p.0), p.1, p.2)

pub goes_up_to : (text : List ℕ) (i j end : ℕ) (f g h : FaultList) → GoesOn text i j f g → end ≤ length text → GrowsUpTo end g h → GoesOn text i j f h
goes_up_to text i j end f g h p within q =
    (p.0, p.1, (omega (arith, p.2.0, q.0), omega (arith, p.2.1, q.1), (q.2 (length text) p.2.2.0 within, q.3 text p.2.2.1)))

pub clean_before : (text : List ℕ) (i j : ℕ) (f g : FaultList) → GoesOn text i j f g → IsClean g → IsClean f
clean_before text i j f g p clean = omega (arith, p.2.1, clean)

pub fault_after : (f g : FaultList) (text : List ℕ) (i j : ℕ) → HasSyntaxFault f → GoesOn text i j f g → HasSyntaxFault g
fault_after f g text i j fault p = (omega (arith, fault.0, p.2.0), omega (arith, fault.1, p.2.1))

-- a spoiled part is a fault of any kind
pub spoils_any : {A : Type 0} (o : Option A) (f g : FaultList) → SpoilsSyntax o f g → Spoils o f g
spoils_any (Some v) f g p = p
spoils_any None f g p = (tt, p.1.0)

-- no part is missing where there is no fault
pub none_clean : {A : Type 0} (B : Type 0) (o : Option A) (f g : FaultList) → SpoilsSyntax o f g → IsClean g → IfNone o B
none_clean B (Some v) f g p clean = tt
none_clean B None f g p clean = absurd (omega (arith, p.1.1, clean))
