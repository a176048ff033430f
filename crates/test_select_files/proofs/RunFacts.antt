-- How a run of a program ends.
use Rattle.std.proofs.Common.{◌≡◌, ◌≢◌, ◌∙◌, List, [], append-nil, ap, inl, inr, subst, sym, true, Result, Ok, Err}
use Rattle.std.specs.Prelude.{Option, IsErrAnd}
use Rattle.std.specs.Io.KnownBytes.{Appends, Keeps}
use Rattle.std.proofs.KnownBytes.{Appends-kept}
use Rattle.clap.specs.Faults.{is_simple_and_free}
use Rattle.clap.specs.Kinds.{HasKind, Kinds}
use Rattle.clap.specs.Values.{kind_of}
use Rattle.clap.specs.Words.{App, fault_of}
use Rattle.clap.specs.declared.error.Error.{Error}
use Rattle.clap.specs.declared.error.ErrorKind.TheVariants.{DisplayHelp, DisplayVersion, OutOfMemory}
use Rattle.list_facts.specs.Writers.{Writes}
use Rattle.workspace_record.specs.Records.{Text}
use Rattle.test_select_files.specs.Mistakes.{AreMistakes}

-- a text that was written, and then flushed or not
pub flushed_writes : {E : Type 0} (text : Text) (old mid new : Option Text) (result : Result (Unit {0}) E) → Appends old mid text → Keeps mid new → Writes old new result text
flushed_writes text old mid new (Ok x) added kept = Appends-kept old mid new text added kept
flushed_writes text old mid new (Err e) added kept =
    ([], record { front = text; whole = sym (append-nil text); added = Appends-kept old mid new text added kept })

-- the failure that is known
pub fails_as : {T F : Type 0} (failure : F) (result : Result T F) → IsErrAnd result (λ f. f ≡ failure) → result ≡ Err failure
fails_as failure (Ok x) is = absurd is
fails_as failure (Err f) is = ap (λ y. Err y) is

-- a command line without a fault fails for want of memory alone
pub only_memory : (program a : App) (words : List Text) (e : Error) → is_simple_and_free program ≡ true → a ≡ program → (is_simple_and_free a ≡ true → HasKind (fault_of a words) e) → fault_of program words ≡ [] → kind_of e ≡ OutOfMemory
only_memory program a words e free is kinds none =
    elim (subst (λ (k : Kinds). HasKind k e) (ap (λ (x : App). fault_of x words) is ∙ none) (kinds (ap is_simple_and_free is ∙ free))) [ inl h ↦ h | inr h ↦ absurd h ]

-- words in which there are mistakes are not taken
pub not_taken : (program a : App) (words : List Text) → is_simple_and_free program ≡ true → a ≡ program → (is_simple_and_free a ≡ true → fault_of a words ≡ []) → AreMistakes (fault_of program words) → ⊥
not_taken program a words free is none mistakes =
    mistakes.some (ap (λ (x : App). fault_of x words) (sym is) ∙ none (ap is_simple_and_free is ∙ free))

-- an error of such words tells neither the help nor the version
pub no_request_told : (program a : App) (words : List Text) (e : Error) → is_simple_and_free program ≡ true → a ≡ program → (is_simple_and_free a ≡ true → HasKind (fault_of a words) e) → AreMistakes (fault_of program words) → (kind_of e ≢ DisplayHelp) × (kind_of e ≢ DisplayVersion)
no_request_told program a words e free is kinds mistakes =
    elim (subst (λ (k : Kinds). HasKind k e) (ap (λ (x : App). fault_of x words) is) (kinds (ap is_simple_and_free is ∙ free))) [
      | inl memory ↦ (λ help. absurd cc, λ version. absurd cc)
      | inr among ↦ mistakes.no_request (kind_of e) among
    ]
