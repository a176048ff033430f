-- What follows of files that were asked for.
use Rattle.std.proofs.Common.{◌≡◌, ◌≢◌, ◌∙◌, ◌++◌, ℕ, List, [], ◌∷◌, refl, subst, inl, inr, sym, ap, Result, Ok, Err}
use Rattle.std.specs.Prelude.{Some, IfOk, IfErr, IsErrAnd}
use Rattle.std.specs.Borrow.{Bor}
use Rattle.workspace_record.specs.Records.{Text}
use Rattle.cargo_files.specs.declared.refusal.Refusal.{Refusal}
use Rattle.cargo_files.specs.declared.refusal.Refusal.TheVariants as refusal
use Rattle.test_select_files.specs.Files.{SameAnswers}
use Rattle.test_select_files.specs.declared.file_source.FileFault.TheVariants as fault
use Rattle.test_select_files.proofs.ReadingFacts.{answered_alike, answered_then}
use Rattle.cargo_workspace.specs.Files.{Answer, Asked, Asks}
use Rattle.cargo_workspace.specs.Failures.{accepted, refused}
use Rattle.cargo_workspace.specs.Reading.{FileFails, Follows, InTurn, MakesOf, ReadsBytes, shown}
use Rattle.cargo_workspace.specs.declared.failure.Failure.{Failure}
use Rattle.cargo_workspace.specs.declared.failure.Failure.TheVariants.{CommandLine, CannotRead, Refused, CannotWrite, Memory}

module _ {R Q : List ℕ → Text → Answer → List ℕ → Type 0} {s m t : List ℕ} where
  -- files are asked for, and then others of a source that answers alike
  pub asks_then : {H K L : Asked → Type 0} → SameAnswers R Q → Asks R s m H → Asks Q m t K → ((a b : Asked) → H a → K b → L (a ++ b)) → Asks R s t L
  asks_then same first next both = record {
    asked = first.asked ++ next.asked;
    answered = answered_then R s first.asked m next.asked t first.answered (answered_alike same m next.asked t next.answered);
    holds = both first.asked next.asked first.holds next.holds;
  }

module _ {R : List ℕ → Text → Answer → List ℕ → Type 0} {s t : List ℕ} where
  -- what follows of the files that were asked for
  pub asks_such : {H K : Asked → Type 0} → Asks R s t H → ((a : Asked) → H a → K a) → Asks R s t K
  asks_such asks such = record { asked = asks.asked; answered = asks.answered; holds = such asks.asked asks.holds }

  -- one file is asked for
  pub asks_one : {H : Asked → Type 0} (name : Text) (a : Answer) → R s name a t → H ((name, a) ∷ []) → Asks R s t H
  asks_one name a h holds = record { asked = (name, a) ∷ []; answered = (t, h, refl); holds = holds }

module _ {R : List ℕ → Text → Answer → List ℕ → Type 0} {s : List ℕ} where
  -- none is
  pub asks_none : {H : Asked → Type 0} → H [] → Asks R s s H
  asks_none holds = record { asked = []; answered = refl; holds = holds }

-- ---- one file

-- what holds of want of memory, and of a file that is refused for another cause, holds of any refusal
pub refused_as : (P : Failure → Type 0) (name : Bor (List ℕ)) (why : Refusal) → P Memory → (why ≢ refusal.Memory → P (Refused (record { name = name; refusal = why }))) → P (refused name why)
refused_as P name (refusal.Metadata e) m r = r (λ e. cc)
refused_as P name (refusal.Record e) m r = r (λ e. cc)
refused_as P name (refusal.Settings e) m r = r (λ e. cc)
refused_as P name (refusal.Spec e) m r = r (λ e. cc)
refused_as P name (refusal.Choice e) m r = r (λ e. cc)
refused_as P name (refusal.File e) m r = r (λ e. cc)
refused_as P name refusal.NoJson m r = r (λ e. cc)
refused_as P name refusal.NoSuites m r = r (λ e. cc)
refused_as P name (refusal.NoList e) m r = r (λ e. cc)
refused_as P name (refusal.UnreadList e) m r = r (λ e. cc)
refused_as P name (refusal.StrayLine e i) m r = r (λ e. cc)
refused_as P name (refusal.Repeated e i) m r = r (λ e. cc)
refused_as P name refusal.Memory m r = m

-- a file that is not read is not, whatever would refuse it
unread_fails : (Refuses : List ℕ → Refusal → Type 0) (name : Text) (f : Failure) (a : Asked) → FileFails (λ bytes why. ⊥) name f a → FileFails Refuses name f a
unread_fails Refuses name (CannotRead at) a h = h
unread_fails Refuses name (Refused file) a h = absurd h.refuses
unread_fails Refuses name Memory a h = tt
unread_fails Refuses name (CommandLine e) a h = absurd h
unread_fails Refuses name CannotWrite a h = absurd h

module _ {X Y : Type 0} (shows : X → Y) (Makes : List ℕ → Y → Type 0) (Refuses : List ℕ → Refusal → Type 0) where
  -- what is made of the bytes that were answered
  accepted_makes : (name : Bor (List ℕ)) (bytes : List ℕ) (made : Result X Refusal) (a : Asked) → IfOk made (λ x. Makes bytes (shows x)) → IfErr made (Refuses bytes) → a ≡ (name.now, Ok (Some bytes)) ∷ [] → MakesOf Makes Refuses name.now (shown shows (accepted name made)) a
  accepted_makes name bytes (Ok x) a ok err only = record { bytes = bytes; only = only; makes = ok }
  accepted_makes name bytes (Err why) a ok err only =
      refused_as (λ f. FileFails Refuses name.now f a) name why tt (λ other. record { named = refl; bytes = bytes; only = only; refuses = err; not_memory = other })

  module _ {R : List ℕ → Text → Answer → List ℕ → Type 0} {s t : List ℕ} (name : Bor (List ℕ)) (word : Text) (named : name.now ≡ word) where
    -- the same of a file that was asked for, by a word that names it
    pub made_asks : (bytes lent : List ℕ) (made : Result X Refusal) (result : Result X Failure) → Asks R s t (ReadsBytes name.now (Ok bytes)) → lent ≡ bytes → IfOk made (λ x. Makes lent (shows x)) → IfErr made (Refuses lent) → result ≡ accepted name made → Asks R s t (MakesOf Makes Refuses word (shown shows result))
    made_asks bytes lent made result asks same ok err is =
        subst (λ (w : Text). Asks R s t (MakesOf Makes Refuses w (shown shows result))) named
        (subst (λ (r : Result X Failure). Asks R s t (MakesOf Makes Refuses name.now (shown shows r))) (sym is)
        (asks_such asks (λ a h. accepted_makes name lent made a ok err (h.only ∙ ap (λ b. (name.now, Ok (Some b)) ∷ []) (sym (same ∙ h.makes))))))

    -- a file that is not read was asked for
    pub unmade_asks : (f : Failure) (result : Result X Failure) → IsErrAnd result (λ g. g ≡ f) → Asks R s t (ReadsBytes name.now (Err f)) → Asks R s t (MakesOf Makes Refuses word (shown shows result))
    unmade_asks f (Ok x) is asks = absurd is
    unmade_asks f (Err g) is asks =
        subst (λ (w : Text). Asks R s t (MakesOf Makes Refuses w (Err g))) named
        (subst (λ (f : Failure). Asks R s t (MakesOf Makes Refuses name.now (Err f))) (sym is)
        (asks_such asks (λ a h. unread_fails Refuses name.now f a h)))

-- ---- one after the other

module _ {X Y E : Type 0} (First : Result X E → Asked → Type 0) (Next : X → Result Y E → Asked → Type 0) where
  -- what came of the one
  pub follows : (result : Result Y E) (a : Asked) → Follows First Next result a → InTurn First Next result a
  follows (Ok y) a h = h
  follows (Err why) a h = inr h

  -- the one, and then the other
  pub in_turn : (x : X) (result : Result Y E) (a b : Asked) → First (Ok x) a → Next x result b → InTurn First Next result (a ++ b)
  in_turn x result a b first next = follows result (a ++ b) (record { for_first = a; for_next = b; in_order = refl; value = x; first = first; next = next })

  module _ {R : List ℕ → Text → Answer → List ℕ → Type 0} {s t : List ℕ} where
    -- the first of them fails
    pub turn_fails : {Z : Type 0} (shows : Z → Y) (why : E) (result : Result Z E) → IsErrAnd result (λ e. e ≡ why) → Asks R s t (First (Err why)) → Asks R s t (InTurn First Next (shown shows result))
    turn_fails shows why (Ok z) is asks = absurd is
    turn_fails shows why (Err e) is asks =
        subst (λ (e : E). Asks R s t (InTurn First Next (Err e))) (sym is) (asks_such asks (λ a h. inl h))

  module _ {R Q : List ℕ → Text → Answer → List ℕ → Type 0} {s m t : List ℕ} where
    -- the one is made, and of it the other
    pub turn_goes : (x : X) (result : Result Y E) → SameAnswers R Q → Asks R s m (First (Ok x)) → Asks Q m t (Next x result) → Asks R s t (InTurn First Next result)
    turn_goes x result same first next = asks_then same first next (in_turn x result)
