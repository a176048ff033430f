-- What follows of the lists of test binaries that were read.
use Rattle.std.proofs.Common.{◌≡◌, ◌∙◌, ◌++◌, ◌+◌, ◌<◌, ◌≤◌, ℕ, Bool, List, [], ◌∷◌, length, map, take, drop, get_or, refl, subst, inl, inr, sym, ap, append_assoc, append-nil, take-append-drop, String, string_bytes, Result, Ok, Err}
use Rattle.std.specs.Prelude.{IfErr, IsErrAnd, OnOk, Option, Some}
use Rattle.std.specs.Global.{Global}
use Rattle.std.specs.Borrow.{Bor}
use Rattle.std.proofs.lemmas.List.{drop_more, map-append, take_all}
use Rattle.workspace_record.specs.Records.{Text}
use Rattle.list_facts.proofs.Lists.{map-take_more}
use Rattle.cargo_files.specs.Added.{IsAdded}
use Rattle.cargo_files.specs.Refused.{RefusesPrinted, RefusesTests}
use Rattle.cargo_files.specs.declared.refusal.Refusal.{Refusal}
use Rattle.cargo_files.specs.declared.refusal.Refusal.TheVariants as refusal
use Rattle.test_select_files.specs.Files.{SameAnswers}
use Rattle.test_select_files.proofs.ReadingFacts.{SameAnswers-refl}
use Rattle.cargo_workspace.specs.Failures.{accepted}
use Rattle.cargo_workspace.specs.Files.{Answer, Asked, Asks}
use Rattle.cargo_workspace.specs.Lists.{AddsList, AddsLists, AddsTests, Listed, ReadsFolder, ReadsList, list_path}
use Rattle.cargo_workspace.specs.Reading.{shown}
use Rattle.cargo_workspace.specs.declared.failure.Failure.{Failure}
use Rattle.cargo_workspace.proofs.ReadingFacts.{asks_none, asks_one, asks_such, asks_then, follows, refused_as, turn_goes}

-- ---- the lists in a folder

module _ (folder : Text) (built : Bool) where
  -- the lists of some binaries are added, and then those of others
  pub lists_then : (xs ys : List Text) (old mid : Listed) (result : Result Listed Refusal) (a b : Asked) → AddsLists folder built xs old (Ok mid) a → AddsLists folder built ys mid result b → AddsLists folder built (xs ++ ys) old result (a ++ b)
  lists_then [] ys old mid result a b first next =
      subst (λ (x : Asked). AddsLists folder built ys old result (x ++ b)) (sym first.1)
      (subst (λ (x : Listed). AddsLists folder built ys x result b) first.0 next)
  lists_then (x ∷ xs) ys old mid result a b first next =
      follows (AddsList folder built x old) (λ more. AddsLists folder built (xs ++ ys) more) result (a ++ b) (record {
        for_first = first.for_first;
        for_next = first.for_next ++ b;
        in_order = ap (λ (z : Asked). z ++ b) first.in_order ∙ append_assoc first.for_first first.for_next b;
        value = first.value;
        first = first.first;
        next = lists_then xs ys first.value mid result first.for_next b first.next next;
      })

  -- the list of one binary is added
  one_list : (id : Text) (old new : Listed) (a : Asked) → AddsList folder built id old (Ok new) a → AddsLists folder built (id ∷ []) old (Ok new) a
  one_list id old new a adds = record {
    for_first = a;
    for_next = [];
    in_order = sym (append-nil a);
    value = new;
    first = adds;
    next = (refl, refl);
  }

  module _ {R Q : List ℕ → Text → Answer → List ℕ → Type 0} {s m t : List ℕ} (ids : List (String Global)) (i : ℕ) (d : String Global) (lt : i < length ids) (id : Text) (at : id ≡ string_bytes (get_or ids i d)) (old mid : Listed) where
    -- one more is
    pub more_lists : (new : Listed) → SameAnswers R Q → Asks R s m (AddsLists folder built (map string_bytes (take i ids)) old (Ok mid)) → Asks Q m t (AddsList folder built id mid (Ok new)) → Asks R s t (AddsLists folder built (map string_bytes (take (i + 1) ids)) old (Ok new))
    more_lists new same first next =
        asks_then same first next (λ a b h k.
        subst (λ (xs : List Text). AddsLists folder built xs old (Ok new) (a ++ b)) (sym more)
        (lists_then (map string_bytes (take i ids)) (id ∷ []) old mid (Ok new) a b h (one_list id mid new b k)))
      where
        more : map string_bytes (take (i + 1) ids) ≡ map string_bytes (take i ids) ++ (id ∷ [])
        more = map-take_more string_bytes ids i d lt ∙ ap (λ (x : Text). map string_bytes (take i ids) ++ (x ∷ [])) (sym at)

    -- the next one fails
    pub lists_fail : {X : Type 0} (shows : X → Listed) (why : Refusal) (result : Result X Refusal) → IsErrAnd result (λ e. e ≡ why) → SameAnswers R Q → Asks R s m (AddsLists folder built (map string_bytes (take i ids)) old (Ok mid)) → Asks Q m t (AddsList folder built id mid (Err why)) → Asks R s t (AddsLists folder built (map string_bytes ids) old (shown shows result))
    lists_fail shows why (Ok x) is same first next = absurd is
    lists_fail shows why (Err e) is same first next =
        asks_then same first next (λ a b h k.
        subst (λ (w : Refusal). AddsLists folder built (map string_bytes ids) old (Err w) (a ++ b)) (sym is)
        (subst (λ (xs : List Text). AddsLists folder built xs old (Err why) (a ++ b)) (sym cut)
        (lists_then (map string_bytes (take i ids)) (id ∷ map string_bytes (drop (i + 1) ids)) old mid (Err why) a b h (inl k))))
      where
        cut : map string_bytes ids ≡ map string_bytes (take i ids) ++ (id ∷ map string_bytes (drop (i + 1) ids))
        cut =
            ap (map string_bytes) (sym (take-append-drop i ids))
            ∙ map-append string_bytes (take i ids) (drop i ids)
            ∙ ap (λ l. map string_bytes (take i ids) ++ map string_bytes l) (drop_more ids i d lt)
            ∙ ap (λ (x : Text). map string_bytes (take i ids) ++ (x ∷ map string_bytes (drop (i + 1) ids))) (sym at)

-- what is told of the folder
folder_as : {X : Type 0} (shows : X → Listed) (folder : Bor (List ℕ)) (built : Bool) (ids : List Text) (made : Result X Refusal) (a : Asked) → AddsLists folder.now built ids [] (shown shows made) a → ReadsFolder folder.now built ids (shown shows (accepted folder made)) a
folder_as shows folder built ids (Ok x) a adds = adds
folder_as shows folder built ids (Err why) a adds =
    refused_as (λ f. ReadsFolder folder.now built ids (Err f) a) folder why tt (λ other. record { named = refl; refuses = adds; not_memory = other })

module _ {R : List ℕ → Text → Answer → List ℕ → Type 0} {s t : List ℕ} where
  -- the same of files that were asked for
  pub folder_asks : {X : Type 0} (shows : X → Listed) (folder : Bor (List ℕ)) (built : Bool) (ids : List Text) (made : Result X Refusal) (result : Result X Failure) → result ≡ accepted folder made → Asks R s t (AddsLists folder.now built ids [] (shown shows made)) → Asks R s t (ReadsFolder folder.now built ids (shown shows result))
  folder_asks {X} shows folder built ids made result is asks =
      subst (λ (r : Result X Failure). Asks R s t (ReadsFolder folder.now built ids (shown shows r))) (sym is)
      (asks_such asks (folder_as shows folder built ids made))

  -- the file of the list of a binary is asked for
  pub list_asks : (folder id path : Text) (a : Answer) (result : Result (Option (List Text)) Refusal) → path ≡ list_path folder id → R s path a t → ReadsList folder id result ((list_path folder id, a) ∷ []) → Asks R s t (ReadsList folder id result)
  list_asks folder id path a result named asks holds =
      asks_one (list_path folder id) a (subst (λ (n : Text). R s n a t) named asks) holds

  module _ {X : Type 0} (shows : X → Option (List Text)) (folder id path : Text) (result : Result X Refusal) where
    -- what it holds is no list
    pub list_refused : (why : Refusal) (bytes lent : List ℕ) → IsErrAnd result (λ e. e ≡ why) → path ≡ list_path folder id → R s path (Ok (Some bytes)) t → lent ≡ bytes → RefusesPrinted id lent why → Asks R s t (ReadsList folder id (shown shows result))
    list_refused why bytes lent is named asks same refuses = goes result is
      where
        goes : (r : Result X Refusal) → IsErrAnd r (λ e. e ≡ why) → Asks R s t (ReadsList folder id (shown shows r))
        goes (Ok x) is = absurd is
        goes (Err e) is =
            list_asks folder id path (Ok (Some bytes)) (Err e) named asks (inr (inr (record {
              printed = bytes;
              only = refl;
              refuses = subst (λ (b : List ℕ). RefusesPrinted id b e) same (subst (λ (w : Refusal). RefusesPrinted id lent w) (sym is) refuses);
            })))

    -- memory ran out after it was asked for
    pub list_memory : (a : Answer) → IsErrAnd result (λ e. e ≡ refusal.Memory) → R s path a t → Asks R s t (ReadsList folder id (shown shows result))
    list_memory a is asks = goes result is
      where
        goes : (r : Result X Refusal) → IsErrAnd r (λ e. e ≡ refusal.Memory) → Asks R s t (ReadsList folder id (shown shows r))
        goes (Ok x) is = absurd is
        goes (Err e) is = asks_one path a asks (inl is)

  -- the tests that it lists are added, or refused
  pub list_adds : (folder : Text) (built : Bool) (id : Text) (old new : Listed) (tests : Option (List Text)) (result : Result (Unit {0}) Refusal) → Asks R s t (ReadsList folder id (Ok tests)) → OnOk result (IsAdded id tests built old new) → IfErr result (RefusesTests id tests built) → Asks R s t (AddsList folder built id old (shown (λ x. new) result))
  list_adds folder built id old new tests result asks added refuses =
      turn_goes (ReadsList folder id) (AddsTests built id old) tests (shown (λ x. new) result) (SameAnswers-refl R) asks (asks_none (goes result added refuses))
    where
      goes : (r : Result (Unit {0}) Refusal) → OnOk r (IsAdded id tests built old new) → IfErr r (RefusesTests id tests built) → AddsTests built id old tests (shown (λ x. new) r) []
      goes (Ok x) added refuses = (added, refl)
      goes (Err why) added refuses = (refuses, refl)

  -- all lists were added
  pub lists_done : (folder : Text) (built : Bool) (ids : List (String Global)) (i : ℕ) (old new : Listed) → length ids ≤ i → Asks R s t (AddsLists folder built (map string_bytes (take i ids)) old (Ok new)) → Asks R s t (AddsLists folder built (map string_bytes ids) old (Ok new))
  lists_done folder built ids i old new all asks =
      subst (λ (xs : List (String Global)). Asks R s t (AddsLists folder built (map string_bytes xs) old (Ok new))) (take_all i ids all) asks
