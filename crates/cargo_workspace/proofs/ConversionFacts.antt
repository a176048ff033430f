-- What follows of what was read for a conversion.
use Rattle.std.proofs.Common.{◌≡◌, ℕ, Bool, List, subst, inl, sym, String, string_bytes, Result, Ok, Err}
use Rattle.std.specs.Prelude.{IfOk, IfErr, IsErrAnd, codes}
use Rattle.std.specs.Global.{Global}
use Rattle.std.specs.Borrow.{Bor}
use Rattle.clap.specs.Words.{Row}
use Rattle.workspace_record.specs.Records.{Text}
use Rattle.record_writing.specs.Files.{ReadAsListings}
use Rattle.cargo_files.specs.declared.refusal.Refusal.{Refusal}
use Rattle.cargo_files.specs.declared.refusal.Refusal.TheVariants as refusal
use Rattle.test_select_files.specs.Words.{is_given, word_or_empty}
use Rattle.cargo_workspace.specs.Conversions.{MakesListings, MakesTable, MakesTableFor, ReadsListings, ReadsListsBy, ReadsSettings}
use Rattle.cargo_workspace.specs.Failures.{accepted, refused}
use Rattle.cargo_workspace.specs.Files.{Answer, Asked, Asks}
use Rattle.cargo_workspace.specs.Lists.{Listed, ReadsLists}
use Rattle.cargo_workspace.specs.Reading.{InTurn, shown}
use Rattle.cargo_workspace.specs.declared.failure.Failure.{Failure}
use Rattle.cargo_workspace.proofs.ReadingFacts.{asks_such}

module _ {R : List ℕ → Text → Answer → List ℕ → Type 0} {s t : List ℕ} where
  -- the table is that for the triple that the words name
  pub table_as : (words : List Row) (triple : Text) (result : Result Text Failure) → triple ≡ word_or_empty (codes "triple") words → Asks R s t (InTurn (ReadsSettings words) (MakesTableFor words triple) result) → Asks R s t (MakesTable words result)
  table_as words triple result is asks =
      subst (λ (w : Text). Asks R s t (InTurn (ReadsSettings words) (MakesTableFor words w) result)) is asks

  -- the lists that the words name
  pub lists_as : (words : List Row) (nextest built : Bool) (name : Text) (ids : List Text) (result : Result Listed Failure) → nextest ≡ is_given (codes "nextest") words → built ≡ is_given (codes "built") words → name ≡ word_or_empty (codes "lists") words → Asks R s t (ReadsLists nextest name built ids result) → Asks R s t (ReadsListsBy words ids result)
  lists_as words nextest built name ids result is_nextest is_built is_name asks =
      subst (λ (n : Bool). Asks R s t (ReadsLists n (word_or_empty (codes "lists") words) (is_given (codes "built") words) ids result)) is_nextest
      (subst (λ (b : Bool). Asks R s t (ReadsLists nextest (word_or_empty (codes "lists") words) b ids result)) is_built
      (subst (λ (n : Text). Asks R s t (ReadsLists nextest n built ids result)) is_name asks))

  -- their file is made
  pub listings_made : (words : List Row) (name : Bor (List ℕ)) (listings : Listed) (made : Result (String Global) Refusal) (result : Result (String Global) Failure) → IfOk made (λ text. ReadAsListings listings (string_bytes text)) → IfErr made (λ e. e ≡ refusal.Memory) → result ≡ accepted name made → Asks R s t (ReadsListings words (Ok listings)) → Asks R s t (MakesListings words (shown string_bytes result))
  listings_made words name listings made result ok err is asks =
      subst (λ (r : Result (String Global) Failure). Asks R s t (MakesListings words (shown string_bytes r))) (sym is)
      (asks_such asks (goes made ok err))
    where
      goes : (made : Result (String Global) Refusal) → IfOk made (λ text. ReadAsListings listings (string_bytes text)) → IfErr made (λ e. e ≡ refusal.Memory) → (a : Asked) → ReadsListings words (Ok listings) a → MakesListings words (shown string_bytes (accepted name made)) a
      goes (Ok text) ok err a h = (listings, h, ok)
      goes (Err why) ok err a h = subst (λ (e : Refusal). MakesListings words (Err (refused name e)) a) (sym err) (inl tt)

  -- they fail
  pub listings_fail : (words : List Row) (f : Failure) (result : Result (String Global) Failure) → IsErrAnd result (λ g. g ≡ f) → Asks R s t (ReadsListings words (Err f)) → Asks R s t (MakesListings words (shown string_bytes result))
  listings_fail words f (Ok x) is asks = absurd is
  listings_fail words f (Err g) is asks = subst (λ (f : Failure). Asks R s t (ReadsListings words (Err f))) (sym is) asks
