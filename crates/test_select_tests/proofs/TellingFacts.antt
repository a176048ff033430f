-- What is told by reasons that are the same.
use Rattle.std.proofs.Common.{◌≡◌, ◌↔◌, inl, inr, ℕ, List, Contains, Option, Some, None, Result, Ok, Err, Vec, Bor, ⊎_elim}
use Rattle.std.specs.Global.{Global}
use Rattle.workspace_record.specs.Records.{Text}
use Rattle.workspace_record.specs.Features.{FeatureValue}
use Rattle.nextest_binaries.specs.Listers.{Shown}
use Rattle.nextest_filter_tokens.specs.declared.parse_error.ParseSingleError.{ParseSingleError}
use Rattle.test_select_rules.specs.OnLines.{IsAvailable}
use Rattle.test_select_rules.specs.Binaries.{Binary}
use Rattle.test_select_checks.specs.declared.record_error.RecordError.{RecordError}
use Rattle.test_select_checks.specs.declared.select_error.SelectError.{SelectError}
use Rattle.test_select_checks.specs.declared.select_error.SelectError.TheVariants.{Record, UnknownExtra, Filter, Lister, BadListing, Memory}
use Rattle.test_select_tests.specs.Reasons.{IsFirstOff}
use Rattle.test_select_tests.specs.Telling.{TellsAmong, TellsOf, TellsOfAvailable, TellsOfItself, TellsOfTest}
use Rattle.test_select_tests.specs.declared.reason.Reason.{Reason}
use Rattle.test_select_tests.specs.declared.reason.Reason.TheVariants.{NoBinary, Off, Test, Binary as OfBinary}
use Rattle.test_select_tests.specs.declared.reason.TestReason.{TestReason}
use Rattle.test_select_tests.specs.declared.reason.BinaryReason.{BinaryReason}

module _ (A B : Binary → List Text → Text → TestReason → Type 0) (C D : Binary → BinaryReason → Type 0) where
  module _ (tests : (b : Binary) (names : List Text) (name : Text) (why : TestReason) → A b names name why → B b names name why) (binaries : (b : Binary) (why : BinaryReason) → C b why → D b why) where
    of_test : (b : Binary) (test : Text) (old new : Shown) (r : Result Reason SelectError) → TellsOfTest A C b test old r new → TellsOfTest B D b test old r new
    of_test b test old new (Ok (NoBinary id)) h = h
    of_test b test old new (Ok (Off owner feature)) h = h
    of_test b test old new (Ok (Test why)) h = record { names = h.names; listing = h.listing; reason = tests b h.names test why h.reason }
    of_test b test old new (Ok (OfBinary why)) h = h
    of_test b test old new (Err (Record e)) h = h
    of_test b test old new (Err (UnknownExtra place)) h = h
    of_test b test old new (Err (Filter place faults)) h = h
    of_test b test old new (Err (Lister id)) h = h
    of_test b test old new (Err (BadListing id fault)) h = h
    of_test b test old new (Err Memory) h = h

    of_itself : (b : Binary) (old new : Shown) (r : Result Reason SelectError) → TellsOfItself A C b old r new → TellsOfItself B D b old r new
    of_itself b old new (Ok (NoBinary id)) h = h
    of_itself b old new (Ok (Off owner feature)) h = h
    of_itself b old new (Ok (Test why)) h = h
    of_itself b old new (Ok (OfBinary why)) h = (binaries b why h.0, h.1)
    of_itself b old new (Err (Record e)) h = h
    of_itself b old new (Err (UnknownExtra place)) h = h
    of_itself b old new (Err (Filter place faults)) h = h
    of_itself b old new (Err (Lister id)) h = h
    of_itself b old new (Err (BadListing id fault)) h = h
    of_itself b old new (Err Memory) h = h

    of_available : (b : Binary) (test : Option Text) (old new : Shown) (r : Result Reason SelectError) → TellsOfAvailable A C b test old r new → TellsOfAvailable B D b test old r new
    of_available b (Some test) old new r h = of_test b test old new r h
    of_available b None old new r h = of_itself b old new r h

    -- by features that are on in the one exactly if in the other
    module _ (on more : FeatureValue → Type 0) (same : (f : FeatureValue) → on f ↔ more f) where
      available : (b : Binary) → IsAvailable on b → IsAvailable more b
      available b h name i = (same _).0 (h name i)

      first_off : (b : Binary) (feature : Text) → IsFirstOff on b feature → IsFirstOff more b feature
      first_off b feature h = record { place = h.place; at = h.at; off = λ m. h.off ((same _).1 m); before = λ name i. (same _).0 (h.before name i) }

      of_one : (b : Binary) (test : Option Text) (old new : Shown) (r : Result Reason SelectError) → TellsOf A C on b test old r new → TellsOf B D more b test old r new
      of_one b test old new (Ok (NoBinary id)) h = (available b h.0, of_available b test old new (Ok (NoBinary id)) h.1)
      of_one b test old new (Ok (Off owner feature)) h = (h.0, first_off b feature.now h.1, h.2)
      of_one b test old new (Ok (Test why)) h = (available b h.0, of_available b test old new (Ok (Test why)) h.1)
      of_one b test old new (Ok (OfBinary why)) h = (available b h.0, of_available b test old new (Ok (OfBinary why)) h.1)
      of_one b test old new (Err e) h = (available b h.0, of_available b test old new (Err e) h.1)

      some_one : (all : List Binary) (id : Text) (test : Option Text) (old new : Shown) (r : Result Reason SelectError) → ((b : Binary) × Contains all b × (b.id ≡ id) × TellsOf A C on b test old r new) → (b : Binary) × Contains all b × (b.id ≡ id) × TellsOf B D more b test old r new
      some_one all id test old new r h = (h.0, h.1, h.2, of_one h.0 test old new r h.3)

      pub tells_alike : (all : List Binary) (id : Text) (test : Option Text) (old new : Shown) (r : Result Reason SelectError) → TellsAmong A C on all id test old r new → TellsAmong B D more all id test old r new
      tells_alike all id test old new (Ok (NoBinary named)) h = h
      tells_alike all id test old new (Ok (Off owner feature)) h = some_one all id test old new (Ok (Off owner feature)) h
      tells_alike all id test old new (Ok (Test why)) h = some_one all id test old new (Ok (Test why)) h
      tells_alike all id test old new (Ok (OfBinary why)) h = some_one all id test old new (Ok (OfBinary why)) h
      tells_alike all id test old new (Err (Record e)) h = some_one all id test old new (Err (Record e)) h
      tells_alike all id test old new (Err (UnknownExtra place)) h = some_one all id test old new (Err (UnknownExtra place)) h
      tells_alike all id test old new (Err (Filter place faults)) h = some_one all id test old new (Err (Filter place faults)) h
      tells_alike all id test old new (Err (Lister named)) h = some_one all id test old new (Err (Lister named)) h
      tells_alike all id test old new (Err (BadListing named fault)) h = some_one all id test old new (Err (BadListing named fault)) h
      tells_alike all id test old new (Err Memory) h = ⊎_elim inl (λ w. inr (some_one all id test old new (Err Memory) w)) h

module _ (A : Binary → List Text → Text → TestReason → Type 0) (C : Binary → BinaryReason → Type 0) where
  -- of an available binary it is not told that it is missing, nor that the question is refused
  never_missed : (b : Binary) (test : Option Text) (old new : Shown) (named : Bor Text) → TellsOfAvailable A C b test old (Ok (NoBinary named)) new → ⊥
  never_missed b (Some name) old new named h = h
  never_missed b None old new named h = h

  never_record : (b : Binary) (test : Option Text) (old new : Shown) (e : RecordError) → TellsOfAvailable A C b test old (Err (Record e)) new → ⊥
  never_record b (Some name) old new e h = h
  never_record b None old new e h = h

  never_extra : (b : Binary) (test : Option Text) (old new : Shown) (place : ℕ) → TellsOfAvailable A C b test old (Err (UnknownExtra place)) new → ⊥
  never_extra b (Some name) old new place h = h
  never_extra b None old new place h = h

  never_filter : (b : Binary) (test : Option Text) (old new : Shown) (place : ℕ) (faults : Vec ParseSingleError Global) → TellsOfAvailable A C b test old (Err (Filter place faults)) new → ⊥
  never_filter b (Some name) old new place faults h = h
  never_filter b None old new place faults h = h

  -- what is told among binaries of one of them
  pub tells_one : (on : FeatureValue → Type 0) (all : List Binary) (b : Binary) (id : Text) (test : Option Text) (old new : Shown) (r : Result Reason SelectError) → Contains all b → b.id ≡ id → TellsOf A C on b test old r new → TellsAmong A C on all id test old r new
  tells_one on all b id test old new (Ok (NoBinary named)) i same h = absurd (never_missed b test old new named h.1)
  tells_one on all b id test old new (Ok (Off owner feature)) i same h = (b, i, same, h)
  tells_one on all b id test old new (Ok (Test why)) i same h = (b, i, same, h)
  tells_one on all b id test old new (Ok (OfBinary why)) i same h = (b, i, same, h)
  tells_one on all b id test old new (Err (Record e)) i same h = (b, i, same, h)
  tells_one on all b id test old new (Err (UnknownExtra place)) i same h = (b, i, same, h)
  tells_one on all b id test old new (Err (Filter place faults)) i same h = (b, i, same, h)
  tells_one on all b id test old new (Err (Lister named)) i same h = (b, i, same, h)
  tells_one on all b id test old new (Err (BadListing named fault)) i same h = (b, i, same, h)
  tells_one on all b id test old new (Err Memory) i same h = inr (b, i, same, h)

  -- nor is it told among binaries that the question is refused
  module _ (on : FeatureValue → Type 0) (all : List Binary) (id : Text) (test : Option Text) (old new : Shown) where
    pub no_record : (e : RecordError) → TellsAmong A C on all id test old (Err (Record e)) new → ⊥
    no_record e h = never_record h.0 test old new e h.3.1

    pub no_extra : (place : ℕ) → TellsAmong A C on all id test old (Err (UnknownExtra place)) new → ⊥
    no_extra place h = never_extra h.0 test old new place h.3.1

    pub no_filter : (place : ℕ) (faults : Vec ParseSingleError Global) → TellsAmong A C on all id test old (Err (Filter place faults)) new → ⊥
    no_filter place faults h = never_filter h.0 test old new place faults h.3.1
