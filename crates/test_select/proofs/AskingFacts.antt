-- The words of a command line, as the program gets them.
use Rattle.std.proofs.Common.{◌≡◌, ◌∙◌, ◌↔◌, ℕ, List, [], refl, sym, ap, subst, Option, Some, None, option_map, Bor}
use Rattle.std.specs.Option.{option_map_or}
use Rattle.std.specs.Prelude.{true, false, codes, is_some}
use Rattle.clap.proofs.WalkLemmas.{first_value-rows}
use Rattle.clap.specs.Words.{first_value, found_of, rows_of}
use Rattle.clap.specs.declared.parser.matches.ArgMatches.{ArgMatches}
use Rattle.workspace_record.specs.Records.{Text}
use Rattle.test_select_tests.specs.Partitions.{AsksForPart}
use Rattle.clap.specs.Words.{Row, first_of, subcommand_rows_of}
use Rattle.test_select.specs.Asking.{AsksNoPart, IsPartAsked, MeansPart, words_below}

-- what is read of the text is what it asks for
means_part : (text : Text) (part : Option (ℕ × ℕ)) → ((m n : ℕ) → AsksForPart text m n ↔ (part ≡ Some (m, n))) → MeansPart text part
means_part text None reads = λ m n asks. absurd (cc ((reads m n).0 asks))
means_part text (Some part) reads = (reads part.0 part.1).1 refl

-- without a word no part is asked for
pub none_asked : {A : Type 0} (view : A → ℕ × ℕ) (o : Option (Bor Text)) (word : Option Text) (r : Option A) → option_map (λ s. s.now) o ≡ word → o ≡ None → r ≡ None → IsPartAsked word (option_map view r)
none_asked view o word r is none given = rw (sym is, none, given) refl

-- with one, that which is read of it
pub part_asked : (o : Option (Bor Text)) (word : Option Text) (text : Bor Text) (part : Option (ℕ × ℕ)) → option_map (λ s. s.now) o ≡ word → o ≡ Some text → ((m n : ℕ) → AsksForPart text.now m n ↔ (part ≡ Some (m, n))) → IsPartAsked word part
part_asked o word text part is given reads = rw (sym is, given) (means_part text.now part reads)

-- the word for a part behind the name of a subcommand
pub given_below : (matches asked : ArgMatches) (o : Option (Bor Text)) → Some (rows_of (found_of asked)) ≡ option_map (λ below. below.1) (subcommand_rows_of matches) → option_map (λ s. s.now) o ≡ first_value (found_of asked) (codes "partition") → first_of (codes "partition") (words_below matches) ≡ option_map (λ s. s.now) o
given_below matches asked o is first =
    ap (first_of (codes "partition")) (rows_or_none (subcommand_rows_of matches) (sym is)) ∙ sym (first ∙ first_value-rows (found_of asked) (codes "partition"))
  where
    rows_or_none : (o : Option (Text × List Row)) → option_map (λ below. below.1) o ≡ Some (rows_of (found_of asked)) → option_map_or (λ below. below.1) o [] ≡ rows_of (found_of asked)
    rows_or_none None e = absurd (cc e)
    rows_or_none (Some q) e = cc e

module _ {A : Type 0} (view : A → ℕ × ℕ) (text : Text) (read : Option A) (reads : (m n : ℕ) → AsksForPart text m n ↔ (option_map view read ≡ Some (m, n))) where
  -- where no part is read, the text asks for none
  pub no_part_read : is_some read ≡ false → MeansPart text None
  no_part_read none = nothing read none reads
    where
      nothing : (read : Option A) → is_some read ≡ false → ((m n : ℕ) → AsksForPart text m n ↔ (option_map view read ≡ Some (m, n))) → MeansPart text None
      nothing None none reads = λ m n asks. absurd (cc ((reads m n).0 asks))
      nothing (Some part) none reads = absurd (cc none)

  -- where one is read, it does not ask for none
  pub part_read : is_some read ≡ true → MeansPart text None → ⊥
  part_read some none = something read some reads
    where
      something : (read : Option A) → is_some read ≡ true → ((m n : ℕ) → AsksForPart text m n ↔ (option_map view read ≡ Some (m, n))) → ⊥
      something None some reads = absurd (cc some)
      something (Some part) some reads = none (view part).0 (view part).1 ((reads (view part).0 (view part).1).1 refl)

-- where no word for a part is given, none is refused
pub no_word : (words : List Row) → first_of (codes "partition") words ≡ None → (text : Text) → AsksNoPart words text → ⊥
no_word words none text bad = absurd (cc (none, bad.0))

-- nor where it asks for a part
pub a_part : (words : List Row) (word : Text) → first_of (codes "partition") words ≡ Some word → (MeansPart word None → ⊥) → (text : Text) → AsksNoPart words text → ⊥
a_part words word given asks text bad =
    let same : text ≡ word = cc (given, bad.0) in
    asks (subst (λ t. MeansPart t None) same bad.1)
