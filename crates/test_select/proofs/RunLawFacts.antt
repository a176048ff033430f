-- Two runs of `tests` that were answered the same print the same, with `--plain` and without.
use Rattle.std.proofs.Common.{◌≡◌, ◌≢◌, ◌∙◌, ℕ, inl, inr, Bool, true, false, List, [], ◌++◌, Option, Some, None, Ok, String, Vec, Global, codes, map, refl, sym, ap, ap₂, subst, string_bytes, unwrap_or, true≢false}
use Rattle.std.proofs.lemmas.Slice.Eq.{bytes_eq-Decides}
use Rattle.std.specs.Option.{option_map_or}
use Rattle.std.specs.Str.{bytes_eq}
use Rattle.std.specs.Cmp.Lexicographic.{slice_cmp}
use Rattle.std.specs.Io.KnownBytes.{Appends}
use Rattle.std.specs.Ordering.{is_eq, nat_cmp}
use Rattle.clap.specs.Words.{Row, first_of}
use Rattle.list_facts.specs.Texts.{texts}
use Rattle.workspace_record.specs.Records.{Text}
use Rattle.record_files.specs.Listings.{listing, listings_file}
use Rattle.record_writing.specs.Maps.{listings_line}
use Rattle.nextest_binaries.specs.Listers.{Shown, listing_in, unasked}
use Rattle.test_select_files.specs.Reading.{Asked, IsQuestionRead, IsReadAs}
use Rattle.test_select_files.specs.Words.{FileNames, files_named, word_or_empty}
use Rattle.test_select_files.specs.declared.inputs.FeatureQuestion.{FeatureQuestion}
use Rattle.test_select_laws.specs.Tables.{HaveOneAnswer}
use Rattle.test_select_laws.proofs.LookupFacts.{alike_by_entries, lookup_alike}
use Rattle.test_select_laws.proofs.TableFacts.{selects_there}
use Rattle.test_select_tests.specs.Questions.{Question}
use Rattle.test_select_tests.specs.Selecting.{Selects}
use Rattle.test_select_tests.specs.SelectionLaws.{SelectionsReportAlike}
use Rattle.test_select_tests.specs.Selections.{Selected}
use Rattle.test_select_tests.proofs.OnceFacts.{asked_once, grouped_once}
use Rattle.test_select.specs.Asking.{IsPartAsked, asks_in, filters_in, scope_in, scope_by}
use Rattle.test_select.specs.RunLaws.{DifferInPlain, PlainPrintsTheSame}
use Rattle.test_select.specs.Selections.{IsTextOf, Listings, ShowsTests, asks_for_json, tests_of}
use Rattle.test_select.proofs.OnceFacts.{IsOneQuestion, question_once, read_first}

-- ---- what is printed of a selection

-- a word asks for one part
part_once : (word : Option Text) (one other : Option (ℕ × ℕ)) → IsPartAsked word one → IsPartAsked word other → one ≡ other
part_once None one other a b = a ∙ sym b
part_once (Some text) None None a b = refl
part_once (Some text) None (Some part) a b = absurd (a part.0 part.1 b)
part_once (Some text) (Some part) None a b = absurd (b part.0 part.1 a)
part_once (Some text) (Some part) (Some other) a b =
    let numbers = asked_once text part.0 part.1 other.0 other.1 a b in
    λ i. Some (numbers.0 i, numbers.1 i)

-- tests have one text in each form
shown_once : (is_json : Bool) (tests : List (Text × Text)) (one other : Text) → ShowsTests is_json tests one → ShowsTests is_json tests other → one ≡ other
shown_once false tests one other a b = a ∙ sym b
shown_once true tests one other a b = a.2 ∙ ap listings_line (grouped_once tests a.0 b.0 a.1 b.1) ∙ sym b.2

-- ---- what the words say

-- a word that is spelled otherwise is another one
apart : (name : Text) → bytes_eq name (codes "plain") ≡ false → name ≢ codes "plain"
apart name off same = true≢false (sym ((bytes_eq-Decides name (codes "plain")).1 same) ∙ off)

-- the first value of a word is this text
abbrev says_of : Text → Option Text → Bool
says_of text value = option_map_or (λ v. bytes_eq v text) value false

module _ (one other : List Row) (differ : DifferInPlain one other) where
  first_alike : (name : Text) → name ≢ codes "plain" → first_of name one ≡ first_of name other
  first_alike name apart = (differ name apart).0

  files_alike : files_named one ≡ files_named other
  files_alike =
      let workspace = first_alike (codes "record") (apart (codes "record") refl) in
      let choice = first_alike (codes "choice") (apart (codes "choice") refl) in
      let table = first_alike (codes "table") (apart (codes "table") refl) in
      λ i. record { workspace = unwrap_or (workspace i) []; choice = choice i; table = table i }

  listings_alike : word_or_empty (codes "listings") one ≡ word_or_empty (codes "listings") other
  listings_alike = ap (λ o. unwrap_or o []) (first_alike (codes "listings") (apart (codes "listings") refl))

  json_alike : asks_for_json one ≡ asks_for_json other
  json_alike = ap (says_of (codes "json")) (first_alike (codes "format") (apart (codes "format") refl))

  scope_alike : scope_in one ≡ scope_in other
  scope_alike = ap (λ o. scope_by (says_of (codes "true") o)) (first_alike (codes "declared") (apart (codes "declared") refl))

  filters_alike : filters_in one ≡ filters_in other
  filters_alike = ap (λ (o : Option (List Text)). unwrap_or o []) (differ (codes "filter") (apart (codes "filter") refl)).1

  part_alike : first_of (codes "partition") one ≡ first_of (codes "partition") other
  part_alike = first_alike (codes "partition") (apart (codes "partition") refl)

  -- a text of the same tests is one text
  text_alike : (selection others : Selected) (text same : Text) → selection.chosen ≡ others.chosen → IsTextOf one selection text → IsTextOf other others same → text ≡ same
  text_alike selection others text same chosen a b =
      let parts = part_once (first_of (codes "partition") other) a.0 b.0 (subst (λ word. IsPartAsked word a.0) part_alike a.1) b.1 in
      let tests : tests_of a.0 selection.chosen ≡ tests_of b.0 others.chosen = ap₂ tests_of parts chosen in
      let here : ShowsTests (asks_for_json other) (tests_of b.0 others.chosen) text = subst (λ form. ShowsTests form (tests_of b.0 others.chosen) text) json_alike (subst (λ ts. ShowsTests (asks_for_json one) ts text) tests a.2) in
      shown_once (asks_for_json other) (tests_of b.0 others.chosen) text same here b.2

-- listings that are the same texts answer alike
listed_alike : (one other : Listings) → map listing one.entries ≡ map listing other.entries → (id : Text) → listing_in one id ≡ listing_in other id
listed_alike one other same id =
    lookup_alike (λ bytes. is_eq (slice_cmp nat_cmp id bytes)) string_bytes (λ (v : Vec (String Global) Global). texts v.items) one.entries other.entries same

-- what the words ask of what was read
abbrev asked_by : List Row → FeatureQuestion → Question
asked_by words q = record { workspace = q.record.value; choice = q.choice; table = q.table; scope = scope_in words; texts = filters_in words; asks = asks_in words }

-- two selections of what was read alike
module _ (one other : List Row) (differ : DifferInPlain one other) (q p : FeatureQuestion) (alike : IsOneQuestion q p) where
  tables_alike : HaveOneAnswer p.table q.table
  tables_alike = alike_by_entries p.table q.table (ap (λ t. t.answers) (sym alike.table)) (ap (λ t. t.unknown_counts) (sym alike.table))

  -- the question of the other words, with all but the asked binaries of the first
  as_first : record (asked_by other p) { table = q.table } ≡ record (asked_by one q) { asks = asks_in other }
  as_first = λ i. record {
    workspace = sym alike.workspace i;
    choice = sym alike.choice i;
    table = q.table;
    scope = sym (scope_alike one other differ) i;
    texts = sym (filters_alike one other differ) i;
    asks = asks_in other;
  }

  chosen_alike : SelectionsReportAlike → (mine theirs : Listings) (selection others : Selected) (after later : Shown) → map listing mine.entries ≡ map listing theirs.entries → Selects (asked_by one q) (unasked mine) selection after → Selects (asked_by other p) (unasked theirs) others later → selection.chosen ≡ others.chosen
  chosen_alike report_alike mine theirs selection others after later same a b =
      let there = selects_there (asked_by other p) q.table (unasked theirs) later others tables_alike b in
      let here = subst (λ (k : Question). Selects k (unasked theirs) others later) as_first there in
      (report_alike (asked_by one q) (asks_in other) (unasked mine) after (unasked theirs) later selection others a here (λ id inside. listed_alike mine theirs same id)).0

pub plain_prints_the_same : SelectionsReportAlike → PlainPrintsTheSame
plain_prints_the_same report_alike one other asked old new before after differ (inl run) (inl again) =
    let names = files_alike one other differ in
    let mine = run.read in
    let theirs = again.read in
    let question : IsQuestionRead (files_named other) run.value.0 mine.for_question = subst (λ (n : FileNames). IsQuestionRead n run.value.0 mine.for_question) names mine.question_read in
    let questions = question_once (files_named other) run.value.0 mine.for_question mine.for_file question again.value.0 theirs.for_question theirs.for_file theirs.question_read (sym mine.in_order ∙ theirs.in_order) in
    let name = listings_alike one other differ in
    let listed : IsReadAs listings_file (word_or_empty (codes "listings") other) (Ok (map listing run.value.1.entries)) mine.for_file = subst (λ n. IsReadAs listings_file n (Ok (map listing run.value.1.entries)) mine.for_file) name mine.file_read in
    let listings = read_first listings_file (word_or_empty (codes "listings") other) (map listing run.value.1.entries) mine.for_file theirs.for_file [] [] listed (map listing again.value.1.entries) theirs.file_read (ap (λ (l : Asked). l ++ []) questions.1) in
    let chosen = chosen_alike one other differ run.value.0 again.value.0 questions.0 report_alike run.value.1 again.value.1 run.ends.answer again.ends.answer run.ends.given.0 again.ends.given.0 listings.0 run.ends.given.1 again.ends.given.1 in
    let text = text_alike one other differ run.ends.answer again.ends.answer run.ends.text again.ends.text chosen run.ends.is_text again.ends.is_text in
    (run.ends.text, run.ends.holds, subst (λ (t : Text). Appends before after t) (sym text) again.ends.holds)
plain_prints_the_same report_alike one other asked old new before after differ (inl run) (inr stopped) = absurd (cc stopped.stops.0)
plain_prints_the_same report_alike one other asked old new before after differ (inr stopped) again = absurd (cc stopped.stops.0)
