use Rattle.std.proofs.Common.{codes, map}
use Rattle.clap.specs.Words.{found_of, rows_of}
use Rattle.record_files.specs.Listings.{listing, listings_file}
use Rattle.test_select_files.proofs.ReadingFacts.{fails_with_file, question_fails, read_with_file}
use Rattle.test_select.specs.Selections.{Listings}
use Rattle.test_select.proofs.inputs.tests_inputs.Goals as goal

pub returns-in_err-question-clause-reads : goal.returns-in_err-question-clause-reads
returns-in_err-question-clause-reads g c =
    question_fails (λ (m : Listings). map listing m.entries) listings_file (codes "listings") (rows_of (found_of c.args.asked.now)) _ c.named_files.ensures.named c.in_err-question.field-0.0 _ c.from_residual.ensures.1 c.in_err-question.ensures.reads

pub returns-in_err-listings-clause-reads : goal.returns-in_err-listings-clause-reads
returns-in_err-listings-clause-reads g c =
    fails_with_file (λ (m : Listings). map listing m.entries) listings_file (codes "listings") (rows_of (found_of c.args.asked.now)) _ c.named_files.ensures.named _ c.required.ensures.value c.in_ok-question.question c.in_err-listings.field-0.0 _ c.from_residual-in_err-listings.ensures.1 c.in_ok-question.ensures.same c.in_ok-question.ensures.reads c.in_err-listings.ensures.reads

pub returns-clause-reads : goal.returns-clause-reads
returns-clause-reads g c =
    read_with_file (λ (m : Listings). map listing m.entries) listings_file (codes "listings") (rows_of (found_of c.args.asked.now)) _ c.named_files.ensures.named _ c.required.ensures.value c.in_ok-question.question c.in_ok-listings.listings c.in_ok-question.ensures.same c.in_ok-question.ensures.reads c.in_ok-listings.ensures.reads
