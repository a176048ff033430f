-- The words of a command line, as the program gets them.
use Rattle.std.proofs.Common.{◌≡◌, ◌∙◌, List, sym, ap, map, Option, option_map, Bor}
use Rattle.clap.proofs.WalkLemmas.{raw_values-rows}
use Rattle.clap.specs.Words.{all_of, found_of, matched_of, raw_values, rows_of}
use Rattle.clap.specs.declared.parser.matches.ArgMatches.{ArgMatches}
use Rattle.workspace_record.specs.Records.{Text}

-- all values of a word, where they are lent
pub all_given : (asked : ArgMatches) (name : Text) (o lent : Option (Bor (List (Bor Text)))) → option_map (λ s. map (λ v. v.now) s.now) o ≡ option_map raw_values (matched_of (found_of asked) name) → o ≡ lent → all_of name (rows_of (found_of asked)) ≡ option_map (λ s. map (λ v. v.now) s.now) lent
all_given asked name o lent is was =
    sym (is ∙ raw_values-rows (found_of asked) name) ∙ ap (option_map (λ (s : Bor (List (Bor Text))). map (λ (v : Bor Text). v.now) s.now)) was
