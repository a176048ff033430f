-- The words of a command line, as the program gets them.
use Rattle.std.proofs.Common.{◌≡◌, ◌∙◌, ℕ, List, [], map, refl, ap}
use Rattle.std.specs.Borrow.{Bor}
use Rattle.std.specs.Option.{UnwrapsOrElse, option_eq, option_map_or}
use Rattle.std.specs.Prelude.{Bool, false, Option, Some, None, option_map, unwrap_or}
use Rattle.std.specs.Str.{bytes_eq}
use Rattle.clap.proofs.WalkLemmas.{first_value-rows, raw_values-rows}
use Rattle.clap.specs.Words.{first_value, found_of, matched_of, raw_values, rows_of}
use Rattle.clap.specs.declared.parser.matches.ArgMatches.{ArgMatches}
use Rattle.workspace_record.specs.Records.{Text}
use Rattle.test_select_files.specs.Words.{FileNames, says, values_of}

-- the text that is lent, or the empty one
pub unwrap_or-lent : (o : Option (Bor (List ℕ))) (d : Bor (List ℕ)) → d.now ≡ [] → (unwrap_or o d).now ≡ unwrap_or (option_map (λ s. s.now) o) []
unwrap_or-lent (Some s) d e = refl
unwrap_or-lent None d e = e

-- the names, one by one
abbrev pub names : Text → Option Text → Option Text → FileNames
names a c t = record { workspace = a; choice = c; table = t }

-- names are the same, name by name
pub names_are : {a b : Text} {c d e f : Option Text} → a ≡ b → c ≡ d → e ≡ f
    → names a c e ≡ names b d f
names_are {a} {b} {c} {d} {e} {f} p q r = ap (λ x. names x c e) p ∙ ap (λ x. names b x e) q ∙ ap (λ x. names b d x) r

-- the text that is lent is this one, or there is none
same_text : (same : Bor Text → Bor Text → Bool) (o : Option (Bor Text)) (s : Bor Text) (text : Text) → ((x : Bor Text) → same x s ≡ bytes_eq x.now text) → option_eq same o (Some s) ≡ option_map_or (λ value. bytes_eq value text) (option_map (λ s. s.now) o) false
same_text same None s text is = refl
same_text same (Some x) s text is = is x

-- that of a word
pub text_said : (asked : ArgMatches) (name text : Text) (same : Bor Text → Bor Text → Bool) (o : Option (Bor Text)) (s : Bor Text) (r : Bool) → ((x : Bor Text) → same x s ≡ bytes_eq x.now text) → option_map (λ s. s.now) o ≡ first_value (found_of asked) name → r ≡ option_eq same o (Some s) → r ≡ says text name (rows_of (found_of asked))
text_said asked name text same o s r is first found =
    found ∙ same_text same o s text is ∙ ap (λ w. option_map_or (λ value. bytes_eq value text) w false) (first ∙ first_value-rows (found_of asked) name)

-- the values that are lent, or none
lent_or_none : (o : Option (Bor (List (Bor Text)))) (is_empty : Bor (List (Bor Text)) → Type 0) (r : Bor (List (Bor Text))) → ((d : Bor (List (Bor Text))) → is_empty d → d.now ≡ []) → UnwrapsOrElse o is_empty r → map (λ t. t.now) r.now ≡ unwrap_or (option_map (λ s. map (λ v. v.now) s.now) o) []
lent_or_none None is_empty r none h = ap (map (λ (t : Bor Text). t.now)) (none r h)
lent_or_none (Some s) is_empty r none h = ap (λ (x : Bor (List (Bor Text))). map (λ (t : Bor Text). t.now) x.now) h

-- those of a word
pub values_given : (asked : ArgMatches) (name : Text) (o : Option (Bor (List (Bor Text)))) (is_empty : Bor (List (Bor Text)) → Type 0) (r : Bor (List (Bor Text))) → ((d : Bor (List (Bor Text))) → is_empty d → d.now ≡ []) → option_map (λ s. map (λ v. v.now) s.now) o ≡ option_map raw_values (matched_of (found_of asked) name) → UnwrapsOrElse o is_empty r → map (λ t. t.now) r.now ≡ values_of name (rows_of (found_of asked))
values_given asked name o is_empty r none is h =
    lent_or_none o is_empty r none h ∙ ap (λ (x : Option (List Text)). unwrap_or x []) (is ∙ raw_values-rows (found_of asked) name)
