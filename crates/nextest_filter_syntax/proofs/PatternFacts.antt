-- Patterns that were read in one text match alike.
use Rattle.std.proofs.Common.{◌≡◌, ◌∙◌, ℕ, ◌<◌, true, List, Option, Some, None, IsSomeAnd, get_or, is_some, subst, sym}
use Rattle.std.specs.Str.{chars}
use Rattle.regex_syntax.specs.Grammar.{read}
use Rattle.regex.specs.Names.{names_of}
use Rattle.regex.specs.Patterns.{Reads, default_config, find_str}
use Rattle.regex.specs.Strings.{regex_pattern, regex_source}
use Rattle.regex.specs.declared.string.regex.Regex.{Regex}
use Rattle.regex.proofs.ForCallers.{is_match_alike}
use Rattle.nextest_filter_syntax.specs.PatternsAsWritten.{IsAsWritten}

both_hold : {A R : Type 0} (o : Option A) (P Q : A → Type 0) → IsSomeAnd o P → IsSomeAnd o Q → ((x : A) → P x → Q x → R) → R
both_hold None P Q p q f = absurd p
both_hold (Some x) P Q p q f = f x p q

-- two patterns that are what `regex` reads in one text are found in the same names
pub patterns_alike : (r s : Regex) → IsAsWritten r → IsAsWritten s → regex_source r ≡ regex_source s → (name : List ℕ) → ((k : ℕ) → get_or name k 0 < 256) → is_some (find_str (regex_pattern r) name 0) ≡ is_some (find_str (regex_pattern s) name 0)
unfolding Reads
patterns_alike r s is_r is_s same name bytes =
    let reads_r : Reads default_config (regex_source s) r.pattern.program.hir (names_of r.pattern.names.items) =
    subst (λ source. Reads default_config source r.pattern.program.hir (names_of r.pattern.names.items)) same
    (subst (λ c. Reads c (regex_source r) r.pattern.program.hir (names_of r.pattern.names.items)) is_r.config is_r.read) in
    let reads_s : Reads default_config (regex_source s) s.pattern.program.hir (names_of s.pattern.names.items) =
    subst (λ c. Reads c (regex_source s) s.pattern.program.hir (names_of s.pattern.names.items)) is_s.config is_s.read in
    both_hold (read default_config (chars (regex_source s))) _ _ reads_r reads_s (λ x p q. is_match_alike p.1 name bytes true 0 ∙ sym (is_match_alike q.1 name bytes true 0))
