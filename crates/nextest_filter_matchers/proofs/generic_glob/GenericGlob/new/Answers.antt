use Rattle.std.proofs.Common.{◌≡◌, ◌∙◌, Ok, sym, ap, string_bytes}
use Rattle.std.specs.Str.{chars}
use Rattle.nextest_filter_matchers.specs.GlobReading.{read_glob}
use Rattle.nextest_filter_matchers.specs.Globs.{spelled}
use Rattle.nextest_filter_matchers.specs.GlobViews.{glob_of}
use Rattle.nextest_filter_matchers.specs.Identities.{from_read, from_spelled}
use Rattle.nextest_filter_matchers.specs.ReadingViews.{read_view}
use Rattle.nextest_filter_matchers.proofs.generic_glob.GenericGlob.new.Goals as goal

pub invariant_of-result-clause-has_tokens : goal.invariant_of-result-clause-has_tokens
invariant_of-result-clause-has_tokens c =
    let characters : c.deref.result.now ≡ chars (string_bytes c.args.text) = c.deref.ensures.value ∙ c.in_ok-characters.ensures ∙ ap chars c.as_str.ensures.value in
    let read : read_glob (chars (string_bytes c.args.text)) ≡ Ok (glob_of c.in-Ok.pattern) = ap read_glob (sym characters) ∙ sym c.in_ok-pattern.ensures ∙ ap read_view c.in-Ok.is in
    from_read _ _ read

pub invariant_of-result-clause-is_spelled : goal.invariant_of-result-clause-is_spelled
invariant_of-result-clause-is_spelled c =
    let characters : c.deref-in-Ok.result.now ≡ chars (string_bytes c.args.text) = c.deref-in-Ok.ensures.value ∙ c.in_ok-characters.ensures ∙ ap chars c.as_str.ensures.value in
    from_spelled _ _ _ (λ plain. c.spells-is_plain.ensures plain ∙ ap spelled characters)
