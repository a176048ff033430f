-- What is said of a text that is no glob.
use Rattle.std.specs.Prelude.{ℕ, List, codes}
use Rattle.nextest_filter_matchers.specs.declared.glob_error.GlobError.{GlobError}
use Rattle.nextest_filter_matchers.specs.declared.glob_error.GlobError.TheVariants.{UnclosedClass, InvalidRange, UnopenedAlternates, UnclosedAlternates}

-- why a text is no glob (from globset)
abbrev pub fault_text : GlobError → List ℕ
fault_text UnclosedClass = codes "unclosed character class; missing ']'"
fault_text InvalidRange = codes "invalid range"
fault_text UnopenedAlternates = codes "unopened alternate group; missing '{'"
fault_text UnclosedAlternates = codes "unclosed alternate group; missing '}'"
