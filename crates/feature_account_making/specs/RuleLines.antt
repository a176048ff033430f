-- Rules as text.
use Rattle.std.specs.Prelude.{ℕ, ◌+◌, List, [], ◌∷◌, ◌++◌, codes, decimal, slice_get}
use Rattle.std.specs.List.{flat_map}
use Rattle.std.specs.Option.{option_map_or}
use Rattle.workspace_record.specs.Records.{Text}
use Rattle.feature_account_rules.specs.declared.rule.Premises.{Premises}
use Rattle.feature_account_rules.specs.declared.rule.Premises.TheVariants as premises
use Rattle.feature_account_rules.specs.declared.rule.Rule.{Rule}
use Rattle.guppy_feature_demands.specs.Printing.{feature_text}
use Rattle.feature_account_making.specs.Sources.{Source, Sourced, Chosen, OfPackage, OfEntry, OfLine}

-- the premises, parted by a comma, and a space behind them
abbrev pub premises_text : Premises → Text
premises_text premises.None = []
premises_text (premises.One f) = feature_text f ++ codes " "
premises_text (premises.Two f g) = feature_text f ++ (codes ", " ++ (feature_text g ++ codes " "))

-- the number of a rule, its premises, an arrow, and its conclusion
abbrev pub numbered_text : ℕ → Rule → Text
numbered_text number r =
    decimal number ++ (codes ": " ++ (premises_text r.premises ++ (codes "-> " ++ feature_text r.conclusion)))

-- what a rule comes from, in Cargo's words
abbrev pub source_text : Source → Text
source_text Chosen = codes "the choice"
source_text OfPackage = codes "a feature needs its package"
source_text (OfEntry id feature entry) =
    codes "the entry \"" ++ (entry ++ (codes "\" of " ++ (id ++ (codes "'s feature " ++ feature))))
source_text (OfLine id name) = codes "the line of " ++ (id ++ (codes "'s dependency " ++ name))

-- the rule with its number, and a line feed
abbrev pub rule_line : ℕ → Sourced → Text
rule_line number r = numbered_text number r.rule ++ codes "\n"

-- a line for each rule, numbered from this number on
abbrev pub rule_lines : ℕ → List Sourced → Text
rule_lines number [] = []
rule_lines number (r ∷ rs) = rule_line number r ++ rule_lines (number + 1) rs

-- the rule with its number, and in brackets what it comes from
abbrev pub reason_line : ℕ → Sourced → Text
reason_line number r =
    numbered_text number r.rule ++ (codes " (" ++ (source_text r.source ++ codes ")\n"))

-- the line of the rule with this number; where no rule has it there is none
abbrev pub entry_line : List Sourced → ℕ → Text
entry_line rules number = option_map_or (reason_line number) (slice_get rules number) []

-- a line for each entry of an account or of an explanation
abbrev pub entry_lines : List Sourced → List ℕ → Text
entry_lines rules entries = flat_map (entry_line rules) entries
