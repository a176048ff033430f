-- Lines that tell the faults of a filter text.
use Rattle.std.specs.Prelude.{ℕ, List, [], ◌∷◌, ◌++◌, codes, decimal}
use Rattle.std.specs.List.{flat_map}
use Rattle.workspace_record.specs.Records.{Text}
use Rattle.nextest_filter_tokens.specs.FaultTexts.{fault_text}
use Rattle.nextest_filter_tokens.specs.Faults.{span_of}
use Rattle.nextest_filter_tokens.specs.declared.parse_error.ParseSingleError.{ParseSingleError}

-- a fault of the filter at a place, with where it lies in the text and how long it is, behind these words
abbrev pub fault_line : Text → ℕ → ParseSingleError → Text
fault_line front place e = front ++ (codes "filter " ++ (decimal place ++ (codes ": " ++ (fault_text e ++ (codes " (" ++ (decimal (span_of e).offset ++ (codes ", " ++ (decimal (span_of e).len ++ codes ")"))))))))

-- each fault on a line of its own, after a line feed
abbrev pub more_fault_lines : Text → ℕ → List ParseSingleError → Text
more_fault_lines front place errors = flat_map (λ e. codes "\n" ++ fault_line front place e) errors

-- a line for each fault, parted by line feeds
abbrev pub fault_lines : Text → ℕ → List ParseSingleError → Text
fault_lines front place [] = []
fault_lines front place (e ∷ es) = fault_line front place e ++ more_fault_lines front place es
