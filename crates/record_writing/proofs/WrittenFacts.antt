-- What a text of a value is read as.
use Rattle.std.proofs.Common.{◌≡◌, ◌∙◌, ◌≤◌, Some, IfOk, Result, Ok, Err, String, Global, string_bytes, ap, subst, sym}
use Rattle.std.proofs.lemmas.Str.{IsUtf8-string_bytes}
use Rattle.serde_json.specs.Data.{Data, depth}
use Rattle.serde_json.specs.Read.{max_depth, read}
use Rattle.workspace_record.specs.Records.{Text}
use Rattle.record_files.specs.Faults.{Fault}
use Rattle.record_files.specs.Files.{Reads}

-- a text that reads back as the data is read as what the format says of it
pub reads_as : {Y E : Type 0} (format : Data → Result Y Fault) (d value : Data) (said : Result Y Fault) (r : Result (String Global) E)
    → format d ≡ said → depth d ≤ max_depth → value ≡ d → IfOk r (λ s. depth value ≤ max_depth → read (string_bytes s) ≡ Some value)
    → IfOk r (λ s. Reads format (string_bytes s) said)
reads_as format d value said (Ok s) shape shallow same back = record {
  value = d;
  text = IsUtf8-string_bytes s;
  reading = back (subst (λ v. depth v ≤ max_depth) (sym same) shallow) ∙ ap Some same;
  shape = shape;
}
reads_as format d value said (Err e) shape shallow same back = back

-- so where the value is read as something of which this holds
pub reads_so : {Y E : Type 0} (format : Data → Result Y Fault) (d value : Data) (y : Y) (r : Result (String Global) E) (Q : Text → Type 0)
    → format d ≡ Ok y → depth d ≤ max_depth → value ≡ d → IfOk r (λ s. depth value ≤ max_depth → read (string_bytes s) ≡ Some value)
    → ((text : Text) → Reads format text (Ok y) → Q text)
    → IfOk r (λ s. Q (string_bytes s))
reads_so {E = E} format d value y (Ok s) Q shape shallow same back so = so (string_bytes s) (reads_as {E = E} format d value (Ok y) (Ok s) shape shallow same back)
reads_so format d value y (Err e) Q shape shallow same back so = back
