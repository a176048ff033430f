-- A line of JSON that is written for a value is read back as what the value says.
use Rattle.std.proofs.Common.{◌≡◌, ℕ, ◌≤◌, List, [], append-nil, Some, IsUtf8, Result, Ok, Err, inl, inr, refl, sym, ap, ◌∙◌}
use Rattle.std.specs.Prelude.{◌⊎◌}
use Rattle.json.specs.Json as json
use Rattle.json.specs.Lex.{tokens}
use Rattle.json.specs.Tree.{json_tokens, depth, HasNumbers}
use Rattle.json.proofs.Printed.Tokens.{tokens-print}
use Rattle.json.proofs.Printed.Trees.{value-json_tokens, ArePrintable-json_tokens}
use Rattle.serde_json.specs.Data.{Data}
use Rattle.serde_json.specs.Read.{read, of_json, max_depth}
use Rattle.serde_json.specs.Written.{outline, compact_text}
use Rattle.serde_json.proofs.Texts.{print-outline}
use Rattle.workspace_record.specs.Records.{Text}
use Rattle.record_files.specs.Accounts.{AccountValue, account_file}
use Rattle.record_files.specs.Faults.{Fault, fault_of}
use Rattle.record_files.specs.Files.{Reads, ReadsFile}
use Rattle.record_files.specs.declared.error.ReadError.{ReadError}
use Rattle.record_files.specs.declared.error.ReadError.TheVariants.{BadJson, BadShape, Memory}
use Rattle.feature_account_making.specs.ReadBackLaws.{ReadsBackAs}

-- the text of a value is read as its JSON is
read-compact_text : (d : Data) → HasNumbers (outline d) → depth (outline d) ≤ max_depth → read (compact_text d) ≡ of_json (outline d)
read-compact_text d numeric shallow =
    let ts = json_tokens (outline d) in
    let lexed : tokens (compact_text d) ≡ ts = ap tokens (sym (print-outline d)) ∙ tokens-print ts (ArePrintable-json_tokens (outline d) numeric) in
    let parsed : json.value max_depth (tokens (compact_text d)) ≡ Some (outline d, []) =
    ap (json.value max_depth) (lexed ∙ sym (append-nil ts)) ∙ value-json_tokens (outline d) max_depth [] shallow in
    rw parsed

-- bytes are read as one value, of which a format says one thing
reads_once : {Y : Type 0} (format : Data → Result Y Fault) (bytes : List ℕ) (a b : Result Y Fault) → Reads format bytes a → Reads format bytes b → a ≡ b
reads_once format bytes a b first second =
    let same : first.value ≡ second.value = cc (first.reading, second.reading) in
    sym first.shape ∙ ap format same ∙ second.shape

-- to a file of a value there is no other answer than the value, or that memory ran out
no_other_answer : (line : Text) (value : AccountValue) → Reads account_file line (Ok value) → (answer : Result AccountValue ReadError) → ReadsFile (λ f. f) account_file line answer → (answer ≡ Ok value) ⊎ (answer ≡ Err Memory)
no_other_answer line value known (Ok x) given = inl (cc (reads_once account_file line (Ok x) (Ok value) given known))
no_other_answer line value known (Err (BadShape field)) given = absurd (cc (reads_once account_file line (Err (fault_of field)) (Ok value) given known))
no_other_answer line value known (Err BadJson) given = absurd (cc (given known.text, known.reading))
no_other_answer line value known (Err Memory) given = inr refl

-- a line that is written for one value and read as another is read back as what the other says
pub reads_back : (line : Text) (written found : Data) (value : AccountValue) → IsUtf8 line → line ≡ compact_text written → HasNumbers (outline written) → depth (outline written) ≤ max_depth → of_json (outline written) ≡ Some found → account_file found ≡ Ok value → ReadsBackAs line value
reads_back line written found value utf8 is numeric shallow reading shape =
    let known : Reads account_file line (Ok value) = record { value = found; text = utf8; reading = ap read is ∙ read-compact_text written numeric shallow ∙ reading; shape = shape } in
    record { reads = known; no_other = no_other_answer line value known }
