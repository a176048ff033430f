-- The lines that an account and an explanation are written as are read back.
use Rattle.std.proofs.Common.{◌≡◌, ℕ, ◌≤◌, List, ◌++◌, append_assoc, Some, None, Ok, IsUtf8, codes, refl, sym, ap, ap₂, ◌∙◌, subst, arith}
use Rattle.std.proofs.lemmas.List.{append_cancel_right}
use Rattle.std.proofs.lemmas.Str.{IsUtf8-append}
use Rattle.json.specs.Print.{escape_byte}
use Rattle.json.specs.Tree.{HasNumbers, depth}
use Rattle.json.proofs.Printed.Utf8.{IsUtf8-quoted}
use Rattle.serde_json.specs.Data.{Data, string, array, object, no_members, member}
use Rattle.serde_json.specs.Read.{of_json, max_depth}
use Rattle.serde_json.specs.Written.{outline, compact_text}
use Rattle.workspace_record.specs.Records.{Text}
use Rattle.workspace_record.specs.Features.{LabelValue, Base, Named, Dep, FeatureValue, label_name}
use Rattle.record_files.specs.Accounts.{AccountValue, account_of, account_file}
use Rattle.record_files.specs.Choices.{label_of, extra_of}
use Rattle.record_files.specs.declared.key.Key.TheVariants as key
use Rattle.feature_account_making.specs.AccountText.{numbers_text, account_text}
use Rattle.feature_account_making.specs.ExplanationText.{label_text, json_text, goal_text, explanation_text}
use Rattle.feature_account_making.specs.ReadBackLaws.{AreSizes, CanBeNamed, ReadsBackAs}
use Rattle.feature_account_making.proofs.NumberItems.{number_items, closed_text_is, closed_text_is_utf8, items_are_numeric, items_are_flat, items_are_read, each_number}
use Rattle.feature_account_making.proofs.ReadingFacts.{reads_back}
use Rattle.feature_account_making.proofs.TextFacts.{utf8_behind, utf8_before}

-- ---- accounts

-- the line of an account, and the value that it is
abbrev account_line : List ℕ → Text
account_line numbers = codes "{\"rules\":[" ++ (numbers_text numbers ++ codes "]}")

abbrev account_data : List ℕ → Data
account_data numbers = object (member (codes "rules") (array (number_items numbers)) no_members)

abbrev account_value : List ℕ → AccountValue
account_value numbers = record { numbers = numbers; goal = None }

-- the line is what is written before the line feed
account_regroup : (a n b c : List ℕ) → a ++ (n ++ (b ++ c)) ≡ (a ++ (n ++ b)) ++ c
account_regroup a n b c = simp append_assoc

account_line_is : (numbers : List ℕ) (line : Text) → account_text numbers ≡ line ++ codes "\n" → line ≡ account_line numbers
account_line_is numbers line written =
    append_cancel_right line (account_line numbers) (codes "\n") (sym written ∙ account_regroup (codes "{\"rules\":[") (numbers_text numbers) (codes "]}") (codes "\n"))

-- it is UTF-8, and JSON of the value
account_line_is_utf8 : (numbers : List ℕ) → AreSizes numbers → IsUtf8 (account_line numbers)
account_line_is_utf8 numbers sizes = utf8_behind (codes "{\"rules\":[") (numbers_text numbers ++ codes "]}") refl (closed_text_is_utf8 numbers sizes)

account_line_is_json : (numbers : List ℕ) → account_line numbers ≡ compact_text (account_data numbers)
unfolding escape_byte
account_line_is_json numbers = ap (λ t. codes "{\"rules\":[" ++ t) (closed_text_is numbers)

-- the value is flat enough to be read as it is, and says what the account is
account_is_shallow : (numbers : List ℕ) → depth (outline (account_data numbers)) ≤ max_depth
account_is_shallow numbers = rw (items_are_flat numbers) (omega arith)

account_is_read : (numbers : List ℕ) → AreSizes numbers → of_json (outline (account_data numbers)) ≡ Some (account_data numbers)
account_is_read numbers sizes = rw (items_are_read numbers sizes)

account_says : (numbers : List ℕ) → account_file (account_data numbers) ≡ Ok (account_value numbers)
unfolding account_of
account_says numbers = rw (each_number key.Rules numbers)

-- what is written of an account is read back
pub account_reads_back : (numbers : List ℕ) (line : Text) → AreSizes numbers → account_text numbers ≡ line ++ codes "\n" → ReadsBackAs line (account_value numbers)
account_reads_back numbers line sizes written =
    let numeric : HasNumbers (outline (account_data numbers)) = (items_are_numeric numbers sizes, tt) in
    let back : ReadsBackAs (account_line numbers) (account_value numbers) =
    reads_back (account_line numbers) (account_data numbers) (account_data numbers) (account_value numbers) (account_line_is_utf8 numbers sizes) (account_line_is_json numbers) numeric (account_is_shallow numbers) (account_is_read numbers sizes) (account_says numbers) in
    subst (λ t. ReadsBackAs t (account_value numbers)) (sym (account_line_is numbers line written)) back

-- ---- explanations

-- the line of an explanation, and the value that it is, where its goal is the given value
abbrev explanation_line : FeatureValue → List ℕ → Text
explanation_line goal entries = codes "{\"goal\":" ++ (goal_text goal ++ (codes ",\"rules\":[" ++ (numbers_text entries ++ codes "]}")))

abbrev explanation_data : Data → List ℕ → Data
explanation_data goal entries = object (member (codes "goal") goal (member (codes "rules") (array (number_items entries)) no_members))

abbrev explanation_value : FeatureValue → List ℕ → AccountValue
explanation_value goal entries = record { numbers = entries; goal = Some goal }

-- the goal as it is written, and with its members in order, as it is read
abbrev goal_written : FeatureValue → Data
goal_written goal = object (member (codes "package") (string goal.package_id) (member (codes "feature") (string (label_text goal.label)) no_members))

abbrev goal_read : FeatureValue → Data
goal_read goal = object (member (codes "feature") (string (label_text goal.label)) (member (codes "package") (string goal.package_id) no_members))

-- the line is what is written before the line feed
explanation_regroup : (a g b n c d : List ℕ) → a ++ (g ++ (b ++ (n ++ (c ++ d)))) ≡ (a ++ (g ++ (b ++ (n ++ c)))) ++ d
explanation_regroup a g b n c d = simp append_assoc

explanation_line_is : (goal : FeatureValue) (entries : List ℕ) (line : Text) → explanation_text goal entries ≡ line ++ codes "\n" → line ≡ explanation_line goal entries
explanation_line_is goal entries line written =
    append_cancel_right line (explanation_line goal entries) (codes "\n") (sym written ∙ explanation_regroup (codes "{\"goal\":") (goal_text goal) (codes ",\"rules\":[") (numbers_text entries) (codes "]}") (codes "\n"))

-- its texts are UTF-8
label_is_utf8 : (label : LabelValue) → IsUtf8 (label_name label) → IsUtf8 (label_text label)
label_is_utf8 Base utf8 = utf8
label_is_utf8 (Named name) utf8 = utf8
label_is_utf8 (Dep name) utf8 = utf8_behind (codes "dep:") name refl utf8

json_is_utf8 : (text : Text) → IsUtf8 text → IsUtf8 (json_text text)
unfolding json_text
json_is_utf8 text utf8 = IsUtf8-quoted text utf8

goal_is_utf8 : (goal : FeatureValue) → CanBeNamed goal → IsUtf8 (goal_text goal)
goal_is_utf8 goal named =
    let id_text = json_text goal.package_id in
    let feature_text = json_text (label_text goal.label) in
    let id_utf8 = json_is_utf8 goal.package_id named.package_is_utf8 in
    let feature_utf8 = json_is_utf8 (label_text goal.label) (label_is_utf8 goal.label named.label_is_utf8) in
    let rest_utf8 = utf8_behind (codes ",\"feature\":") (feature_text ++ codes "}") refl (utf8_before feature_text (codes "}") refl feature_utf8) in
    utf8_behind (codes "{\"package\":") _ refl (IsUtf8-append id_text _ id_utf8 rest_utf8)

explanation_line_is_utf8 : (goal : FeatureValue) (entries : List ℕ) → CanBeNamed goal → AreSizes entries → IsUtf8 (explanation_line goal entries)
explanation_line_is_utf8 goal entries named sizes =
    let rest_utf8 = utf8_behind (codes ",\"rules\":[") (numbers_text entries ++ codes "]}") refl (closed_text_is_utf8 entries sizes) in
    utf8_behind (codes "{\"goal\":") _ refl (IsUtf8-append (goal_text goal) _ (goal_is_utf8 goal named) rest_utf8)

-- it is JSON of the value
goal_is_json : (goal : FeatureValue) → goal_text goal ≡ compact_text (goal_written goal)
unfolding escape_byte json_text
goal_is_json goal = refl

explanation_line_is_json : (goal : FeatureValue) (entries : List ℕ) → explanation_line goal entries ≡ compact_text (explanation_data (goal_written goal) entries)
unfolding escape_byte
explanation_line_is_json goal entries =
    ap₂ (λ g n. codes "{\"goal\":" ++ (g ++ (codes ",\"rules\":[" ++ n))) (goal_is_json goal) (closed_text_is entries)

-- the value is flat enough to be read with its goal's members in order, and says what the explanation is
explanation_is_shallow : (goal : FeatureValue) (entries : List ℕ) → depth (outline (explanation_data (goal_written goal) entries)) ≤ max_depth
explanation_is_shallow goal entries = rw (items_are_flat entries) (omega arith)

explanation_is_read : (goal : FeatureValue) (entries : List ℕ) → AreSizes entries → of_json (outline (explanation_data (goal_written goal) entries)) ≡ Some (explanation_data (goal_read goal) entries)
explanation_is_read goal entries sizes = rw (items_are_read entries sizes)

explanation_says : (goal : FeatureValue) (entries : List ℕ) → label_of (label_text goal.label) ≡ goal.label → account_file (explanation_data (goal_read goal) entries) ≡ Ok (explanation_value goal entries)
unfolding account_of extra_of
explanation_says goal entries named =
    rw (each_number key.Rules entries) (ap (λ (label : LabelValue). Ok (explanation_value (record { package_id = goal.package_id; label = label }) entries)) named)

-- what is written of an explanation is read back
pub explanation_reads_back : (goal : FeatureValue) (entries : List ℕ) (line : Text) → CanBeNamed goal → AreSizes entries → explanation_text goal entries ≡ line ++ codes "\n" → ReadsBackAs line (explanation_value goal entries)
explanation_reads_back goal entries line named sizes written =
    let numeric : HasNumbers (outline (explanation_data (goal_written goal) entries)) = ((tt, (tt, tt)), (items_are_numeric entries sizes, tt)) in
    let back : ReadsBackAs (explanation_line goal entries) (explanation_value goal entries) =
    reads_back (explanation_line goal entries) (explanation_data (goal_written goal) entries) (explanation_data (goal_read goal) entries) (explanation_value goal entries) (explanation_line_is_utf8 goal entries named sizes) (explanation_line_is_json goal entries) numeric (explanation_is_shallow goal entries) (explanation_is_read goal entries sizes) (explanation_says goal entries named.label_is_named) in
    subst (λ t. ReadsBackAs t (explanation_value goal entries)) (sym (explanation_line_is goal entries line written)) back
