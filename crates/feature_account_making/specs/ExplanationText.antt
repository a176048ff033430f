-- The line of JSON that an explanation is written as.
use Rattle.std.specs.Prelude.{ℕ, List, [], ◌++◌, codes}
use Rattle.serde_json.specs.Data.{string}
use Rattle.serde_json.specs.Written.{compact_text}
use Rattle.workspace_record.specs.Records.{Text}
use Rattle.workspace_record.specs.Features.{LabelValue, Base, Named, Dep, FeatureValue}
use Rattle.feature_account_making.specs.AccountText.{numbers_text}

-- a feature as a choice names it: the empty text is the package itself
abbrev pub label_text : LabelValue → Text
label_text Base = []
label_text (Named name) = name
label_text (Dep name) = codes "dep:" ++ name

-- a text as `serde_json` writes it
unfoldable pub json_text : Text → Text
json_text text = compact_text (string text)

-- an object with the package and the feature
abbrev pub goal_text : FeatureValue → Text
goal_text goal =
    codes "{\"package\":" ++ (json_text goal.package_id ++ (codes ",\"feature\":" ++ (json_text (label_text goal.label) ++ codes "}")))

-- an object with the feature that is explained and the list of numbers, and a line feed
abbrev pub explanation_text : FeatureValue → List ℕ → Text
explanation_text goal entries =
    codes "{\"goal\":" ++ (goal_text goal ++ (codes ",\"rules\":[" ++ (numbers_text entries ++ codes "]}\n")))
