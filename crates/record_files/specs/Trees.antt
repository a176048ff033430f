-- What `serde_json` would make of a tree that `json` read.
use Rattle.std.specs.Prelude.{List, [], ◌∷◌, Bool, true, ◌&&◌, is_some, unwrap_or, negsuc}
use Rattle.std.specs.Borrow.{Bor}
use Rattle.std.specs.declared.alloc.Global.{Global}
use Rattle.json.specs.Json as json
use Rattle.json.specs.Value.{value_view, items_view}
use Rattle.json.specs.declared.value.Value.{Value}
use Rattle.serde_json.specs.Data.{Num, negative, Data, null, boolean, number, string, array, object, Items, no_items, item, Members, no_members, member, put}
use Rattle.serde_json.specs.Read.{number_of}
use Rattle.workspace_record.specs.Records.{Text}

-- the number that a text writes; in place of one that is out of range, -1
abbrev pub number_or : Text → Num
number_or text = unwrap_or (number_of text) (negative (negsuc 0))

-- the data of a tree; the last of a key's members counts (from the docs of `serde_json`)
abbrev mutual
  pub data_of : json.Json → Data
  data_of json.null = null
  data_of (json.boolean b) = boolean b
  data_of (json.number text) = number (number_or text)
  data_of (json.string text) = string text
  data_of (json.array js) = array (items_data js)
  data_of (json.object ms) = object (members_data ms no_members)

  pub items_data : json.Items → Items
  items_data json.no_items = no_items
  items_data (json.item j js) = item (data_of j) (items_data js)

  -- the members go in one after another
  pub members_data : json.Members → Members → Members
  members_data json.no_members found = found
  members_data (json.member name j ms) found = members_data ms (put name (data_of j) found)

-- each number is in range (from the docs of `serde_json`)
abbrev mutual
  pub has_numbers : json.Json → Bool
  has_numbers json.null = true
  has_numbers (json.boolean b) = true
  has_numbers (json.number text) = is_some (number_of text)
  has_numbers (json.string text) = true
  has_numbers (json.array js) = items_have_numbers js
  has_numbers (json.object ms) = members_have_numbers ms

  pub items_have_numbers : json.Items → Bool
  items_have_numbers json.no_items = true
  items_have_numbers (json.item j js) = has_numbers j && items_have_numbers js

  pub members_have_numbers : json.Members → Bool
  members_have_numbers json.no_members = true
  members_have_numbers (json.member name j ms) = has_numbers j && members_have_numbers ms

-- the data of a value (from the docs of `serde_json`)
abbrev pub seen : Value Global → Data
seen v = data_of (value_view v)

abbrev pub seen_items : List (Value Global) → Items
seen_items vs = items_data (items_view vs)

-- the data of members that are lent, by the names that they are lent under
abbrev pub lent_members : List (Bor Text × Bor (Value Global)) → Members
lent_members [] = no_members
lent_members (m ∷ ms) = member m.0.now (seen m.1.now) (lent_members ms)
