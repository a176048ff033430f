-- The members that are put into an object.
use Rattle.std.specs.Prelude.{List, [], ◌∷◌, Option, Some, None, map, option_map, string_bytes}
use Rattle.std.specs.Borrow.{Bor}
use Rattle.serde_json.specs.Data.{Data, null, boolean, string, array, Members, no_members, object, put}
use Rattle.serde_json.specs.View.{items_of}
use Rattle.workspace_record.specs.Records.{Text}
use Rattle.record_writing.specs.declared.object.Member.{Member}
use Rattle.record_writing.specs.declared.object.Member.TheVariants as member

-- a list of texts
abbrev pub texts_data : List Text → Data
texts_data texts = array (items_of (map string texts))

-- a value, or null where there is none
abbrev pub or_null : {A : Type 0} → (A → Data) → Option A → Data
or_null written None = null
or_null written (Some x) = written x

-- the value of a member
abbrev pub value_of : Member → Data
value_of (member.Text text) = string text.now
value_of (member.OptionalText text) = or_null string (option_map string_bytes text.now)
value_of (member.Texts texts) = texts_data (map string_bytes texts.now)
value_of (member.OptionalTexts texts) = or_null texts_data (option_map (λ v. map string_bytes v.items) texts.now)
value_of (member.Flag flag) = boolean flag

-- members, each with its name
abbrev pub members_data : List (Bor Text × Member) → List (Text × Data)
members_data ms = map (λ m. (m.0.now, value_of m.1)) ms

-- the members, with these put among them one after another
abbrev pub put_all : List (Text × Data) → Members → Members
put_all [] found = found
put_all (m ∷ ms) found = put_all ms (put m.0 m.1 found)

-- an object with these members
abbrev pub object_of : List (Text × Data) → Data
object_of ms = object (put_all ms no_members)
