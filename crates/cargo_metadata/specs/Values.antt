-- What a value gives where a text, a flag or a list is wanted, and what an object gives at a key.
use Rattle.std.specs.Prelude.{List, [], ◌∷◌, Bool, true, ◌&&◌, if◌then◌else◌, Option, Some, None, is_some, option_map, option_and_then, ok_or, Result, Ok, Err}
use Rattle.serde_json.specs.Data.{Data, null, boolean, number, string, array, object, Items, no_items, item, Members}
use Rattle.serde_json.specs.Find.{get, as_bool, as_str, as_array, as_object}
use Rattle.workspace_record.specs.Records.{Text}
use Rattle.cargo_metadata.specs.Faults.{Fault, at_key}
use Rattle.cargo_metadata.specs.declared.key.Key.{Key}
use Rattle.cargo_metadata.specs.Keys.{key_of}
use Rattle.cargo_metadata.specs.Outcomes.{◌>>=◌}

-- ---- one value; the key is at fault where it is of another kind

-- a text
abbrev pub text_of : Key → Data → Result Text Fault
text_of key d = ok_or (as_str d) (at_key key)

-- true or false
abbrev pub flag_of : Key → Data → Result Bool Fault
flag_of key d = ok_or (as_bool d) (at_key key)

-- the elements of a list
abbrev pub items_of : Key → Data → Result Items Fault
items_of key d = ok_or (as_array d) (at_key key)

-- an object, as it is
abbrev pub object_of : Key → Data → Result Data Fault
object_of key d = if is_some (as_object d) then Ok d else Err (at_key key)

-- each element under `read`, by place; the first fault counts
abbrev pub each : {A : Type 0} → (Data → Result A Fault) → Items → Result (List A) Fault
each read no_items = Ok []
each read (item d ds) = read d >>= λ x. each read ds >>= λ xs. Ok (x ∷ xs)

-- the texts of elements, if each is a text
abbrev pub each_text : Items → Option (List Text)
each_text no_items = Some []
each_text (item d ds) = option_and_then (λ t. option_map (λ ts. t ∷ ts) (each_text ds)) (as_str d)

-- the texts of a list, if the value is one
abbrev pub as_texts : Data → Option (List Text)
as_texts d = option_and_then each_text (as_array d)

-- a list of texts
abbrev pub texts_of : Key → Data → Result (List Text) Fault
texts_of key d = ok_or (as_texts d) (at_key key)

-- the members of an object
abbrev pub members_of : Key → Data → Result Members Fault
members_of key d = ok_or (as_object d) (at_key key)

-- each element is an object
abbrev pub all_objects : Items → Bool
all_objects no_items = true
all_objects (item d ds) = is_some (as_object d) && all_objects ds

-- the elements of a list of objects, as they are
abbrev pub objects_of : Key → Data → Result Items Fault
objects_of key d = items_of key d >>= λ ds. if all_objects ds then Ok ds else Err (at_key key)

-- ---- the value at a key of an object

-- null stands for no value
abbrev pub unless_null : Data → Option Data
unless_null null = None
unless_null (boolean b) = Some (boolean b)
unless_null (number n) = Some (number n)
unless_null (string s) = Some (string s)
unless_null (array ds) = Some (array ds)
unless_null (object ms) = Some (object ms)

-- a value under a key, unless it is null
abbrev pub present : Option Data → Option Data
present None = None
present (Some d) = unless_null d

-- the value that an object gives under a key's key, if any
abbrev pub given : Key → Data → Option Data
given key d = present (get (key_of key) d)

-- what `required` gives for the value under the key
abbrev pub required_in : {A : Type 0} → (Key → Data → Result A Fault) → Key → Option Data → Result A Fault
required_in read key None = Err (at_key key)
required_in read key (Some d) = read key d

-- a value that has to be given
abbrev pub required : {A : Type 0} → (Key → Data → Result A Fault) → Key → Data → Result A Fault
required read key d = required_in read key (given key d)

-- what `optional` gives for the value under the key
abbrev pub optional_in : {A : Type 0} → (Key → Data → Result A Fault) → Key → Option Data → Result (Option A) Fault
optional_in read key None = Ok None
optional_in read key (Some d) = read key d >>= λ x. Ok (Some x)

-- a value that may be absent
abbrev pub optional : {A : Type 0} → (Key → Data → Result A Fault) → Key → Data → Result (Option A) Fault
optional read key d = optional_in read key (given key d)

-- what `otherwise` gives for the value under the key
abbrev pub otherwise_in : {A : Type 0} → A → (Key → Data → Result A Fault) → Key → Option Data → Result A Fault
otherwise_in default read key None = Ok default
otherwise_in default read key (Some d) = read key d

-- a value that is the default where it is absent
abbrev pub otherwise : {A : Type 0} → A → (Key → Data → Result A Fault) → Key → Data → Result A Fault
otherwise default read key d = otherwise_in default read key (given key d)

-- ---- the shapes that metadata have

-- a text that has to be given
abbrev pub text_at : Key → Data → Result Text Fault
text_at = required text_of

-- a text that may be absent
abbrev pub optional_text_at : Key → Data → Result (Option Text) Fault
optional_text_at = optional text_of

-- a list of texts that has to be given
abbrev pub texts_at : Key → Data → Result (List Text) Fault
texts_at = required texts_of

-- a list of texts; absent is empty
abbrev pub texts_or_none : Key → Data → Result (List Text) Fault
texts_or_none = otherwise [] texts_of

-- a list of texts that may be absent
abbrev pub optional_texts_at : Key → Data → Result (Option (List Text)) Fault
optional_texts_at = optional texts_of

-- true or false, which has to be given
abbrev pub flag_at : Key → Data → Result Bool Fault
flag_at = required flag_of

-- a list of objects that has to be given
abbrev pub objects_at : Key → Data → Result Items Fault
objects_at = required objects_of
