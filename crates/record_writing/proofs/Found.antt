-- What is read of what was written.
use Rattle.std.proofs.Common.{◌≡◌, refl, List, [], ◌∷◌, true, Option, Some, None, is_some, map, Result, Ok}
use Rattle.serde_json.specs.Data.{Data, string}
use Rattle.serde_json.specs.Find.{as_object}
use Rattle.serde_json.specs.View.{items_of}
use Rattle.workspace_record.specs.Records.{Text}
use Rattle.record_files.specs.Faults.{Fault}
use Rattle.record_files.specs.Values.{all_objects, each, each_text, optional_in, text_of, texts_of, unless_null}
use Rattle.record_files.specs.declared.key.Key.{Key}
use Rattle.record_writing.specs.Members.{or_null, texts_data}

-- the texts of a list
pub each_text_of : (ts : List Text) → each_text (items_of (map string ts)) ≡ Some ts
each_text_of [] = refl
each_text_of (t ∷ ts) = rw (each_text_of ts)

-- a text that may be absent
pub text_or_none : (k : Key) (o : Option Text) → optional_in text_of k (unless_null (or_null string o)) ≡ Ok o
text_or_none k None = refl
text_or_none k (Some t) = refl

-- a list of texts that may be absent
pub texts_or_none : (k : Key) (o : Option (List Text)) → optional_in texts_of k (unless_null (or_null texts_data o)) ≡ Ok o
texts_or_none k None = refl
texts_or_none k (Some ts) = rw (each_text_of ts)

-- a list of objects
pub objects_each : {A : Type 0} (written : A → Data) → ((x : A) → is_some (as_object (written x)) ≡ true) → (xs : List A) → all_objects (items_of (map written xs)) ≡ true
objects_each written is [] = refl
objects_each written is (x ∷ xs) = rw (is x, objects_each written is xs)

-- where each is read as what is seen of it, so is a list of them
pub each_read : {A B : Type 0} (read : Data → Result B Fault) (written : A → Data) (shown : A → B) → ((x : A) → read (written x) ≡ Ok (shown x)) → (xs : List A) → each read (items_of (map written xs)) ≡ Ok (map shown xs)
each_read read written shown is [] = refl
each_read read written shown is (x ∷ xs) = rw (is x, each_read read written shown is xs)

-- where each is read as it is
pub each_same : {A : Type 0} (read : Data → Result A Fault) (written : A → Data) → ((x : A) → read (written x) ≡ Ok x) → (xs : List A) → each read (items_of (map written xs)) ≡ Ok xs
each_same read written is [] = refl
each_same read written is (x ∷ xs) = rw (is x, each_same read written is xs)
