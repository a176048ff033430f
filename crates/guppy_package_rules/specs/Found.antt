-- Sets and maps of lent texts, as look-ups by text see them.
use Rattle.std.specs.Prelude.{◌≡◌, Bool, List, Option, option_map, find}
use Rattle.std.specs.BTreeMap.{BTreeMap, get_by}
use Rattle.std.specs.Borrow.{Bor}
use Rattle.std.specs.List.{list_any}
use Rattle.std.specs.Str.{bytes_eq}
use Rattle.indexmap.specs.IndexSet.{IndexSet, contains_by}
use Rattle.list_facts.specs.Ascending.{text_cmp}
use Rattle.workspace_record.specs.Records.{Text, Package}

-- the set finds the text
abbrev pub finds : {S : Type 0} → IndexSet (Bor Text) S → Text → Bool
finds set text = contains_by (λ k. bytes_eq text k.now) set

-- the text that the map has for another
abbrev pub text_at : BTreeMap (Bor Text) (Bor Text) → Text → Option Text
text_at texts key = option_map (λ t. t.now) (get_by (λ k. text_cmp key k.now) texts)

-- the set finds a text exactly where it is one of these
abbrev pub HoldsTexts : {S : Type 0} → IndexSet (Bor Text) S → List Text → Type 0
HoldsTexts set texts = (text : Text) → finds set text ≡ list_any (bytes_eq text) texts

-- the map finds the name of the first package with an id
abbrev pub HoldsNames : BTreeMap (Bor Text) (Bor Text) → List Package → Type 0
HoldsNames names packages = (id : Text) → text_at names id ≡ option_map (λ p. p.name) (find (λ p. bytes_eq id p.id) packages)

-- the three texts of a key
abbrev pub lent_key : Bor Text × Bor Text × Bor Text → Text × Text × Text
lent_key k = (k.0.now, k.1.now, k.2.now)
