-- The line that listings are written as is read as they are, with its line feed.
use Rattle.std.proofs.Common.{◌≡◌, ◌∙◌, ℕ, List, [], ◌∷◌, ◌++◌, Bool, true, false, map, option_and_then, refl, sym, subst, ap, append_assoc, append-nil}
use Rattle.json.specs.Json as json
use Rattle.json.specs.Lex.{between, fresh, lex, punctuate, string_token, token}
use Rattle.json.specs.Print.{escape, quoted}
use Rattle.json.specs.Token.{string}
use Rattle.json.proofs.Printed.Strings.{content-escape, lex-escape}
use Rattle.serde_json.specs.Data.{object}
use Rattle.serde_json.specs.Data as data_of
use Rattle.serde_json.specs.Read.{max_depth, of_json, read}
use Rattle.serde_json.specs.View.{items_of}
use Rattle.serde_json.specs.Written.{comma_if, compact_text, has_float, items_have_float, items_text, members_have_float, members_text}
use Rattle.workspace_record.specs.Records.{Text}
use Rattle.record_writing.specs.Maps.{listings_data}
use Rattle.record_writing.specs.Members.{texts_data}
use Rattle.record_writing.proofs.Entries.{by_name}
use Rattle.record_writing.proofs.MapFacts.{members_for, put_each}

-- whatever follows the text, its lexemes are the same
record StandsAlone (t : List ℕ) : Type 0 where
  lexed : (rest : List ℕ) → lex between (t ++ rest) ≡ lex between t ++ lex between rest

both_alone : (s t : List ℕ) → StandsAlone s → StandsAlone t → StandsAlone (s ++ t)
both_alone s t one other = record {
  lexed = λ rest.
      ap (lex between) (append_assoc s t rest)
      ∙ one.lexed (t ++ rest)
      ∙ ap (λ l. lex between s ++ l) (other.lexed rest)
      ∙ sym (append_assoc (lex between s) (lex between t) (lex between rest))
      ∙ ap (λ l. l ++ lex between rest) (sym (one.lexed t));
}

-- ---- the pieces of the line

quoted_lexed : (s rest : List ℕ) → lex between (quoted s ++ rest) ≡ token (string s) ∷ lex between rest
unfolding lex
quoted_lexed s rest =
    ap (λ l. lex between (34 ∷ l)) (append_assoc (escape s) (34 ∷ []) rest) ∙ (λ i. token (string_token (content-escape s rest i)) ∷ lex-escape s rest i)

quoted_alone : (s : Text) → StandsAlone (quoted s)
unfolding lex
quoted_alone s = record {
  lexed = λ rest.
      quoted_lexed s rest ∙ ap (λ l. l ++ lex between rest) (sym (quoted_lexed s []) ∙ ap (lex between) (append-nil (quoted s)));
}

comma_alone : (later : Bool) → StandsAlone (comma_if later)
unfolding lex
comma_alone true = record { lexed = λ rest. refl }
comma_alone false = record { lexed = λ rest. refl }

colon_alone : StandsAlone (58 ∷ [])
unfolding lex
colon_alone = record { lexed = λ rest. refl }

begin_array_alone : StandsAlone (91 ∷ [])
unfolding lex
begin_array_alone = record { lexed = λ rest. refl }

end_array_alone : StandsAlone (93 ∷ [])
unfolding lex
end_array_alone = record { lexed = λ rest. refl }

begin_object_alone : StandsAlone (123 ∷ [])
unfolding lex
begin_object_alone = record { lexed = λ rest. refl }

end_object_alone : StandsAlone (125 ∷ [])
unfolding lex
end_object_alone = record { lexed = λ rest. refl }

items_alone : (later : Bool) (ts : List Text) → StandsAlone (items_text later (items_of (map data_of.string ts)))
items_alone later [] = end_array_alone
items_alone later (t ∷ ts) = both_alone (comma_if later) _ (comma_alone later) (both_alone (quoted t) _ (quoted_alone t) (items_alone true ts))

texts_alone : (ts : List Text) → StandsAlone (compact_text (texts_data ts))
texts_alone ts = both_alone (91 ∷ []) _ begin_array_alone (items_alone false ts)

members_alone : (later : Bool) (es : List (Text × List Text)) → StandsAlone (members_text later (members_for texts_data es))
members_alone later [] = end_object_alone
members_alone later (e ∷ es) =
    both_alone (comma_if later) _ (comma_alone later) (both_alone (quoted e.0) _ (quoted_alone e.0) (both_alone (58 ∷ []) _ colon_alone (both_alone (compact_text (texts_data e.1)) _ (texts_alone e.1) (members_alone true es))))

-- ---- the whole line

-- listings are an object of the texts under each id
in_order : (given : List (Text × List Text)) → listings_data given ≡ object (members_for texts_data (by_name given))
in_order given = ap object (put_each texts_data given [])

listings_alone : (given : List (Text × List Text)) → StandsAlone (compact_text (listings_data given))
listings_alone given =
    subst (λ d. StandsAlone (compact_text d)) (sym (in_order given)) (both_alone (123 ∷ []) _ begin_object_alone (members_alone false (by_name given)))

-- a line feed behind it changes nothing of what is read
pub read-line : (given : List (Text × List Text)) → read (compact_text (listings_data given) ++ 10 ∷ []) ≡ read (compact_text (listings_data given))
unfolding lex
read-line given =
    let text = compact_text (listings_data given) in
    let same : lex between (text ++ 10 ∷ []) ≡ lex between text = (listings_alone given).lexed (10 ∷ []) ∙ append-nil (lex between text) in
    ap (λ ls. option_and_then of_json (option_and_then (λ p. json.if_last p.0 p.1) (json.value max_depth (punctuate fresh ls)))) same

-- ---- no float

texts_no_float : (ts : List Text) → items_have_float (items_of (map data_of.string ts)) ≡ false
texts_no_float [] = refl
texts_no_float (t ∷ ts) = texts_no_float ts

members_no_float : (es : List (Text × List Text)) → members_have_float (members_for texts_data es) ≡ false
members_no_float [] = refl
members_no_float (e ∷ es) = rw (texts_no_float e.1) (members_no_float es)

pub listings_no_float : (given : List (Text × List Text)) → has_float (listings_data given) ≡ false
listings_no_float given = ap has_float (in_order given) ∙ members_no_float (by_name given)
