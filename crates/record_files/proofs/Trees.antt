-- Trees that `json` read, beside the data that `serde_json` would make of them.
use Rattle.std.proofs.Common.{◌≡◌, refl, sym, ap, ◌∙◌, subst, ℕ, ◌+◌, ◌<◌, List, [], ◌∷◌, length, get_or, drop, map, Bool, true, false, true≢false, cond, ◌&&◌, bytes_eq, Option, Some, None, is_some, unwrap_or, option_map, option_and_then, Ordering, Less, Equal, Greater, nat_cmp, Bor, Global}
use Rattle.std.proofs.lemmas.List.{drop_more}
use Rattle.std.proofs.lemmas.Slice.Eq.{bytes_eq-Decides}
use Rattle.std.specs.Prelude.{if◌then◌else◌}
use Rattle.std.specs.BTreeMap.{insert_entry}
use Rattle.std.specs.Cmp.Lexicographic.{slice_cmp}
use Rattle.std.specs.Ordering.{match_ordering}
use Rattle.json.specs.Json as json
use Rattle.json.specs.Token.{Token}
use Rattle.json.specs.Find as tree
use Rattle.json.specs.Value.{value_view, members_view}
use Rattle.json.specs.declared.value.Value.{Value}
use Rattle.serde_json.specs.Data.{Num, Data, number, array, object, Items, item, Members, no_members, put}
use Rattle.serde_json.specs.Find.{as_str, get, get_member}
use Rattle.serde_json.specs.Read.{number_of, of_json, of_items, of_members}
use Rattle.serde_json.specs.View.{items_of}
use Rattle.serde_json.proofs.Views.{get_member-put, get_member-put_other}
use Rattle.workspace_record.specs.Records.{Text}
use Rattle.record_files.specs.Trees.{data_of, items_data, members_data, has_numbers, items_have_numbers, members_have_numbers, seen, seen_items, lent_members}

-- what is read where the numbers are in range, and nothing else
abbrev pub only_if : {A : Type 0} → Bool → A → Option A
only_if b a = if b then Some a else None

number_read : (o : Option Num) (default : Num) → option_map number o ≡ only_if (is_some o) (number (unwrap_or o default))
number_read None default = refl
number_read (Some n) default = refl

mapped : {A B : Type 0} (f : A → B) (b : Bool) (a : A) → option_map f (only_if b a) ≡ only_if b (f a)
mapped f true a = refl
mapped f false a = refl

both : (b c : Bool) (d : Data) (ds : Items) → option_and_then (λ e. option_map (item e) (only_if c ds)) (only_if b d) ≡ only_if (b && c) (item d ds)
both true true d ds = refl
both true false d ds = refl
both false c d ds = refl

then_more : {A B : Type 0} (f : A → Option B) (b c : Bool) (a : A) (x : B) → f a ≡ only_if c x → option_and_then f (only_if b a) ≡ only_if (b && c) x
then_more f true c a x e = e
then_more f false c a x e = refl

mutual
  -- a tree is read as its data, if its numbers are in range
  pub data_read : (j : json.Json) → of_json j ≡ only_if (has_numbers j) (data_of j)
  data_read json.null = refl
  data_read (json.boolean b) = refl
  data_read (json.number text) = number_read (number_of text) _
  data_read (json.string text) = refl
  data_read (json.array js) = ap (option_map array) (items_read js) ∙ mapped array (items_have_numbers js) (items_data js)
  data_read (json.object ms) = ap (option_map object) (members_read ms no_members) ∙ mapped object (members_have_numbers ms) (members_data ms no_members)

  items_read : (js : json.Items) → of_items js ≡ only_if (items_have_numbers js) (items_data js)
  items_read json.no_items = refl
  items_read (json.item j js) = rw (data_read j, items_read js) (both (has_numbers j) (items_have_numbers js) (data_of j) (items_data js))

  members_read : (ms : json.Members) (found : Members) → of_members ms found ≡ only_if (members_have_numbers ms) (members_data ms found)
  members_read json.no_members found = refl
  members_read (json.member name j ms) found =
      ap (option_and_then (λ d. of_members ms (put name d found))) (data_read j)
      ∙ then_more (λ d. of_members ms (put name d found)) (has_numbers j) (members_have_numbers ms) (data_of j) _ (members_read ms (put name (data_of j) found))

-- ---- looking up

abbrev or_earlier : Option Data → Option Data → Option Data
or_earlier None earlier = earlier
or_earlier (Some d) earlier = Some d

put_at : (b : Bool) (name k : Text) (j : json.Json) (found : Members) → bytes_eq k name ≡ b
    → get_member name (put k (data_of j) found) ≡ or_earlier (option_map data_of (cond b (Some j) None)) (get_member name found)
put_at true name k j found e =
    let same : k ≡ name = (bytes_eq-Decides k name).0 e in
    subst (λ l. get_member name (put l (data_of j) found) ≡ Some (data_of j)) (sym same) (get_member-put name (data_of j) found)
put_at false name k j found e = get_member-put_other name k (data_of j) found (λ same. absurd (true≢false (sym ((bytes_eq-Decides k name).1 (sym same)) ∙ e)))

later_first : (later earlier : Option json.Json) (d : Option Data)
    → or_earlier (option_map data_of later) (or_earlier (option_map data_of earlier) d) ≡ or_earlier (option_map data_of (tree.later_or later earlier)) d
later_first None earlier d = refl
later_first (Some j) earlier d = refl

member_found : (name : Text) (ms : json.Members) (found : Members) → get_member name (members_data ms found) ≡ or_earlier (option_map data_of (tree.get_member name ms)) (get_member name found)
member_found name json.no_members found = refl
member_found name (json.member k j ms) found =
    member_found name ms (put k (data_of j) found)
    ∙ ap (or_earlier (option_map data_of (tree.get_member name ms))) (put_at (bytes_eq k name) name k j found refl)
    ∙ later_first (tree.get_member name ms) (cond (bytes_eq k name) (Some j) None) (get_member name found)

nothing_earlier : (o : Option Data) → or_earlier o None ≡ o
nothing_earlier None = refl
nothing_earlier (Some d) = refl

-- what is found in a tree is found in its data
pub value_found : (name : Text) (j : json.Json) → option_map data_of (tree.get name j) ≡ get name (data_of j)
value_found name json.null = refl
value_found name (json.boolean b) = refl
value_found name (json.number text) = refl
value_found name (json.string text) = refl
value_found name (json.array js) = refl
value_found name (json.object ms) = sym (member_found name ms no_members ∙ nothing_earlier _)

-- ---- values of a tree

-- a tree that is a text is read as that text
pub text_seen : (j : json.Json) (t : Text) → Some t ≡ tree.as_str j → as_str (data_of j) ≡ Some t
text_seen json.null t e = sym e
text_seen (json.boolean b) t e = sym e
text_seen (json.number n) t e = sym e
text_seen (json.string s) t e = sym e
text_seen (json.array js) t e = sym e
text_seen (json.object ms) t e = sym e

pub seen_if : (r : Option (Bor (Value Global))) → option_map (λ v. seen v.now) r ≡ option_map data_of (option_map (λ v. value_view v.now) r)
seen_if None = refl
seen_if (Some v) = refl

pub seen_each : (vs : List (Value Global)) → seen_items vs ≡ items_of (map seen vs)
seen_each [] = refl
seen_each (v ∷ vs) = ap (item (seen v)) (seen_each vs)

-- the member at a place goes in before those behind it
pub goes_in : (ms : List (Bor Text × Value Global)) (i : ℕ) (m : Bor Text × Value Global) (found : Members) → i < length ms → m ≡ get_or ms i m
    → members_data (members_view (drop i ms)) found ≡ members_data (members_view (drop (i + 1) ms)) (put m.0.now (seen m.1) found)
goes_in ms i m found within is = ap (λ rest. members_data (members_view rest) found) (drop_more ms i m within ∙ ap (λ first. first ∷ drop (i + 1) ms) (sym is))

-- ---- members that are lent

lent_members-match_ordering : (o : Ordering) (a b c : List (Bor Text × Bor (Value Global))) → lent_members (match_ordering o a b c) ≡ match_ordering o (lent_members a) (lent_members b) (lent_members c)
lent_members-match_ordering Less a b c = refl
lent_members-match_ordering Equal a b c = refl
lent_members-match_ordering Greater a b c = refl

pub lent_put : (es : List (Bor Text × Bor (Value Global))) (k : Bor Text) (v : Bor (Value Global))
    → lent_members (insert_entry (λ x y. slice_cmp nat_cmp x.now y.now) es k v) ≡ put k.now (seen v.now) (lent_members es)
lent_put [] k v = refl
lent_put (e ∷ es) k v = lent_members-match_ordering (slice_cmp nat_cmp k.now e.0.now) _ _ _ ∙ rw (lent_put es k v)

-- ---- whole texts

-- what a text is, from its first value and the tokens behind it
abbrev pub whole : Option (json.Json × List Token) → Option Data
whole read = option_and_then of_json (option_and_then (λ p. json.if_last p.0 p.1) read)

pub whole_value : (read : Option (json.Json × List Token)) (j : json.Json) (rest : List Token) (b : Bool) → read ≡ Some (j, rest) → rest ≡ [] → b ≡ has_numbers j → whole read ≡ only_if b (data_of j)
whole_value read j rest b e none same = rw (e, none, same) (data_read j)
