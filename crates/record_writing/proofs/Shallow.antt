-- How deep members nest.
use Rattle.std.proofs.Common.{ℕ, suc, ◌≤◌, List, [], ◌∷◌, Option, Some, None, map, Ordering, Less, Equal, Greater, arith}
use Rattle.std.specs.Ordering.{nat_cmp, match_ordering}
use Rattle.std.specs.Cmp.Lexicographic.{slice_cmp}
use Rattle.std.specs.List.{AllByRecursion}
use Rattle.serde_json.specs.Data.{Data, depth, items_depth, members_depth, string, Members, no_members, member, put}
use Rattle.serde_json.specs.View.{items_of}
use Rattle.workspace_record.specs.Records.{Text}
use Rattle.record_writing.specs.Members.{object_of, or_null, put_all, texts_data}
use Rattle.record_writing.specs.Rows.{list_of}

put_at : (n : ℕ) (o : Ordering) (k l : Text) (d e : Data) (ms more : Members) → depth d ≤ n → depth e ≤ n → members_depth ms ≤ n → members_depth more ≤ n
    → members_depth (match_ordering o (member k d (member l e ms)) (member l d ms) (member l e more)) ≤ n
put_at n Less k l d e ms more a b c f = omega (arith, a, b, c)
put_at n Equal k l d e ms more a b c f = omega (arith, a, c)
put_at n Greater k l d e ms more a b c f = omega (arith, b, f)

-- a member that is put in makes nothing deeper than it is
put_shallow : (n : ℕ) (k : Text) (d : Data) (ms : Members) → depth d ≤ n → members_depth ms ≤ n → members_depth (put k d ms) ≤ n
put_shallow n k d no_members a b = omega (arith, a)
put_shallow n k d (member l e ms) a b = put_at n (slice_cmp nat_cmp k l) k l d e ms (put k d ms) a (omega (arith, b)) (omega (arith, b)) (put_shallow n k d ms a (omega (arith, b)))

-- nor do several
all_shallow : (n : ℕ) (es : List (Text × Data)) (ms : Members) → AllByRecursion (λ e. depth e.1 ≤ n) es → members_depth ms ≤ n → members_depth (put_all es ms) ≤ n
all_shallow n [] ms h b = b
all_shallow n (e ∷ es) ms h b = all_shallow n es (put e.0 e.1 ms) h.1 (put_shallow n e.0 e.1 ms h.0 b)

-- an object is one deeper than its members
pub object_shallow : (n : ℕ) (es : List (Text × Data)) → AllByRecursion (λ e. depth e.1 ≤ n) es → depth (object_of es) ≤ suc n
object_shallow n es h = omega (arith, all_shallow n es no_members h (omega arith))

items_shallow : {A : Type 0} (n : ℕ) (written : A → Data) → ((x : A) → depth (written x) ≤ n) → (xs : List A) → items_depth (items_of (map written xs)) ≤ n
items_shallow n written is [] = omega arith
items_shallow n written is (x ∷ xs) = omega (arith, is x, items_shallow n written is xs)

-- a list is one deeper than its elements
pub list_shallow : {A : Type 0} (n : ℕ) (written : A → Data) → ((x : A) → depth (written x) ≤ n) → (xs : List A) → depth (list_of written xs) ≤ suc n
list_shallow n written is xs = omega (arith, items_shallow n written is xs)

pub texts_shallow : (n : ℕ) (ts : List Text) → depth (texts_data ts) ≤ suc n
texts_shallow n ts = list_shallow n string (λ t. omega arith) ts

pub text_or_null_shallow : (n : ℕ) (o : Option Text) → depth (or_null string o) ≤ n
text_or_null_shallow n None = omega arith
text_or_null_shallow n (Some t) = omega arith

pub texts_or_null_shallow : (n : ℕ) (o : Option (List Text)) → depth (or_null texts_data o) ≤ suc n
texts_or_null_shallow n None = omega arith
texts_or_null_shallow n (Some ts) = texts_shallow n ts

pub text_shallow : (n : ℕ) (t : Text) → depth (string t) ≤ n
text_shallow n t = omega arith

each_shallow : {A : Type 0} (n : ℕ) (written : A → Data) → ((x : A) → depth (written x) ≤ n) → (es : List (Text × A)) → AllByRecursion (λ (e : Text × Data). depth e.1 ≤ n) (map (λ e. (e.0, written e.1)) es)
each_shallow n written is [] = tt
each_shallow n written is (e ∷ es) = (is e.1, each_shallow n written is es)

-- an object by names of its own is one deeper than its members
pub map_shallow : {A : Type 0} (n : ℕ) (written : A → Data) → ((x : A) → depth (written x) ≤ n) → (es : List (Text × A)) → depth (object_of (map (λ e. (e.0, written e.1)) es)) ≤ suc n
map_shallow n written is es = object_shallow n (map (λ e. (e.0, written e.1)) es) (each_shallow n written is es)
