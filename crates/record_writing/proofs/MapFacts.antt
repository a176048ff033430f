-- Tables and listings that were written are read by name.
use Rattle.std.proofs.Common.{◌≡◌, ◌∙◌, refl, ap, List, [], ◌∷◌, Bool, map, Ordering, Less, Equal, Greater, Result, Ok}
use Rattle.std.specs.Ordering.{match_ordering}
use Rattle.list_facts.specs.Ascending.{text_cmp}
use Rattle.serde_json.specs.Data.{Data, boolean, Members, no_members, member, put}
use Rattle.workspace_record.specs.Records.{Text}
use Rattle.record_files.specs.Faults.{Fault}
use Rattle.record_files.specs.Listings.{listing_of, listings_file}
use Rattle.record_files.specs.Tables.{answer_of, table_file, table_of}
use Rattle.record_files.specs.Values.{each_member}
use Rattle.record_writing.proofs.Entries.{by_name, with_entries, with_entry}
use Rattle.record_writing.specs.Maps.{listings_data, table_data}
use Rattle.record_writing.specs.Members.{put_all, texts_data}
use Rattle.record_writing.proofs.Found.{each_text_of}

module _ {A : Type 0} (written : A → Data) where
  -- the members of entries
  abbrev pub members_for : List (Text × A) → Members
  members_for [] = no_members
  members_for (e ∷ es) = member e.0 (written e.1) (members_for es)

  either : (o : Ordering) (a b c : List (Text × A)) → match_ordering o (members_for a) (members_for b) (members_for c) ≡ members_for (match_ordering o a b c)
  either Less a b c = refl
  either Equal a b c = refl
  either Greater a b c = refl

  put_in : (name : Text) (x : A) (es : List (Text × A)) → put name (written x) (members_for es) ≡ members_for (with_entry name x es)
  put_in name x [] = refl
  put_in name x (e ∷ es) = ap (λ more. match_ordering (text_cmp name e.0) (member name (written x) (member e.0 (written e.1) (members_for es))) (member e.0 (written x) (members_for es)) (member e.0 (written e.1) more)) (put_in name x es) ∙ either (text_cmp name e.0) ((name, x) ∷ e ∷ es) ((e.0, x) ∷ es) (e ∷ with_entry name x es)

  -- what is put in one after another, by name
  pub put_each : (es found : List (Text × A)) → put_all (map (λ e. (e.0, written e.1)) es) (members_for found) ≡ members_for (with_entries es found)
  put_each [] found = refl
  put_each (e ∷ es) found = ap (put_all (map (λ e. (e.0, written e.1)) es)) (put_in e.0 e.1 found) ∙ put_each es (with_entry e.0 e.1 found)

  module _ (read : Text → Data → Result A Fault) (says : (name : Text) (x : A) → read name (written x) ≡ Ok x) where
    each_entry : (es : List (Text × A)) → each_member read (members_for es) ≡ Ok es
    each_entry [] = refl
    each_entry (e ∷ es) = rw (says e.0 e.1, each_entry es)

    -- what is read of members that were put in
    pub entries_read : (es : List (Text × A)) → each_member read (put_all (map (λ e. (e.0, written e.1)) es) no_members) ≡ Ok (by_name es)
    entries_read es = ap (each_member read) (put_each es []) ∙ each_entry (by_name es)

pub table_read : (answers : List (Text × Bool)) (unknown_counts : Bool) → table_file (table_data answers unknown_counts) ≡ Ok (record { answers = by_name answers; unknown_counts = unknown_counts })
unfolding table_of
table_read answers unknown_counts = rw (entries_read boolean answer_of (λ name x. refl) answers)

listing_read : (id : Text) (tests : List Text) → listing_of id (texts_data tests) ≡ Ok tests
listing_read id tests = rw (each_text_of tests)

pub listings_read : (listings : List (Text × List Text)) → listings_file (listings_data listings) ≡ Ok (by_name listings)
listings_read listings = entries_read texts_data listing_of listing_read listings
