-- What is written for tables and listings: objects by names of their own.
use Rattle.std.specs.Prelude.{List, [], ◌∷◌, ◌++◌, Bool, codes, map}
use Rattle.serde_json.specs.Data.{Data, boolean}
use Rattle.serde_json.specs.Written.{compact_text}
use Rattle.workspace_record.specs.Records.{Text}
use Rattle.record_writing.specs.Members.{object_of, texts_data}

-- a spec with its answer
abbrev pub answer_member : Text × Bool → Text × Data
answer_member e = (e.0, boolean e.1)

-- the members of a table
abbrev pub table_members : List (Text × Bool) → Bool → List (Text × Data)
table_members answers unknown_counts =
    (codes "unknown_counts", boolean unknown_counts)
    ∷ (codes "answers", object_of (map answer_member answers))
    ∷ []

-- a table
abbrev pub table_data : List (Text × Bool) → Bool → Data
table_data answers unknown_counts = object_of (table_members answers unknown_counts)

-- a binary's id with the names of its tests
abbrev pub listing_member : Text × List Text → Text × Data
listing_member e = (e.0, texts_data e.1)

-- listings
abbrev pub listings_data : List (Text × List Text) → Data
listings_data listings = object_of (map listing_member listings)

-- listings as `serde_json` writes them compactly, and a line feed
abbrev pub listings_line : List (Text × List Text) → Text
listings_line listings = compact_text (listings_data listings) ++ codes "\n"
