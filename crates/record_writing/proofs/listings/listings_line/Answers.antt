use Rattle.std.proofs.Common.{◌≡◌, ◌∙◌, ◌≤◌, ◌∷◌, ◌++◌, [], ap, map, subst, sym, Some, string_bytes}
use Rattle.std.proofs.lemmas.Str.{IsUtf8-string_bytes}
use Rattle.serde_json.specs.Data.{depth, object}
use Rattle.serde_json.specs.Read.{max_depth, read}
use Rattle.serde_json.specs.Written.{compact_text, has_float}
use Rattle.serde_json.specs.declared.value.Value.{Object}
use Rattle.serde_json.specs.View.{view}
use Rattle.serde_json.proofs.Views.{view-Object}
use Rattle.record_files.specs.Listings.{listing}
use Rattle.record_writing.specs.Maps.{listings_data, listings_line}
use Rattle.record_writing.proofs.Depths.{listings_depth}
use Rattle.record_writing.proofs.Entries.{by_name}
use Rattle.record_writing.proofs.LineFacts.{listings_no_float, read-line}
use Rattle.record_writing.proofs.MapFacts.{listings_read}
use Rattle.record_writing.proofs.NameFacts.{by_name_ascends, last_by_name}
use Rattle.record_writing.proofs.listings.listings_line.Goals as goal

pub returns : goal.returns
returns c =
    let given = map listing c.args.listings.now in
    let value = view (Object c.in_ok-listings_object.field-0) in
    let is : value ≡ listings_data given = view-Object _ ∙ ap object c.in_ok-listings_object.ensures in
    let text : string_bytes c.in_ok-line.line ≡ compact_text (listings_data given) = c.in_ok-line.ensures.text (ap has_float is ∙ listings_no_float given) ∙ ap compact_text is in
    let line : string_bytes c.push_str.new.self ≡ listings_line given = c.in_ok-push_str.ensures.bytes ∙ ap (λ t. t ++ 10 ∷ []) text in
    let back : read (string_bytes c.in_ok-line.line) ≡ Some (listings_data given) = c.in_ok-line.ensures.reads_back (subst (λ d. depth d ≤ max_depth) (sym is) (listings_depth given)) ∙ ap Some is in
    record {
      line = line;
      reads = record {
        listings = by_name given;
        reads = record {
          value = listings_data given;
          text = IsUtf8-string_bytes c.push_str.new.self;
          reading = ap read line ∙ read-line given ∙ ap read (sym text) ∙ back;
          shape = listings_read given;
        };
        ascend = by_name_ascends given;
        tests = λ id. last_by_name id given;
      };
    }
