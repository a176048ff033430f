use Rattle.std.proofs.Common.{◌∙◌, ap, map}
use Rattle.serde_json.specs.Data.{object}
use Rattle.serde_json.proofs.Views.{view-Object}
use Rattle.record_files.specs.Listings.{listing, listings_file}
use Rattle.record_writing.specs.Files.{ReadAsListings}
use Rattle.record_writing.specs.Maps.{listings_data}
use Rattle.record_writing.proofs.Depths.{listings_depth}
use Rattle.record_writing.proofs.Entries.{by_name}
use Rattle.record_writing.proofs.MapFacts.{listings_read}
use Rattle.record_writing.proofs.NameFacts.{by_name_ascends, last_by_name}
use Rattle.record_writing.proofs.WrittenFacts.{reads_so}
use Rattle.record_writing.proofs.listings.listings_text.Goals as goal

pub returns : goal.returns
returns c =
    let given = map listing c.args.listings.now in
    record {
      reads = reads_so listings_file (listings_data given) _ (by_name given) c.to_string_pretty.result (ReadAsListings given) (listings_read given) (listings_depth given) (view-Object _ ∙ ap object c.in_ok-listings_object.ensures) c.to_string_pretty.ensures.reads_back
          (λ text reads. record {
            listings = by_name given;
            reads = reads;
            ascend = by_name_ascends given;
            tests = λ id. last_by_name id given;
          });
    }
