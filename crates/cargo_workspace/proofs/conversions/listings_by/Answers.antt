use Rattle.std.proofs.Common.{◌∙◌, String, Vec, false, map, string_bytes, sym, true}
use Rattle.std.specs.Global.{Global}
use Rattle.clap.specs.Words.{found_of, rows_of}
use Rattle.cargo_files.specs.Added.{listing}
use Rattle.cargo_workspace.specs.Reading.{shown}
use Rattle.cargo_workspace.proofs.ConversionFacts.{lists_as}
use Rattle.cargo_workspace.proofs.conversions.listings_by.Goals as goal

pub returns-then-is_given-clause-reads : goal.returns-then-is_given-clause-reads
returns-then-is_given-clause-reads g c =
    lists_as (rows_of (found_of c.args.asked.now)) true c.is_given-built.result c.required-lists.result.now (map string_bytes c.args.ids.now) (shown (λ (v : Vec (String Global × Vec (String Global) Global) Global). map listing v.items) c.listings_of_nextest.result)
    (sym c.if-is_given.true ∙ c.is_given.ensures.given) c.is_given-built.ensures.given c.required-lists.ensures.value c.listings_of_nextest.ensures.reads

pub returns-else-is_given-clause-reads : goal.returns-else-is_given-clause-reads
returns-else-is_given-clause-reads g c =
    lists_as (rows_of (found_of c.args.asked.now)) false c.is_given-built.result c.required-lists.result.now (map string_bytes c.args.ids.now) (shown (λ (v : Vec (String Global × Vec (String Global) Global) Global). map listing v.items) c.listings_in_folder.result)
    (sym c.if-is_given.false ∙ c.is_given.ensures.given) c.is_given-built.ensures.given c.required-lists.ensures.value c.listings_in_folder.ensures.reads
