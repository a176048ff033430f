-- Which links a table has.
use Rattle.std.specs.Prelude.{List}
use Rattle.workspace_record.specs.Records.{Link}
use Rattle.guppy_package_table.specs.declared.table_links.TableLinks.{TableLinks}
use Rattle.guppy_package_table.specs.declared.table_links.TableLinks.TheVariants.{OfRecord, Others}

-- the links of a table over a record that has these: they, or others in their place
abbrev pub links_of : List Link → TableLinks → List Link
links_of links OfRecord = links
links_of links (Others others) = others.items
