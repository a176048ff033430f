use Rattle.workspace_record.specs.Records.{Link}
use Rattle.guppy_package_table.specs.declared.link_details.LinkDetails.{LinkDetails}

-- what contracts see of a link's details: its row
abbrev pub row_of : LinkDetails → Link
row_of details = details.row.now
