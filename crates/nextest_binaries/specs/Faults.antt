-- What faults of listings print.
use Rattle.std.specs.Prelude.{List, ℕ, codes}
use Rattle.nextest_binaries.specs.declared.fault.ListingFault.{ListingFault}
use Rattle.nextest_binaries.specs.declared.fault.ListingFault.TheVariants.{LineFeed, RepeatedName}

-- why a listing is not well-formed
abbrev pub fault_text : ListingFault → List ℕ
fault_text LineFeed = codes "line feed"
fault_text RepeatedName = codes "repeated name"
