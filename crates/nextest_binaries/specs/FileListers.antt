-- What a `FileLister` shows.
use Rattle.list_facts.specs.Texts.{texts}
use Rattle.nextest_binaries.specs.Listers.{Shown, listing_in}
use Rattle.nextest_binaries.specs.declared.file_lister.FileLister.{FileLister}

abbrev pub shown_of : FileLister → Shown
shown_of lister = record { asked = texts lister.asked.items; failures = lister.failures; listing_of = listing_in lister.listings }
