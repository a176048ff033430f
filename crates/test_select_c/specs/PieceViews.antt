-- What contracts see of lent words and files.
use Rattle.std.specs.Borrow.{Bor}
use Rattle.std.specs.Global.{Global}
use Rattle.std.specs.Prelude.{List, Option, Vec, map, option_map, ℕ}
use Rattle.test_select_c.specs.Pieces.{File}
use Rattle.test_select_files.specs.declared.ListedFile.{ListedFile}

abbrev pub file_view : ListedFile → File
file_view file = record { name = file.name.now; content = file.bytes.now }

abbrev pub words_found : Option (Vec (Bor (List ℕ)) Global) → Option (List (List ℕ))
words_found found = option_map (λ words. map (λ word. word.now) words.items) found

abbrev pub files_found : Option (Vec ListedFile Global) → Option (List File)
files_found found = option_map (λ files. map file_view files.items) found
