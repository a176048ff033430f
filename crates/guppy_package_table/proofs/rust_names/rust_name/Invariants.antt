use Rattle.std.proofs.Common.{◌≡◌, ◌++◌, string_bytes}
use Rattle.std.specs.Str.Iter.{chars_rest}
use Rattle.guppy_package_table.specs.LinkRows.{name_in_rust}
use Rattle.guppy_package_table.proofs.rust_names.rust_name.Given as goal

abbrev pub invariant-loop-letter : goal.invariant-loop-letter
invariant-loop-letter l = name_in_rust l.name ≡ string_bytes l.text ++ name_in_rust (chars_rest l.letters)
