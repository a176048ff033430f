-- What contracts see of the code's test binaries.
use Rattle.test_select_rules.specs.Binaries.{Binary}
use Rattle.test_select_rules.specs.declared.test_binary.TestBinary.{TestBinary}

-- the id, and the package and the target that the binary points to
abbrev pub binary_view : TestBinary → Binary
binary_view b = record { id = b.id; owner = b.row.now; target = b.target.now }
