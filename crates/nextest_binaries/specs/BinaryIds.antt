-- The ids of test binaries, as nextest makes them.
use Rattle.std.specs.Prelude.{ℕ, List, ◌||◌, ◌++◌, codes, if◌then◌else◌}
use Rattle.std.specs.Str.{bytes_eq}

-- a test by its name, another target by its kind and name (from nextest's binary ids)
abbrev pub target_text : List ℕ → List ℕ → List ℕ
target_text kind name = if bytes_eq kind (codes "test") then name else kind ++ (codes "/" ++ name)

-- by the package for its library, else by package and target (from nextest's binary ids)
abbrev pub binary_id : List ℕ → List ℕ → List ℕ → List ℕ
binary_id package_name kind target_name =
    if bytes_eq kind (codes "lib") || bytes_eq kind (codes "proc-macro") then package_name
    else package_name ++ (codes "::" ++ target_text kind target_name)
