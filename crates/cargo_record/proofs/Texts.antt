-- Tests of texts, one by one.
use Rattle.std.proofs.Common.{◌≡◌, Bool, ◌&&◌, List, [], ◌∷◌, map, String, Global, string_bytes, refl, ap}
use Rattle.std.specs.List.{list_all}
use Rattle.workspace_record.specs.Records.{Text}

pub all_texts : (test : Text → Bool) (ss : List (String Global)) → list_all (λ s. test (string_bytes s)) ss ≡ list_all test (map string_bytes ss)
all_texts test [] = refl
all_texts test (s ∷ ss) = ap (λ b. test (string_bytes s) && b) (all_texts test ss)
