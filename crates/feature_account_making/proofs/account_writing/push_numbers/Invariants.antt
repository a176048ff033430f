use Rattle.std.proofs.Common.{◌≡◌, ◌++◌, codes, decimal, string_bytes, take}
use Rattle.std.specs.List.{flat_map}
use Rattle.feature_account_making.proofs.account_writing.push_numbers.Given as goal

abbrev pub invariant-loop-number : goal.invariant-loop-number
invariant-loop-number l = string_bytes l.text ≡ string_bytes l.initial.text ++ flat_map (λ n. codes "," ++ decimal n) (take l.number-index l.others)
