use Rattle.std.proofs.Common.{◌≡◌, [], filter, map, slice_index_or, take}
use Rattle.list_facts.specs.Texts.{texts}
use Rattle.feature_account.specs.Accounts.{concluded_set}
use Rattle.feature_account_rules.specs.RuleList.{base_of}
use Rattle.test_select_features.proofs.dependency_orders.ids_on.Given as goal

abbrev pub invariant-loop-place : goal.invariant-loop-place
invariant-loop-place l = texts l.on.items ≡ filter (λ id. concluded_set l.features (base_of id)) (map (λ p. slice_index_or l.ids p []) (take l.place-index l.places))
