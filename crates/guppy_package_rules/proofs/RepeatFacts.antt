-- Repeats of keys, by what the keys show.
use Rattle.std.proofs.Common.{◌≡◌, ◌+◌, Bool, List, [], ◌∷◌, ◌++◌, Some, map, refl, sym, ◌∙◌, ap, Bor, if◌then◌else◌}
use Rattle.std.specs.List.{list_any}
use Rattle.std.specs.Option.{option_map}
use Rattle.std.specs.Str.{bytes_eq}
use Rattle.std.proofs.lemmas.List.{map-append}
use Rattle.list_facts.proofs.Quantifiers.{list_any-map}
use Rattle.workspace_record.specs.Records.{Text}
use Rattle.guppy_package_rules.specs.Found.{lent_key}
use Rattle.guppy_package_rules.specs.Places.{first_place_after, first_repeat}
use Rattle.guppy_package_rules.specs.Rules.{same_key}

module _ {X Y : Type 0} (f : X → Y) (same : Y → Y → Bool) where
  repeat_after : (before xs : List X) → first_place_after (λ seen x. list_any (λ y. same (f x) (f y)) seen) before xs ≡ first_place_after (λ seen y. list_any (same y) seen) (map f before) (map f xs)
  repeat_after before [] = refl
  repeat_after before (x ∷ xs) =
      ap (λ b. if b then Some 0 else option_map (λ i. i + 1) (first_place_after (λ seen y. list_any (λ z. same (f y) (f z)) seen) (before ++ x ∷ []) xs)) (sym (list_any-map (same (f x)) f before)) ∙ ap (λ later. if list_any (same (f x)) (map f before) then Some 0 else option_map (λ i. i + 1) later) (repeat_after (before ++ x ∷ []) xs ∙ ap (λ seen. first_place_after (λ s y. list_any (same y) s) seen (map f xs)) (map-append f before (x ∷ [])))

  -- a repeat of elements is one of what they show
  pub first_repeat-map : (xs : List X) → first_repeat (λ a b. same (f a) (f b)) xs ≡ first_repeat same (map f xs)
  first_repeat-map xs = repeat_after [] xs

pub repeat_of_lent : (texts : List (Bor Text)) → first_repeat (λ a b. bytes_eq a.now b.now) texts ≡ first_repeat bytes_eq (map (λ t. t.now) texts)
repeat_of_lent texts = first_repeat-map (λ t. t.now) bytes_eq texts

pub repeat_of_keys : (keys : List (Bor Text × Bor Text × Bor Text)) → first_repeat (λ a b. same_key (lent_key a) (lent_key b)) keys ≡ first_repeat same_key (map lent_key keys)
repeat_of_keys keys = first_repeat-map lent_key same_key keys
