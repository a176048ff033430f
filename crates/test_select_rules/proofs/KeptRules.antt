-- What a record that breaks no rule is like.
use Rattle.std.proofs.Common.{◌≡◌, ◌≢◌, ℕ, ◌<◌, List, length, get_or, Option, Some, None, AllPairs, Contains, sym, ◌∙◌, ◌⊎◌, ⊎_elim, ap, subst, arith}
use Rattle.std.specs.Option.{option_or}
use Rattle.std.specs.Str.{bytes_eq}
use Rattle.std.proofs.lemmas.List.{get_or_default}
use Rattle.std.proofs.lemmas.Slice.Eq.{bytes_eq-Decides}
use Rattle.workspace_record.specs.Records.{Text, Workspace}
use Rattle.guppy_package_rules.specs.Rules.{first_broken, package_rules, first_fault}
use Rattle.guppy_package_rules.proofs.KeptFacts.{fault_iff, mapped_iff}
use Rattle.test_select_rules.specs.Binaries.{Binary, binaries}
use Rattle.test_select_rules.specs.RecordRules.{further_broken, further_rules, fault_of}

neither : {A : Type 0} (a b : Option A) → option_or a b ≡ None → b ≡ None
neither None b e = e
neither (Some x) b e = absurd cc

three_ways : (i j : ℕ) → (i < j) ⊎ ((i ≡ j) ⊎ (j < i))
three_ways i j = grind arith

-- where no two elements have one text, what has the text is told by it
module _ {X : Type 0} (f : X → Text) (xs : List X) (apart : AllPairs (λ a b. f a ≢ f b) xs) where
  differ : (a b : X) (i j : ℕ) → i < j → j < length xs → get_or xs i a ≡ a → get_or xs j b ≡ b → f a ≡ f b → ⊥
  differ a b i j lt within first second e =
      apart i j a lt within (ap f first ∙ e ∙ ap f (sym second ∙ get_or_default xs j b a within))

  pub told_by : (a b : X) → Contains xs a → Contains xs b → f a ≡ f b → a ≡ b
  told_by a b first second e =
      ⊎_elim (λ lt. absurd (differ a b first.0 second.0 lt second.1 first.2 second.2 e)) (λ rest. ⊎_elim (λ same. sym first.2 ∙ get_or_default xs first.0 a b first.1 ∙ subst (λ k. get_or xs k b ≡ b) (sym same) second.2) (λ lt. absurd (differ b a second.0 first.0 lt first.1 second.2 first.2 (sym e))) rest) (three_ways first.0 second.0)

-- its binaries are told apart by their ids
pub binaries_told_apart : (w : Workspace) → fault_of w ≡ None → (a b : Binary) → Contains (binaries w) a → Contains (binaries w) b → a.id ≡ b.id → a ≡ b
binaries_told_apart w kept =
    let further = neither (first_fault (first_broken w.packages w.links w.workspace) package_rules) (first_fault (further_broken w) further_rules) kept in
    let each = (fault_iff (further_broken w) further_rules).0 further in
    told_by (λ b. b.id) (binaries w) ((mapped_iff (λ (b : Binary). b.id) bytes_eq (λ t. t) bytes_eq-Decides (binaries w)).0 each.1.1.0)
