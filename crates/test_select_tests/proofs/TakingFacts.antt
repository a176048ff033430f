-- Listings that are taken out of a map for the binaries of a plan.
use Rattle.std.proofs.Common.{◌≡◌, List, None, Result, Ok, Err, String, Vec, subst, sym}
use Rattle.std.specs.Global.{Global}
use Rattle.std.specs.List.Sorted.{IsStrictlySortedBy}
use Rattle.std.specs.Prelude.{IsErrAnd}
use Rattle.list_facts.specs.Ascending.{text_cmp}
use Rattle.workspace_record.specs.Records.{Text}
use Rattle.nextest_binaries.specs.Asking.{FailedAt, IsFirstAt, ListsEach, TakesEach}
use Rattle.nextest_binaries.specs.Listers.{Shown, HeldListings, listing_in, unasked}
use Rattle.nextest_binaries.specs.declared.fault.AskError.{AskError}
use Rattle.nextest_binaries.proofs.Asking.{asked_nothing}
use Rattle.nextest_binaries.proofs.Repeats.{ascending_apart}
use Rattle.test_select_rules.specs.Binaries.{Binary}
use Rattle.test_select_checks.specs.declared.select_error.SelectError.{SelectError}
use Rattle.test_select_checks.specs.declared.select_error.SelectError.TheVariants.{Lister, Memory}
use Rattle.test_select_tests.specs.Choosing.{BlamesAt, BlamesUnlisted, CarriesOut}
use Rattle.test_select_tests.specs.Selections.{Selected}

module _ (listings : HeldListings) where
  -- the ids ascend, so the one that is blamed was not taken before
  pub blames_unlisted : {B : Type 0} (ids : List Text) (taken : Result (Vec (Vec (String Global) Global) Global) AskError) (left : HeldListings) (result : Result B SelectError) → IsStrictlySortedBy text_cmp ids → TakesEach listings ids taken left → BlamesAt ids taken result → BlamesUnlisted listings result
  blames_unlisted ids taken left result ascending takes blames id blamed =
      let at = blames id blamed in
      let failed : FailedAt (unasked listings) ids at.0 takes.after = subst (λ r. ListsEach (unasked listings) ids r takes.after) at.1 takes.lists in
      let first : IsFirstAt ids at.0 = λ j before. ascending_apart ids j at.0 ascending before failed.within in
      subst (λ t. listing_in listings t ≡ None) at.2 (takes.missing at.0 at.1 first)

  -- memory ran out before any was taken
  pub memory_carries : (holds : Binary → Text → Type 0) (asked : List Binary) (result : Result Selected SelectError) → IsErrAnd result (λ e. e ≡ Memory) → (after : Shown) × CarriesOut holds asked (unasked listings) result after
  memory_carries holds asked (Ok s) is = absurd is
  memory_carries holds asked (Err e) is = subst (λ (e : SelectError). (after : Shown) × CarriesOut holds asked (unasked listings) (Err e) after) (sym is) (unasked listings, asked_nothing (unasked listings) _)

  pub memory_blames : {B : Type 0} (result : Result B SelectError) → IsErrAnd result (λ e. e ≡ Memory) → BlamesUnlisted listings result
  memory_blames (Ok s) is id same = absurd is
  memory_blames (Err e) is id same =
      let lister : e ≡ Lister id = cc in
      absurd cc
