-- What `clap` is told of the program, and the task with a name.
use Rattle.std.proofs.Common.{◌≡◌, ◌∙◌, ◌∷◌, [], ℕ, ◌+◌, ◌<◌, Bool, false, List, length, map, ap, codes, cond, find, get_or, refl, take, true, None, Some, Result, Ok, Err, Bor}
use Rattle.std.specs.Prelude.{IfOk}
use Rattle.std.specs.Option.{option_or}
use Rattle.std.specs.declared.alloc.AllocError.{AllocError}
use Rattle.std.proofs.lemmas.List.{take_more}
use Rattle.std.proofs.lemmas.List.Folds.{find-append}
use Rattle.clap.proofs.OnLiterals.{clap_on_literals}
use Rattle.clap.specs.Faults.{is_simple_and_free}
use Rattle.clap.specs.Words.{Text, app_of, is_simple}
use Rattle.clap.specs.declared.builder.Command.{Command}
use Rattle.test_select_files.specs.Apps.{Lent, one_among}
use Rattle.test_select.specs.Tasks.{IsSelector, selector_by}

-- the command that was built is the program's
pub is_selector : (formats : Lent) (result : Result Command AllocError) → IfOk result (λ c. app_of c ≡ selector_by (one_among formats (codes "format"))) → map (λ (t : Bor Text). t.now) formats.now ≡ codes "lines" ∷ codes "json" ∷ [] → IfOk result (λ c. IsSelector (app_of c))
is_selector formats (Ok c) told named = record { formats = formats; named = named; told = told }
is_selector formats (Err e) told named = told

-- the matches of the program's words are those that `clap` gives
pub selector_is_simple : (formats : Lent) → is_simple (selector_by (one_among formats (codes "format"))) ≡ true
unfolding clap_on_literals
selector_is_simple formats = refl

-- and so are its faults
pub selector_is_free : (formats : Lent) → is_simple_and_free (selector_by (one_among formats (codes "format"))) ≡ true
unfolding clap_on_literals
selector_is_free formats = refl

module _ {X : Type 0} (p : X → Bool) where
  -- nothing is found where one more is none either
  pub none_more : (xs : List X) (i : ℕ) (d : X) → i < length xs → find p (take i xs) ≡ None → p (get_or xs i d) ≡ false → find p (take (i + 1) xs) ≡ None
  none_more xs i d below none unlike =
      ap (find p) (take_more xs i d below)
      ∙ find-append p (take i xs) (get_or xs i d ∷ [])
      ∙ ap (λ o. option_or o (cond (p (get_or xs i d)) (Some (get_or xs i d)) None)) none
      ∙ ap (λ b. cond b (Some (get_or xs i d)) None) unlike
