-- How a run of the program ends.
use mathlib.Core.Bool.{true≢false}
use Rattle.std.proofs.Common.{◌≡◌, ◌∙◌, ◌++◌, ℕ, List, [], ap, ap₂, inl, inr, refl, subst, sym, true, Result, Ok, Err}
use Rattle.std.specs.Prelude.{Option, Some, None, IfErr, IsErrAnd, codes, is_some, option_map, unwrap_or}
use Rattle.clap.specs.Faults.{is_simple_and_free}
use Rattle.clap.specs.Words.{App, HasMatchesOf, Row, is_simple, subcommand_name_of, subcommand_of, subcommand_rows_of}
use Rattle.clap.specs.declared.parser.ArgMatches.{ArgMatches}
use Rattle.clap.proofs.OnLiterals.{clap_on_literals}
use Rattle.list_facts.specs.Writers.{Writes}
use Rattle.workspace_record.specs.Records.{Text}
use Rattle.cargo_workspace.specs.Failures.{IsBadLine}
use Rattle.cargo_workspace.specs.Files.{Answer, Asks}
use Rattle.cargo_workspace.specs.Maker.{maker}
use Rattle.cargo_workspace.specs.Running.{EndsRun, Makes, MakesAsked, MakesIfAny, conversion_named}
use Rattle.cargo_workspace.specs.declared.conversions.Conversion.{Conversion}
use Rattle.cargo_workspace.specs.declared.failure.Failure.{Failure}
use Rattle.cargo_workspace.specs.declared.failure.Failure.TheVariants.{CannotWrite, Memory}
use Rattle.cargo_workspace.proofs.ReadingFacts.{asks_none, asks_such}

-- ---- what is printed

module _ {R : List ℕ → Text → Answer → List ℕ → Type 0} {s t : List ℕ} (below : Option (Text × List Row)) where
  -- a text was made and printed
  pub printed_ends : (text : Text) (result : Result (Unit {0}) Failure) (old new : Option Text) → Asks R s t (MakesAsked below (Ok text)) → Writes old new result (text ++ codes "\n") → IfErr result (λ f. f ≡ CannotWrite) → Asks R s t (EndsRun below result old new)
  printed_ends text result old new asks writes fails = asks_such asks (λ a h. inr (record { made = Ok text; makes = h; prints = (writes, fails) }))

  -- none was made
  pub unmade_ends : (f : Failure) (result : Result (Unit {0}) Failure) (old : Option Text) → IsErrAnd result (λ g. g ≡ f) → Asks R s t (MakesAsked below (Err f)) → Asks R s t (EndsRun below result old old)
  unmade_ends f (Ok x) old is asks = absurd is
  unmade_ends f (Err g) old is asks = asks_such asks (λ a h. inr (record { made = Err f; makes = h; prints = (ap (λ (f : Failure). Err f) is, refl) }))

module _ {R : List ℕ → Text → Answer → List ℕ → Type 0} {s : List ℕ} (below : Option (Text × List Row)) where
  -- memory ran out before
  pub memory_ends : (result : Result (Unit {0}) Failure) (old new : Option Text) → result ≡ Err Memory → new ≡ old → Asks R s s (EndsRun below result old new)
  memory_ends result old new is same = asks_none (inl (is, same, refl))

-- ---- the conversion that the words name

-- two parts of a value
abbrev both : {X A B : Type 0} → (X → A) → (X → B) → X → A × B
both f h x = (f x, h x)

-- a value of which both are known
both_of : {X A B : Type 0} (f : X → A) (h : X → B) (o : Option X) (a : A) (b : B) → Some a ≡ option_map f o → Some b ≡ option_map (λ (p : A × B). p.1) (option_map (both f h) o) → option_map (both f h) o ≡ Some (a, b)
both_of f h (Some x) a b p q = sym (ap₂ (λ y z. Some (y, z)) (ap (λ o. unwrap_or o a) p) (ap (λ o. unwrap_or o b) q))
both_of f h None a b p q = absurd (true≢false (ap is_some p))

module _ (m : ArgMatches) (name : Text) (words : List Row) (named : Some name ≡ subcommand_name_of m) (behind : Some words ≡ option_map (λ (p : Text × List Row). p.1) (subcommand_rows_of m)) (made : Result Text Failure) where
  below_is : subcommand_rows_of m ≡ Some (name, words)
  below_is = both_of _ _ _ name words named behind

  module _ {R : List ℕ → Text → Answer → List ℕ → Type 0} {s t : List ℕ} where
    -- is made
    pub asked_makes : (c : Conversion) → Some c ≡ conversion_named name → Asks R s t (Makes c words made) → Asks R s t (MakesAsked (subcommand_rows_of m) made)
    asked_makes c found makes =
        asks_such makes (λ a h. subst (λ (o : Option (Text × List Row)). MakesAsked o made a) (sym below_is)
        (subst (λ (o : Option Conversion). MakesIfAny o words made a) found h))

  module _ {R : List ℕ → Text → Answer → List ℕ → Type 0} {s : List ℕ} where
    -- there is none with this name
    pub none_makes : None ≡ conversion_named name → made ≡ Ok [] → Asks R s s (MakesAsked (subcommand_rows_of m) made)
    none_makes found is =
        asks_none (subst (λ (o : Option (Text × List Row)). MakesAsked o made []) (sym below_is)
        (subst (λ (o : Option Conversion). MakesIfAny o words made []) found (is, refl)))

-- ---- what words mean

-- the matches of the program's words are those that `clap` gives
maker_is_simple : is_simple maker ≡ true
unfolding clap_on_literals
maker_is_simple = refl

-- and so are its faults
pub maker_is_free : is_simple_and_free maker ≡ true
unfolding clap_on_literals
maker_is_free = refl

-- what a command line that is taken asks for
pub below_are : (a : App) (words : List Text) (m : ArgMatches) → a ≡ maker → HasMatchesOf a words m → subcommand_rows_of m ≡ subcommand_of maker words
below_are a words m is h = (h (ap is_simple is ∙ maker_is_simple)).1 ∙ ap (λ (x : App). subcommand_of x words) is

module _ {R : List ℕ → Text → Answer → List ℕ → Type 0} {s t : List ℕ} where
  -- the end of a run by the words that were parsed
  pub ends_as : (below asked : Option (Text × List Row)) (result : Result (Unit {0}) Failure) (old new : Option Text) → below ≡ asked → Asks R s t (EndsRun below result old new) → Asks R s t (EndsRun asked result old new)
  ends_as below asked result old new same ends = subst (λ (w : Option (Text × List Row)). Asks R s t (EndsRun w result old new)) same ends

-- want of memory refuses words too
pub memory_refuses : (result : Result (Unit {0}) Failure) → IsErrAnd result (λ f. f ≡ Memory) → IsErrAnd result IsBadLine
memory_refuses (Ok x) is = absurd is
memory_refuses (Err f) is = inl is
