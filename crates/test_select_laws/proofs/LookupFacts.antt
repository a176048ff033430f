-- What a map has under a text is found in the list of its entries as texts.
use Rattle.std.proofs.Common.{◌≡◌, Bool, true, false, cond, List, [], ◌∷◌, Option, Some, None, map, option_map, refl, sym, ◌∙◌, ap, string_bytes}
use Rattle.std.specs.Map.{lookup}
use Rattle.std.specs.Str.{bytes_eq}
use Rattle.workspace_record.specs.Records.{Text}
use Rattle.workspace_record.specs.Tables.{answer, answered}
use Rattle.workspace_record.specs.declared.choice.PlatformTable.{PlatformTable}
use Rattle.test_select_laws.specs.Tables.{HaveOneAnswer}

-- the first, if it is the one, or else what is found behind it
first_or : {X Y : Type 0} (shows : X → Y) (x : X) (o : Option X) (p : Option Y) (b : Bool) → option_map shows o ≡ p → option_map shows (cond b (Some x) o) ≡ cond b (Some (shows x)) p
first_or shows x o p true same = refl
first_or shows x o p false same = same

-- entries as they are shown
abbrev pub shown : {K X Y : Type 0} → (K → Text) → (X → Y) → List (K × X) → List (Text × Y)
shown {K} {X} {Y} key shows = map {B = Text × Y} (λ e. (key e.0, shows e.1))

-- a value that is found is found, as it is shown, among the entries as they are shown
pub lookup_shown : {K X Y : Type 0} (is : Text → Bool) (key : K → Text) (shows : X → Y) (entries : List (K × X)) → option_map shows (lookup (λ k. is (key k)) entries) ≡ lookup is (shown key shows entries)
lookup_shown is key shows [] = refl
lookup_shown is key shows (e ∷ entries) =
    first_or shows e.1 (lookup (λ k. is (key k)) entries) (lookup is (shown key shows entries)) (is (key e.0)) (lookup_shown is key shows entries)

-- two lists of entries that are shown alike answer alike
pub lookup_alike : {K X Y : Type 0} (is : Text → Bool) (key : K → Text) (shows : X → Y) (one other : List (K × X)) → shown key shows one ≡ shown key shows other → option_map shows (lookup (λ k. is (key k)) one) ≡ option_map shows (lookup (λ k. is (key k)) other)
lookup_alike is key shows one other same =
    lookup_shown is key shows one ∙ ap (lookup is) same ∙ sym (lookup_shown is key shows other)

as_it_is : {X : Type 0} (o : Option X) → option_map (λ x. x) o ≡ o
as_it_is None = refl
as_it_is (Some x) = refl

pub alike_by_entries : (t u : PlatformTable) → answered t ≡ answered u → t.unknown_counts ≡ u.unknown_counts → HaveOneAnswer t u
alike_by_entries t u same unknown = record {
  answers = λ spec. sym (as_it_is (answer t spec)) ∙ lookup_alike (bytes_eq spec) string_bytes (λ (b : Bool). b) t.answers.entries u.answers.entries same ∙ as_it_is (answer u spec);
  unknown_counts = unknown;
}
