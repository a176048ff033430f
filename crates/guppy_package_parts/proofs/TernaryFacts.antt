-- The order of the three answers, and the greatest of a list.
use Rattle.std.proofs.Common.{◌≡◌, ℕ, ◌+◌, ◌<◌, Bool, Option, Some, None, min, max, List, [], ◌∷◌, ◌++◌, length, get_or, take, map, refl, sym, ◌∙◌, ap}
use Rattle.std.proofs.lemmas.List.{map-append, take_more}
use Rattle.guppy_package_parts.specs.declared.enabled_ternary.EnabledTernary.{EnabledTernary}
use Rattle.guppy_package_parts.specs.declared.enabled_ternary.EnabledTernary.TheVariants.{Disabled, Unknown, Enabled}
use Rattle.guppy_package_parts.specs.Ternaries.{greater, greatest, lesser, rank_of, ternary_of}
use Rattle.guppy_package_parts.specs.Statuses.{AskedPlatforms, spec_answer, status_of}
use Rattle.workspace_record.specs.Records.{Text}

pub greater-Disabled : (x : EnabledTernary) → greater Disabled x ≡ x
greater-Disabled Disabled = refl
greater-Disabled Unknown = refl
greater-Disabled Enabled = refl

pub greater-none : (x : EnabledTernary) → greater x Disabled ≡ x
greater-none Disabled = refl
greater-none Unknown = refl
greater-none Enabled = refl

pub greater-Enabled : (x : EnabledTernary) → greater Enabled x ≡ Enabled
greater-Enabled Disabled = refl
greater-Enabled Unknown = refl
greater-Enabled Enabled = refl

pub greater-all : (x : EnabledTernary) → greater x Enabled ≡ Enabled
greater-all Disabled = refl
greater-all Unknown = refl
greater-all Enabled = refl

pub greater_assoc : (x y z : EnabledTernary) → greater x (greater y z) ≡ greater (greater x y) z
greater_assoc Disabled y z = greater-Disabled (greater y z) ∙ ap (λ w. greater w z) (sym (greater-Disabled y))
greater_assoc Enabled y z = greater-Enabled (greater y z) ∙ sym (ap (λ w. greater w z) (greater-Enabled y) ∙ greater-Enabled z)
greater_assoc Unknown Disabled z = ap (greater Unknown) (greater-Disabled z)
greater_assoc Unknown Enabled z = ap (greater Unknown) (greater-Enabled z) ∙ sym (greater-Enabled z)
greater_assoc Unknown Unknown Disabled = refl
greater_assoc Unknown Unknown Unknown = refl
greater_assoc Unknown Unknown Enabled = refl

-- one more at the end
pub greatest-push : (xs : List EnabledTernary) (x : EnabledTernary) → greatest (xs ++ x ∷ []) ≡ greater (greatest xs) x
greatest-push [] x = greater-none x ∙ sym (greater-Disabled x)
greatest-push (y ∷ xs) x = ap (greater y) (greatest-push xs x) ∙ greater_assoc y (greatest xs) x

-- one more of a list
pub greatest-map_more : {X : Type 0} (f : X → EnabledTernary) (xs : List X) (i : ℕ) (d : X) → i < length xs → greatest (map f (take (i + 1) xs)) ≡ greater (greatest (map f (take i xs))) (f (get_or xs i d))
greatest-map_more f xs i d lt =
    ap (λ ys. greatest (map f ys)) (take_more xs i d lt) ∙ ap greatest (map-append f (take i xs) (get_or xs i d ∷ [])) ∙ greatest-push (map f (take i xs)) (f (get_or xs i d))

pub lesser-rank : (a b : EnabledTernary) → rank_of (lesser a b) ≡ min (rank_of a) (rank_of b)
lesser-rank Disabled Disabled = refl
lesser-rank Disabled Unknown = refl
lesser-rank Disabled Enabled = refl
lesser-rank Unknown Disabled = refl
lesser-rank Unknown Unknown = refl
lesser-rank Unknown Enabled = refl
lesser-rank Enabled Disabled = refl
lesser-rank Enabled Unknown = refl
lesser-rank Enabled Enabled = refl

pub greater-rank : (a b : EnabledTernary) → rank_of (greater a b) ≡ max (rank_of a) (rank_of b)
greater-rank Disabled Disabled = refl
greater-rank Disabled Unknown = refl
greater-rank Disabled Enabled = refl
greater-rank Unknown Disabled = refl
greater-rank Unknown Unknown = refl
greater-rank Unknown Enabled = refl
greater-rank Enabled Disabled = refl
greater-rank Enabled Unknown = refl
greater-rank Enabled Enabled = refl

greater_comm : (a b : EnabledTernary) → greater a b ≡ greater b a
greater_comm Disabled b = greater-Disabled b ∙ sym (greater-none b)
greater_comm Enabled b = greater-Enabled b ∙ sym (greater-all b)
greater_comm Unknown Disabled = refl
greater_comm Unknown Unknown = refl
greater_comm Unknown Enabled = refl

-- four, two and two
greater_swap : (a b c d : EnabledTernary) → greater (greater a b) (greater c d) ≡ greater (greater a c) (greater b d)
greater_swap a b c d =
    sym (greater_assoc a b (greater c d)) ∙ ap (greater a) (greater_assoc b c d ∙ ap (λ x. greater x d) (greater_comm b c) ∙ sym (greater_assoc c b d)) ∙ greater_assoc a c (greater b d)

pub greatest-append : (xs ys : List EnabledTernary) → greatest (xs ++ ys) ≡ greater (greatest xs) (greatest ys)
greatest-append [] ys = sym (greater-Disabled (greatest ys))
greatest-append (x ∷ xs) ys = ap (greater x) (greatest-append xs ys) ∙ greater_assoc x (greatest xs) (greatest ys)

answer-join : (xs ys : List (Text → Option Bool)) (spec : Option Text) → spec_answer (AskedPlatforms (xs ++ ys)) spec ≡ greater (spec_answer (AskedPlatforms xs) spec) (spec_answer (AskedPlatforms ys) spec)
answer-join xs ys None = refl
answer-join xs ys (Some spec) =
    ap greatest (map-append (λ answer. ternary_of (answer spec)) xs ys) ∙ greatest-append (map (λ answer. ternary_of (answer spec)) xs) (map (λ answer. ternary_of (answer spec)) ys)

-- two lists of platforms together
pub status_of-join : (xs ys : List (Text → Option Bool)) (specs : List (Option Text)) → status_of (AskedPlatforms (xs ++ ys)) specs ≡ greater (status_of (AskedPlatforms xs) specs) (status_of (AskedPlatforms ys) specs)
status_of-join xs ys [] = refl
status_of-join xs ys (spec ∷ specs) =
    (λ i. greater (answer-join xs ys spec i) (status_of-join xs ys specs i)) ∙ greater_swap (spec_answer (AskedPlatforms xs) spec) (spec_answer (AskedPlatforms ys) spec) (status_of (AskedPlatforms xs) specs) (status_of (AskedPlatforms ys) specs)

-- the step of a loop that keeps the greatest so far
pub greatest_step : {X : Type 0} (f : X → EnabledTernary) (xs : List X) (i : ℕ) (x : X) (old answer : EnabledTernary) → i < length xs → x ≡ get_or xs i x → old ≡ greatest (map f (take i xs)) → answer ≡ f x → greater old answer ≡ greatest (map f (take (i + 1) xs))
greatest_step f xs i x old answer lt is before e =
    (λ j. greater (before j) ((e ∙ ap f is) j)) ∙ sym (greatest-map_more f xs i x lt)
