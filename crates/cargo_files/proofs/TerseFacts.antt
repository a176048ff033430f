-- Lines that list tests, one after the other.
use Rattle.std.proofs.Common.{◌≡◌, ◌++◌, ◌∷◌, [], ◌==◌, ◌+◌, ◌<◌, ℕ, List, Bool, true, false, true≢false, Bor, Global, Option, Some, None, IfSome, IfNone, String, is_some, length, get_or, map, take, string_bytes, sym, ap, refl, ◌∙◌, subst, codes, arith}
use Rattle.std.proofs.lemmas.Bool.Decides.{nat_tests}
use Rattle.std.proofs.lemmas.List.{append-nil, map-append}
use Rattle.list_facts.proofs.Lists.{map-take_more}
use Rattle.workspace_record.specs.Records.{Text}
use Rattle.cargo_files.specs.Terse.{ListTests, Takes, nothing, test, benchmark, empty}

-- lines behind lines list the tests of both
pub list_more : (xs ys ns ms : List Text) → ListTests xs ns → ListTests ys ms → ListTests (xs ++ ys) (ns ++ ms)
list_more xs ys ns ms nothing more = more
list_more xs ys ns ms (test {lines = rest} {names = names} name h) more = test name (list_more rest ys names ms h more)
list_more xs ys ns ms (benchmark {lines = rest} name h) more = benchmark name (list_more rest ys ns ms h more)
list_more xs ys ns ms (empty {lines = rest} h) more = empty (list_more rest ys ns ms h more)

-- a line of a test, of a benchmark, and an empty one
pub takes_test : (line name : Text) (old new : List Text) → line ≡ name ++ codes ": test" → new ≡ old ++ name ∷ [] → Takes line true old new
takes_test line name old new e f = (name ∷ [], subst (λ l. ListTests (l ∷ []) (name ∷ [])) (sym e) (test name nothing), f)

pub takes_benchmark : (line name : Text) (old new : List Text) → line ≡ name ++ codes ": benchmark" → new ≡ old → Takes line true old new
takes_benchmark line name old new e f = ([], subst (λ l. ListTests (l ∷ []) []) (sym e) (benchmark name nothing), f ∙ sym (append-nil old))

pub takes_empty : (line : Text) (old new : List Text) → line ≡ [] → new ≡ old → Takes line true old new
takes_empty line old new e f = ([], subst (λ l. ListTests (l ∷ []) []) (sym e) (empty nothing), f ∙ sym (append-nil old))

-- the tests of the lines so far, and of one more
pub takes_more : (xs : List Text) (line : Text) (old new : List Text) → ListTests xs old → Takes line true old new → ListTests (xs ++ line ∷ []) new
takes_more xs line old new h (names, more, e) = subst (ListTests (xs ++ line ∷ [])) (sym e) (list_more xs (line ∷ []) old names h more)

-- names behind which one more was pushed
pub pushed : (old new : List (String Global)) (x : String Global) (name : Text) → new ≡ old ++ x ∷ [] → string_bytes x ≡ name → map string_bytes new ≡ map string_bytes old ++ name ∷ []
pushed old new x name e f = ap (map string_bytes) e ∙ map-append string_bytes old (x ∷ []) ∙ ap (λ n. map string_bytes old ++ n ∷ []) f

pub takes_if_benchmark : (line : Text) (o : Option (Bor Text)) (b : Bool) (old : List Text) → IfSome o (λ front. line ≡ front.now ++ codes ": benchmark") → b ≡ is_some o → b ≡ true → Takes line b old old
takes_if_benchmark line (Some front) b old h is e = subst (λ t. Takes line t old old) (sym e) (takes_benchmark line front.now old old h refl)
takes_if_benchmark line None b old h is e = absurd (true≢false (sym e ∙ is))

is_nothing : (line : Text) (b : Bool) → b ≡ (length line == 0) → b ≡ true → line ≡ []
is_nothing [] b e t = refl
is_nothing (x ∷ line) b e t = absurd (grind (arith, nat_tests))

is_something : (line : Text) (b : Bool) → b ≡ (length line == 0) → b ≡ false → 0 < length line
is_something line b e t = grind (arith, nat_tests)

-- a line that is neither that of a test nor that of a benchmark: it is empty, or stray
pub takes_rest : (line : Text) (o p : Option (Bor Text)) (b c : Bool) (old : List Text) → IfNone o ((front : Text) → line ≡ front ++ codes ": test" → ⊥) → ((x : Bor Text) → o ≡ Some x → ⊥) → IfNone p ((front : Text) → line ≡ front ++ codes ": benchmark" → ⊥) → c ≡ is_some p → c ≡ false → b ≡ (length line == 0) → Takes line b old old
takes_rest line (Some x) p b c old h not_some k is e size = absurd (not_some x refl)
takes_rest line None (Some y) b c old h not_some k is e size = absurd (true≢false (sym is ∙ e))
takes_rest line None None true c old h not_some k is e size = takes_empty line old old (is_nothing line true size refl) refl
takes_rest line None None false c old h not_some k is e size =
    record { no_test = h; no_benchmark = k; some = is_something line false size refl }

-- the tests of the lines so far, and of the next
pub tests_more : (lines : List (Bor Text)) (place : ℕ) (d : Bor Text) (b : Bool) (old new : List Text) → place < length lines → b ≡ true → ListTests (map (λ line. line.now) (take place lines)) old → Takes (get_or lines place d).now b old new → ListTests (map (λ line. line.now) (take (place + 1) lines)) new
tests_more lines place d b old new lt e h t =
    subst (λ xs. ListTests xs new) (sym (map-take_more (λ line. line.now) lines place d lt)) (takes_more (map (λ line. line.now) (take place lines)) (get_or lines place d).now old new h (subst (λ x. Takes (get_or lines place d).now x old new) e t))
