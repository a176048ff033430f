-- Where the refused patterns of a list lie, after a fault more.
use Rattle.std.proofs.Common.{◌≡◌, ◌∙◌, ℕ, ◌+◌, ◌<◌, Bool, true, false, not, cond, List, [], ◌∷◌, ◌++◌, length, map, refl, sym, ap, arith}
use Rattle.std.proofs.lemmas.List.{append-nil, append_assoc, length-map, map-append}
use Rattle.std.proofs.lemmas.List.Elements.{filter-append}
use Rattle.std.proofs.lemmas.List.Sums.{length-filter, sum_by-cons}
use Rattle.std.specs.List.{count_by, filter}
use Rattle.nextest_filter_matchers.specs.declared.source_span.SourceSpan.{SourceSpan}
use Rattle.nextest_filter_tokens.specs.Faults.{is_pattern_fault, span_of}
use Rattle.nextest_filter_tokens.specs.declared.parse_error.ParseSingleError.{ParseSingleError}
use Rattle.nextest_filter_tokens.specs.FaultLists.{AreSomeOf, kept, left_out, none, pattern_faults, pattern_spans, syntax_faults}
use Rattle.nextest_filter_tokens.specs.ReadingSteps.{IsClean, RefusesSomeOf}
use Rattle.nextest_filter_tokens.specs.declared.fault_list.FaultList.{FaultList}

spans_push : (faults : List ParseSingleError) (f : ParseSingleError) → pattern_spans (faults ++ f ∷ []) ≡ pattern_spans faults ++ map span_of (cond (is_pattern_fault f) (f ∷ []) [])
spans_push faults f =
    ap (map span_of) (filter-append is_pattern_fault faults (f ∷ [])) ∙ map-append span_of (filter is_pattern_fault faults) (filter is_pattern_fault (f ∷ []))

-- a fault of another kind adds none
pub spans_same : (faults : List ParseSingleError) (f : ParseSingleError) → is_pattern_fault f ≡ false → pattern_spans (faults ++ f ∷ []) ≡ pattern_spans faults
spans_same faults f other =
    spans_push faults f ∙ ap (λ b. pattern_spans faults ++ map span_of (cond b (f ∷ []) [])) other ∙ append-nil (pattern_spans faults)

-- that of a refused pattern adds its own
pub spans_more : (faults : List ParseSingleError) (f : ParseSingleError) → is_pattern_fault f ≡ true → pattern_spans (faults ++ f ∷ []) ≡ pattern_spans faults ++ span_of f ∷ []
spans_more faults f is =
    spans_push faults f ∙ ap (λ b. pattern_spans faults ++ map span_of (cond b (f ∷ []) [])) is

one_of : (b : Bool) → cond (not b) 1 0 + cond b 1 0 ≡ 1
one_of true = refl
one_of false = refl

count_both : {A : Type 0} (p : A → Bool) (xs : List A) → count_by (λ x. not (p x)) xs + count_by p xs ≡ length xs
count_both p [] = refl
count_both p (x ∷ xs) =
    omega (arith, sum_by-cons (λ y. cond (not (p y)) 1 0) x xs, sum_by-cons (λ y. cond (p y) 1 0) x xs, one_of (p x), count_both p xs)

-- each fault is that of a refused pattern or another
pub all_faults : (faults : List ParseSingleError) → syntax_faults faults + pattern_faults faults ≡ length faults
all_faults faults =
    omega (arith, count_both is_pattern_fault faults, length-filter is_pattern_fault faults, length-map (filter is_pattern_fault faults) span_of)

-- nothing is some of any list, and each list is some of itself
pub none_of : {A : Type 0} (ys : List A) → AreSomeOf [] ys
none_of [] = none
none_of (y ∷ ys) = left_out (none_of ys)

pub all_of : {A : Type 0} (xs : List A) → AreSomeOf xs xs
all_of [] = none
all_of (x ∷ xs) = kept (all_of xs)

some_both : {A : Type 0} {ps qs xs ys : List A} → AreSomeOf ps qs → AreSomeOf xs ys → AreSomeOf (ps ++ xs) (qs ++ ys)
some_both none q = q
some_both (kept p) q = kept (some_both p q)
some_both (left_out p) q = left_out (some_both p q)

-- no pattern was refused
pub refuses_none : (places before after : List SourceSpan) → after ≡ before → RefusesSomeOf places before after
refuses_none places before after same = ([], same ∙ sym (append-nil before), none_of places)

-- these were refused
pub refuses_all : (places before after : List SourceSpan) → after ≡ before ++ places → RefusesSomeOf places before after
refuses_all places before after is = (places, is, all_of places)

-- some were refused, and then some others
pub refuses_both : (ps qs before between after : List SourceSpan) → RefusesSomeOf ps before between → RefusesSomeOf qs between after → RefusesSomeOf (ps ++ qs) before after
refuses_both ps qs before between after p q =
    (p.0 ++ q.0, q.1 ∙ ap (λ xs. xs ++ q.0) p.1 ∙ append_assoc before p.0 q.0, some_both p.2 q.2)

-- none was refused after them
pub refuses_then_none : (places before between after : List SourceSpan) → RefusesSomeOf places before between → after ≡ between → RefusesSomeOf places before after
refuses_then_none places before between after p same = (p.0, same ∙ p.1, p.2)

not_closed : (b : Bool) (n : ℕ) → (b ≡ true → 0 < n) → n ≡ 0 → b ≡ false
not_closed true n cause clean = absurd (omega (arith, cause refl, clean))
not_closed false n cause clean = refl

-- a list is open where no fault was found but those of refused patterns
pub open_where_clean : (faults : FaultList) → IsClean faults → faults.is_closed ≡ false
open_where_clean faults clean = not_closed faults.is_closed (syntax_faults faults.list.items) faults.has_cause clean
