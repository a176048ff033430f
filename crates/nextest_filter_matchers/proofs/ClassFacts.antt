-- What is read of a class is what it may be, and nothing else.
use Rattle.std.proofs.Common.{◌≡◌, ◌∙◌, ℕ, ◌≤◌, ◌<◌, inl, inr, Bool, true, false, List, [], ◌∷◌, ◌++◌, map, refl, sym, ap, subst, append_assoc, append-nil}
use Rattle.std.proofs.lemmas.Bool.{cases_eq, cases_lt, le-ltb, lt-ltb, ne_eqb}
use Rattle.std.proofs.lemmas.List.{map-append}
use Rattle.std.proofs.lemmas.Grind.{flat_map-append}
use Rattle.std.specs.List.{flat_map}
use Rattle.nextest_filter_matchers.specs.GlobGrammar.{AreRanges, Each, IsClass, IsClassOutcome, IsDrawn, IsLater, IsMisdrawn, IsUnclosed, Range, dash_range, dash_text, drawn_text, first_of_last, last_of, range_of, range_text}
use Rattle.nextest_filter_matchers.specs.GlobReading.{Closed, BadClass, class_of, class_rest}
use Rattle.nextest_filter_matchers.specs.declared.glob_error.GlobError.TheVariants.{UnclosedClass, InvalidRange}

module _ (ranges : List (ℕ × ℕ)) (low high c : ℕ) (text : List ℕ) where
  draws : (c ≡ 93 → ⊥) → low ≤ c → class_rest ranges low high true (c ∷ text) ≡ class_rest ranges low c false text
  draws other above = rw (ne_eqb c 93 other, le-ltb c low above) refl

  misdraws : (c ≡ 93 → ⊥) → c < low → class_rest ranges low high true (c ∷ text) ≡ BadClass InvalidRange
  misdraws other below = rw (ne_eqb c 93 other, lt-ltb c low below) refl

  begins : (c ≡ 93 → ⊥) → (c ≡ 45 → ⊥) → class_rest ranges low high false (c ∷ text) ≡ class_rest (ranges ++ (low, high) ∷ []) c c false text
  begins other no_dash = rw (ne_eqb c 93 other, ne_eqb c 45 no_dash) refl

-- a range is drawn on
drawn_on : (ranges : List (ℕ × ℕ)) (low high : ℕ) (drawn tail : List ℕ) → Each (λ c. (c ≡ 93 → ⊥) × (low ≤ c)) drawn → class_rest ranges low high false (drawn_text drawn ++ tail) ≡ class_rest ranges low (last_of high drawn) false tail
drawn_on ranges low high [] tail h = refl
drawn_on ranges low high (c ∷ drawn) tail h =
    draws ranges low high c (drawn_text drawn ++ tail) h.0.0 h.0.1 ∙ drawn_on ranges low c drawn tail h.1

ranges_after : List (ℕ × ℕ) → ℕ → ℕ → List Range → List (ℕ × ℕ)
ranges_after ranges low high [] = ranges
ranges_after ranges low high (range ∷ later) = ranges_after (ranges ++ (low, high) ∷ []) range.first (last_of range.first range.drawn) later

last_after : ℕ → List Range → ℕ
last_after high [] = high
last_after high (range ∷ later) = last_after (last_of range.first range.drawn) later

-- further ranges follow
later_on : (ranges : List (ℕ × ℕ)) (low high : ℕ) (later : List Range) (tail : List ℕ) → Each IsLater later → class_rest ranges low high false (flat_map range_text later ++ tail) ≡ class_rest (ranges_after ranges low high later) (first_of_last low later) (last_after high later) false tail
unfolding ranges_after last_after
later_on ranges low high [] tail h = refl
later_on ranges low high (range ∷ later) tail h =
    let rest = flat_map range_text later ++ tail in
    ap (λ t. class_rest ranges low high false (range.first ∷ t)) (append_assoc (drawn_text range.drawn) (flat_map range_text later) tail)
    ∙ begins ranges low high range.first (drawn_text range.drawn ++ rest) h.0.0 h.0.1
    ∙ drawn_on (ranges ++ (low, high) ∷ []) range.first range.first range.drawn rest h.0.2
    ∙ later_on (ranges ++ (low, high) ∷ []) range.first (last_of range.first range.drawn) later tail h.1

all_ranges : (ranges : List (ℕ × ℕ)) (low high : ℕ) (later : List Range) → ranges_after ranges low high later ++ (first_of_last low later, last_after high later) ∷ [] ≡ ranges ++ ((low, high) ∷ map range_of later)
unfolding ranges_after last_after
all_ranges ranges low high [] = refl
all_ranges ranges low high (range ∷ later) =
    all_ranges (ranges ++ (low, high) ∷ []) range.first (last_of range.first range.drawn) later ∙ append_assoc ranges ((low, high) ∷ []) (map range_of (range ∷ later))

-- a class up to what follows its ranges
up_to : (range : Range) (later : List Range) (tail : List ℕ) → IsDrawn range → Each IsLater later → class_of (flat_map range_text (range ∷ later) ++ tail) ≡ class_rest (ranges_after [] range.first (last_of range.first range.drawn) later) (first_of_last range.first later) (last_after (last_of range.first range.drawn) later) false tail
up_to range later tail drawn are =
    let rest = flat_map range_text later ++ tail in
    ap (class_rest [] range.first range.first false) (append_assoc (drawn_text range.drawn) (flat_map range_text later) tail)
    ∙ drawn_on [] range.first range.first range.drawn rest drawn
    ∙ later_on [] range.first (last_of range.first range.drawn) later tail are

closes : (ranges : List (ℕ × ℕ)) (low high : ℕ) (dash : Bool) (rest : List ℕ) → class_rest ranges low high false (dash_text dash ++ 93 ∷ rest) ≡ Closed ((ranges ++ (low, high) ∷ []) ++ dash_range dash) rest
closes ranges low high true rest = ap (λ r. Closed r rest) (sym (append_assoc ranges ((low, high) ∷ []) ((45, 45) ∷ [])))
closes ranges low high false rest = ap (λ r. Closed r rest) (sym (append-nil (ranges ++ (low, high) ∷ [])))

class_from : (text rest : List ℕ) (ranges : List (ℕ × ℕ)) (written : List Range) (dash : Bool) → AreRanges written → text ≡ flat_map range_text written ++ (dash_text dash ++ 93 ∷ rest) → ranges ≡ map range_of written ++ dash_range dash → class_of text ≡ Closed ranges rest
class_from text rest ranges [] dash are spelled meant = absurd are
class_from text rest ranges (range ∷ later) dash are spelled meant =
    let low = first_of_last range.first later in
    let high = last_after (last_of range.first range.drawn) later in
    let done = ranges_after [] range.first (last_of range.first range.drawn) later in
    ap class_of spelled ∙ up_to range later (dash_text dash ++ 93 ∷ rest) are.0 are.1 ∙ closes done low high dash rest
    ∙ ap (λ r. Closed (r ++ dash_range dash) rest) (all_ranges [] range.first (last_of range.first range.drawn) later) ∙ ap (λ r. Closed r rest) (sym meant)

pub class_back : (text rest : List ℕ) (ranges : List (ℕ × ℕ)) → IsClass ranges text rest → class_of text ≡ Closed ranges rest
class_back text rest ranges h = class_from text rest ranges h.written h.dash h.are h.spelled h.meant

stays_open : (ranges : List (ℕ × ℕ)) (low high : ℕ) (dash : Bool) → class_rest ranges low high false (dash_text dash) ≡ BadClass UnclosedClass
stays_open ranges low high true = refl
stays_open ranges low high false = refl

unclosed_from : (text : List ℕ) (written : List Range) (dash : Bool) → AreRanges written → text ≡ flat_map range_text written ++ dash_text dash → class_of text ≡ BadClass UnclosedClass
unclosed_from text [] dash are spelled = absurd are
unclosed_from text (range ∷ later) dash are spelled =
    ap class_of spelled ∙ up_to range later (dash_text dash) are.0 are.1 ∙ stays_open (ranges_after [] range.first (last_of range.first range.drawn) later) (first_of_last range.first later) (last_after (last_of range.first range.drawn) later) dash

pub unclosed_back : (text : List ℕ) → IsUnclosed text → class_of text ≡ BadClass UnclosedClass
unclosed_back text h =
    elim h.are [
      | inl are ↦ unclosed_from text h.written h.dash are h.spelled
      | inr none ↦ ap class_of (h.spelled ∙ ap (λ w. flat_map range_text w ++ dash_text h.dash) none.0 ∙ ap dash_text none.1)
    ]

misdrawn_from : (text : List ℕ) (written : List Range) (to : ℕ) (more : List ℕ) → AreRanges written → to < first_of_last 0 written → (to ≡ 93 → ⊥) → text ≡ flat_map range_text written ++ 45 ∷ (to ∷ more) → class_of text ≡ BadClass InvalidRange
misdrawn_from text [] to more are below other spelled = absurd are
misdrawn_from text (range ∷ later) to more are below other spelled =
    ap class_of spelled ∙ up_to range later (45 ∷ (to ∷ more)) are.0 are.1 ∙ misdraws (ranges_after [] range.first (last_of range.first range.drawn) later) (first_of_last range.first later) (last_after (last_of range.first range.drawn) later) to more other below

pub misdrawn_back : (text : List ℕ) → IsMisdrawn text → class_of text ≡ BadClass InvalidRange
misdrawn_back text h = misdrawn_from text h.written h.to h.more h.are h.below h.open_still h.spelled

-- ranges that were read, and the last one of them
abbrev Done : List Range → ℕ → List ℕ → List Range
Done done low drawn = done ++ (record { first = low; drawn = drawn }) ∷ []

first_of_done : (start : ℕ) (done : List Range) (low : ℕ) (drawn : List ℕ) → first_of_last start (Done done low drawn) ≡ low
first_of_done start [] low drawn = refl
first_of_done start (range ∷ done) low drawn = first_of_done range.first done low drawn

all_push : {X : Type 0} (P : X → Type 0) (xs : List X) (x : X) → Each P xs → P x → Each P (xs ++ x ∷ [])
all_push P [] x h p = (p, tt)
all_push P (y ∷ xs) x h p = (h.0, all_push P xs x h.1 p)

-- one more range, or one more character up to which the last is drawn
are_more : (done : List Range) (range : Range) → AreRanges done → IsLater range → AreRanges (done ++ range ∷ [])
are_more [] range are later = absurd are
are_more (first ∷ done) range are later = (are.0, all_push IsLater done range are.1 later)

all_redrawn : (done : List Range) (low : ℕ) (drawn : List ℕ) (c : ℕ) → (c ≡ 93 → ⊥) → low ≤ c → Each IsLater (Done done low drawn) → Each IsLater (Done done low (drawn ++ c ∷ []))
all_redrawn [] low drawn c other above h = ((h.0.0, h.0.1, all_push (λ d. (d ≡ 93 → ⊥) × (low ≤ d)) drawn c h.0.2 (other, above)), tt)
all_redrawn (range ∷ done) low drawn c other above h = (h.0, all_redrawn done low drawn c other above h.1)

are_redrawn : (done : List Range) (low : ℕ) (drawn : List ℕ) (c : ℕ) → (c ≡ 93 → ⊥) → low ≤ c → AreRanges (Done done low drawn) → AreRanges (Done done low (drawn ++ c ∷ []))
are_redrawn [] low drawn c other above are = (all_push (λ d. (d ≡ 93 → ⊥) × (low ≤ d)) drawn c are.0 (other, above), tt)
are_redrawn (range ∷ done) low drawn c other above are = (are.0, all_redrawn done low drawn c other above are.1)

last_push : (first : ℕ) (drawn : List ℕ) (c : ℕ) → last_of first (drawn ++ c ∷ []) ≡ c
last_push first [] c = refl
last_push first (d ∷ drawn) c = last_push d drawn c

-- their text, and what follows it
done_text : (done : List Range) (low : ℕ) (drawn tail : List ℕ) → flat_map range_text (Done done low drawn) ++ tail ≡ flat_map range_text done ++ (low ∷ (drawn_text drawn ++ tail))
done_text done low drawn tail =
    ap (λ t. t ++ tail) (flat_map-append range_text done ((record { first = low; drawn = drawn }) ∷ []))
    ∙ append_assoc (flat_map range_text done) (low ∷ (drawn_text drawn ++ [])) tail
    ∙ ap (λ t. flat_map range_text done ++ (low ∷ (t ++ tail))) (append-nil (drawn_text drawn))

redrawn_text : (done : List Range) (low : ℕ) (drawn : List ℕ) (c : ℕ) (tail : List ℕ) → flat_map range_text (Done done low (drawn ++ c ∷ [])) ++ tail ≡ flat_map range_text (Done done low drawn) ++ 45 ∷ (c ∷ tail)
redrawn_text done low drawn c tail =
    done_text done low (drawn ++ c ∷ []) tail
    ∙ ap (λ t. flat_map range_text done ++ (low ∷ t)) (ap (λ t. t ++ tail) (flat_map-append (λ d. 45 ∷ (d ∷ [])) drawn (c ∷ [])) ∙ append_assoc (drawn_text drawn) (45 ∷ (c ∷ [])) tail)
    ∙ sym (done_text done low drawn (45 ∷ (c ∷ tail)))

module _ (done : List Range) (low : ℕ) (drawn : List ℕ) (are : AreRanges (Done done low drawn)) where
  outcome_closed : (dash : Bool) (rest : List ℕ) → IsClass ((map range_of done ++ (low, last_of low drawn) ∷ []) ++ dash_range dash) (flat_map range_text (Done done low drawn) ++ (dash_text dash ++ 93 ∷ rest)) rest
  outcome_closed dash rest = record {
    written = Done done low drawn;
    dash = dash;
    are = are;
    spelled = refl;
    meant = ap (λ r. r ++ dash_range dash) (sym (map-append range_of done ((record { first = low; drawn = drawn }) ∷ [])));
  }

  outcome_unclosed : (dash : Bool) → IsUnclosed (flat_map range_text (Done done low drawn) ++ dash_text dash)
  outcome_unclosed dash = record { written = Done done low drawn; dash = dash; are = inl are; spelled = refl }

  outcome_misdrawn : (to : ℕ) (more : List ℕ) → (to ≡ 93 → ⊥) → to < low → IsMisdrawn (flat_map range_text (Done done low drawn) ++ 45 ∷ (to ∷ more))
  outcome_misdrawn to more other below = record {
    written = Done done low drawn;
    to = to;
    more = more;
    are = are;
    below = subst (λ n. to < n) (sym (first_of_done 0 done low drawn)) below;
    open_still = other;
    spelled = refl;
  }

-- what is read from a place on is what it may be
abbrev RestIs : List Range → ℕ → List ℕ → List ℕ → Type 0
RestIs done low drawn text = IsClassOutcome (flat_map range_text (Done done low drawn) ++ text) (class_rest (map range_of done) low (last_of low drawn) false text)

rest_closed : (done : List Range) (low : ℕ) (drawn : List ℕ) → AreRanges (Done done low drawn) → (text : List ℕ) → RestIs done low drawn (93 ∷ text)
rest_closed done low drawn are text = subst (λ r. IsClass r (flat_map range_text (Done done low drawn) ++ 93 ∷ text) text) (append-nil _) (outcome_closed done low drawn are false text)

rest_dashed : (done : List Range) (low : ℕ) (drawn : List ℕ) → AreRanges (Done done low drawn) → (text : List ℕ) → RestIs done low drawn (45 ∷ (93 ∷ text))
rest_dashed done low drawn are text = subst (λ r. IsClass r (flat_map range_text (Done done low drawn) ++ 45 ∷ (93 ∷ text)) text) (append_assoc (map range_of done) ((low, last_of low drawn) ∷ []) ((45, 45) ∷ [])) (outcome_closed done low drawn are true text)

rest_misdrawn : (done : List Range) (low : ℕ) (drawn : List ℕ) → AreRanges (Done done low drawn) → (d : ℕ) (text : List ℕ) → (d ≡ 93 → ⊥) → d < low → RestIs done low drawn (45 ∷ (d ∷ text))
rest_misdrawn done low drawn are d text other below = subst (IsClassOutcome (flat_map range_text (Done done low drawn) ++ 45 ∷ (d ∷ text))) (sym (misdraws (map range_of done) low (last_of low drawn) d text other below)) (outcome_misdrawn done low drawn are d text other below)

rest_drawn : (done : List Range) (low : ℕ) (drawn : List ℕ) (d : ℕ) (text : List ℕ) → (d ≡ 93 → ⊥) → low ≤ d → RestIs done low (drawn ++ d ∷ []) text → RestIs done low drawn (45 ∷ (d ∷ text))
rest_drawn done low drawn d text other above h =
    let same = ap (λ e. class_rest (map range_of done) low e false text) (last_push low drawn d) ∙ sym (draws (map range_of done) low (last_of low drawn) d text other above) in
    subst (λ t. IsClassOutcome t (class_rest (map range_of done) low (last_of low drawn) true (d ∷ text))) (redrawn_text done low drawn d text) (subst (IsClassOutcome (flat_map range_text (Done done low (drawn ++ d ∷ [])) ++ text)) same h)

rest_begins : (done : List Range) (low : ℕ) (drawn : List ℕ) (c : ℕ) (text : List ℕ) → (c ≡ 93 → ⊥) → (c ≡ 45 → ⊥) → RestIs (Done done low drawn) c [] text → RestIs done low drawn (c ∷ text)
rest_begins done low drawn c text other no_dash h =
    let same = ap (λ r. class_rest r c c false text) (map-append range_of done ((record { first = low; drawn = drawn }) ∷ [])) ∙ sym (begins (map range_of done) low (last_of low drawn) c text other no_dash) in
    subst (λ t. IsClassOutcome t (class_rest (map range_of done) low (last_of low drawn) false (c ∷ text))) (done_text (Done done low drawn) c [] text) (subst (IsClassOutcome (flat_map range_text (Done (Done done low drawn) c []) ++ text)) same h)

rest_is : (text : List ℕ) (done : List Range) (low : ℕ) (drawn : List ℕ) → AreRanges (Done done low drawn) → RestIs done low drawn text
rest_is [] done low drawn are = outcome_unclosed done low drawn are false
rest_is (c ∷ []) done low drawn are =
    elim (cases_eq c 93) [
      | inl e ↦ subst (λ d. RestIs done low drawn (d ∷ [])) (sym e) (rest_closed done low drawn are [])
      | inr other ↦
          elim (cases_eq c 45) [
            | inl e ↦ subst (λ d. RestIs done low drawn (d ∷ [])) (sym e) (outcome_unclosed done low drawn are true)
            | inr no_dash ↦ rest_begins done low drawn c [] other no_dash (rest_is [] (Done done low drawn) c [] (are_more (Done done low drawn) (record { first = c; drawn = [] }) are (other, no_dash, tt)))
          ]
    ]
rest_is (c ∷ (d ∷ text)) done low drawn are =
    elim (cases_eq c 93) [
      | inl e ↦ subst (λ b. RestIs done low drawn (b ∷ (d ∷ text))) (sym e) (rest_closed done low drawn are (d ∷ text))
      | inr other ↦
          elim (cases_eq c 45) [
            | inl e ↦ subst (λ b. RestIs done low drawn (b ∷ (d ∷ text))) (sym e) (elim (cases_eq d 93) [
              | inl f ↦ subst (λ b. RestIs done low drawn (45 ∷ (b ∷ text))) (sym f) (rest_dashed done low drawn are text)
              | inr open_still ↦
                  elim (cases_lt d low) [
                    | inl below ↦ rest_misdrawn done low drawn are d text open_still below
                    | inr above ↦ rest_drawn done low drawn d text open_still above (rest_is text done low (drawn ++ d ∷ []) (are_redrawn done low drawn d open_still above are))
                  ]
            ])
            | inr no_dash ↦ rest_begins done low drawn c (d ∷ text) other no_dash (rest_is (d ∷ text) (Done done low drawn) c [] (are_more (Done done low drawn) (record { first = c; drawn = [] }) are (other, no_dash, tt)))
          ]
    ]

pub class_to : (text : List ℕ) → IsClassOutcome text (class_of text)
class_to [] = record { written = []; dash = false; are = inr (refl, refl); spelled = refl }
class_to (c ∷ text) = rest_is text [] c [] (tt, tt)
