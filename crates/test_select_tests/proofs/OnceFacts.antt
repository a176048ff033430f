-- A word asks for one part, and tests have one grouping by binary.
use Rattle.std.proofs.Common.{◌≡◌, ◌≢◌, ◌∙◌, ℕ, suc, ◌+◌, ◌<◌, List, [], ◌∷◌, ◌++◌, drop, length, map, refl, sym, ap, ap₂, subst, arith}
use Rattle.std.specs.Prelude.{All, get_or}
use Rattle.std.specs.List.{AllAdjacentBelow, flat_map}
use Rattle.std.specs.Str.Parse.{digits_value, without_leading_plus}
use Rattle.workspace_record.specs.Records.{Text}
use Rattle.test_select_tests.specs.Grouping.{IsByBinary, ids_of_groups, pairs_of}
use Rattle.test_select_tests.specs.Partitions.{AsksForPart, WritesNumber}
use Rattle.test_select_tests.proofs.PartitionReading.{no_slash}

-- ---- parts

-- a text is parted at its first slash in one way
parted_once : (a b c d : Text) → ((i : ℕ) → i < length a → get_or a i 0 ≢ 47) → ((i : ℕ) → i < length c → get_or c i 0 ≢ 47) → a ++ 47 ∷ b ≡ c ++ 47 ∷ d → (a ≡ c) × (b ≡ d)
parted_once [] b [] d one other same = (refl, cc same)
parted_once [] b (c ∷ cs) d one other same = let first : 47 ≡ c = cc same in absurd (other 0 (omega arith) (sym first))
parted_once (a ∷ more) b [] d one other same = let first : a ≡ 47 = cc same in absurd (one 0 (omega arith) first)
parted_once (a ∷ more) b (c ∷ cs) d one other same =
    let first : a ≡ c = cc same in
    let rest = parted_once more b cs d (λ i lt. one (suc i) (omega arith)) (λ i lt. other (suc i) (omega arith)) (cc same) in
    ((λ i. first i ∷ rest.0 i), rest.1)

-- a text writes one number
written_once : (text same : Text) (number other : ℕ) → text ≡ same → WritesNumber text number → WritesNumber same other → number ≡ other
written_once text same number other is one two = one.value ∙ ap (λ (t : Text). digits_value 10 (without_leading_plus t)) is ∙ sym two.value

-- a text asks for one part of one number of parts
pub asked_once : (text : Text) (part parts other others : ℕ) → AsksForPart text part parts → AsksForPart text other others → (part ≡ other) × (parts ≡ others)
asked_once text part parts other others one two =
    let same : one.first ++ 47 ∷ one.second ≡ two.first ++ 47 ∷ two.second = ap (drop 6) (sym one.whole ∙ two.whole) in
    let sides = parted_once one.first one.second two.first two.second (no_slash one.first one.first_is.numeral.1) (no_slash two.first two.first_is.numeral.1) same in
    (written_once one.first two.first part other sides.0 one.first_is two.first_is, written_once one.second two.second parts others sides.1 one.second_is two.second_is)

-- ---- groups

-- each group has a test, and neighbours are of different binaries
record AreGroups (groups : List (Text × List Text)) : Type 0 where
  filled : All (λ (group : Text × List Text). 0 < length group.1) groups
  apart : AllAdjacentBelow (λ (id next : Text). id ≢ next) (ids_of_groups groups) (length (ids_of_groups groups))

-- the tests do not begin with one of this binary
abbrev BeginsOtherwise : Text → List (Text × Text) → Type 0
BeginsOtherwise id pairs = (test : Text) (rest : List (Text × Text)) → pairs ≡ (id, test) ∷ rest → ⊥

later_groups : (group : Text × List Text) (groups : List (Text × List Text)) → AreGroups (group ∷ groups) → AreGroups groups
later_groups group groups h = record {
  filled = λ k d below. h.filled (suc k) d (omega arith);
  apart = λ k d below. let further : suc k + 1 ≡ suc (k + 1) = omega arith in subst (λ n. get_or (ids_of_groups (group ∷ groups)) (suc k) d ≢ get_or (ids_of_groups (group ∷ groups)) n d) further (h.apart (suc k) d (omega arith));
}

-- behind a group stand those of another binary
next_otherwise : (group : Text × List Text) (groups : List (Text × List Text)) → AreGroups (group ∷ groups) → BeginsOtherwise group.0 (flat_map pairs_of groups)
next_otherwise group [] h test rest same = cc same
next_otherwise group ((id, []) ∷ groups) h test rest same = let filled = h.filled 1 (id, []) (omega arith) in absurd (omega arith)
next_otherwise group ((id, t ∷ ts) ∷ groups) h test rest same =
    let pair : ◌≡◌ {A = Text × Text} (id, t) (group.0, test) = cc same in
    let ids : id ≡ group.0 = ap (λ (p : Text × Text). p.0) pair in
    h.apart 0 [] (omega arith) (sym ids)

-- the tests of one binary, and then others
same_front : (id : Text) (ts us : List Text) (xs ys : List (Text × Text)) → BeginsOtherwise id xs → BeginsOtherwise id ys → map (λ t. (id, t)) ts ++ xs ≡ map (λ t. (id, t)) us ++ ys → (ts ≡ us) × (xs ≡ ys)
same_front id [] [] xs ys one other same = (refl, same)
same_front id [] (u ∷ us) xs ys one other same = absurd (one u (map (λ t. (id, t)) us ++ ys) same)
same_front id (t ∷ ts) [] xs ys one other same = absurd (other t (map (λ t. (id, t)) ts ++ xs) (sym same))
same_front id (t ∷ ts) (u ∷ us) xs ys one other same =
    let pair : ◌≡◌ {A = Text × Text} (id, t) (id, u) = cc same in
    let first : t ≡ u = ap (λ (p : Text × Text). p.1) pair in
    let rest = same_front id ts us xs ys one other (cc same) in
    (ap₂ (λ (x : Text) (l : List Text). x ∷ l) first rest.0, rest.1)

groups_once : (groups others : List (Text × List Text)) → AreGroups groups → AreGroups others → flat_map pairs_of groups ≡ flat_map pairs_of others → groups ≡ others
groups_once [] [] one other same = refl
groups_once [] ((id, []) ∷ others) one other same = let filled = other.filled 0 (id, []) (omega arith) in absurd (omega arith)
groups_once [] ((id, t ∷ ts) ∷ others) one other same = absurd (cc same)
groups_once ((id, []) ∷ groups) others one other same = let filled = one.filled 0 (id, []) (omega arith) in absurd (omega arith)
groups_once ((id, t ∷ ts) ∷ groups) [] one other same = absurd (cc same)
groups_once ((id, t ∷ ts) ∷ groups) ((jd, []) ∷ others) one other same = let filled = other.filled 0 (jd, []) (omega arith) in absurd (omega arith)
groups_once ((id, t ∷ ts) ∷ groups) ((jd, u ∷ us) ∷ others) one other same =
    let pair : ◌≡◌ {A = Text × Text} (id, t) (jd, u) = cc same in
    let ids : jd ≡ id = sym (ap (λ (p : Text × Text). p.0) pair) in
    let there : BeginsOtherwise id (flat_map pairs_of others) = subst (λ i. BeginsOtherwise i (flat_map pairs_of others)) ids (next_otherwise (jd, u ∷ us) others other) in
    let whole : map (λ t. (id, t)) (t ∷ ts) ++ flat_map pairs_of groups ≡ map (λ t. (id, t)) (u ∷ us) ++ flat_map pairs_of others = same ∙ ap (λ (i : Text). map (λ t. (i, t)) (u ∷ us) ++ flat_map pairs_of others) ids in
    let parts = same_front id (t ∷ ts) (u ∷ us) (flat_map pairs_of groups) (flat_map pairs_of others) (next_otherwise (id, t ∷ ts) groups one) there whole in
    ap₂ (λ (g : Text × List Text) (l : List (Text × List Text)). g ∷ l) (ap₂ (λ (i : Text) (l : List Text). (i, l)) (sym ids) parts.0) (groups_once groups others (later_groups (id, t ∷ ts) groups one) (later_groups (jd, u ∷ us) others other) parts.1)

-- tests are grouped in one way
pub grouped_once : (pairs : List (Text × Text)) (groups others : List (Text × List Text)) → IsByBinary pairs groups → IsByBinary pairs others → groups ≡ others
grouped_once pairs groups others one other =
    groups_once groups others (record { filled = one.filled; apart = one.apart }) (record { filled = other.filled; apart = other.apart }) (one.whole ∙ sym other.whole)
