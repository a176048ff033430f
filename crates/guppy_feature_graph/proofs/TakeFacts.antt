-- One who is asked takes some of the features.
use Rattle.std.proofs.Common.{◌≡◌, ◌↔◌, ◌⊎◌, ℕ, ◌+◌, ◌<◌, ◌≤◌, Bool, true, false, cond, List, [], ◌∷◌, ◌++◌, append-nil, refl, sym, subst, ap, ◌∙◌, length, map, filter, get_or, All, AllPairs, Contains, IsTrue, arith}
use Rattle.std.proofs.lemmas.List.{get_or-map, length-append, length-map, map-append}
use Rattle.std.proofs.lemmas.List.Elements.{filter-append}
use Rattle.std.proofs.lemmas.List.Kept.{AllPairs-filter}
use Rattle.list_facts.proofs.Membership.{Contains-filter, Contains-filter_cases, Contains-map, Contains-map_cases, Contains-none}
use Rattle.list_facts.proofs.Quantifiers.{All-from_Contains}
use Rattle.numbered_graph.specs.Sets.{has}
use Rattle.numbered_graph.proofs.ChoiceFacts.{Chain-push, HasAnswered, put}
use Rattle.guppy_package_parts.specs.declared.dependency_direction.DependencyDirection.{DependencyDirection}
use Rattle.guppy_package_graph.specs.Visits.{Chain}
use Rattle.guppy_feature_nodes.specs.Graphs.{FeatureGraphValue, feature_at}
use Rattle.guppy_feature_graph.specs.Judging.{AreJudged, Judged, shown_features}
use Rattle.guppy_feature_graph.specs.Queries.{AreInitials, AreStarts, IsQueryOf, QueryValue}
use Rattle.workspace_record.specs.Features.{FeatureValue}

-- the numbers that were taken, in the order in which they were asked about
abbrev taken_of : Judged → List ℕ
taken_of judged = map (λ j. j.0) (filter (λ j. j.1) judged)

-- these features were asked about
pub record IsTaking (steps : List ℕ → FeatureGraphValue × FeatureValue → Bool → List ℕ → Type 0) (g : FeatureGraphValue) (first : List ℕ) (asked : List ℕ) (last : List ℕ) (included : List Bool) (starts : List ℕ) : Type 0 where
  pub judged : Judged
  pub each : map (λ j. j.0) judged ≡ asked
  pub chain : Chain steps first (shown_features g judged) last
  pub has_true : HasAnswered judged true included
  pub starts_are : starts ≡ taken_of judged
  pub sized : length included ≡ length g.nodes

taken_more : (judged : Judged) (v : ℕ) (b : Bool) → taken_of (judged ++ (v, b) ∷ []) ≡ cond b (taken_of judged ++ v ∷ []) (taken_of judged)
taken_more judged v b = ap (map (λ (j : ℕ × Bool). j.0)) (filter-append (λ (j : ℕ × Bool). j.1) judged ((v, b) ∷ [])) ∙ by b
  where
    by : (b : Bool) → map (λ (j : ℕ × Bool). j.0) (filter (λ (j : ℕ × Bool). j.1) judged ++ filter (λ (j : ℕ × Bool). j.1) ((v, b) ∷ [])) ≡ cond b (taken_of judged ++ v ∷ []) (taken_of judged)
    by true = map-append (λ (j : ℕ × Bool). j.0) (filter (λ (j : ℕ × Bool). j.1) judged) ((v, true) ∷ [])
    by false = ap (map (λ (j : ℕ × Bool). j.0)) (append-nil (filter (λ (j : ℕ × Bool). j.1) judged))

module _ {steps : List ℕ → FeatureGraphValue × FeatureValue → Bool → List ℕ → Type 0} {g : FeatureGraphValue} {first : List ℕ} where
  pub taking_none : (included : List Bool) (starts : List ℕ) → ((v : ℕ) → IsTrue (has included v) → ⊥) → starts ≡ [] → length included ≡ length g.nodes → IsTaking steps g first [] first included starts
  taking_none included starts clear none sized = record {
    judged = [];
    each = refl;
    chain = refl;
    has_true = λ v. (λ h. absurd (clear v h), λ h. absurd (Contains-none (v, true) h));
    starts_are = none;
    sized = sized;
  }

  pub taking_more : (v : ℕ) (b : Bool) (asked more middle last : List ℕ) (included new_included : List Bool) (starts new_starts : List ℕ) → more ≡ asked ++ v ∷ [] → IsTaking steps g first asked middle included starts → steps middle (g, feature_at g v) b last → length new_included ≡ length included → ((w : ℕ) → IsTrue (has new_included w) ↔ (IsTrue (has included w) ⊎ (IsTrue b × (w ≡ v)))) → new_starts ≡ cond b (starts ++ v ∷ []) starts → IsTaking steps g first more last new_included new_starts
  taking_more v b asked more middle last included new_included starts new_starts is was step size members pushed = record {
    judged = was.judged ++ (v, b) ∷ [];
    each = map-append (λ (j : ℕ × Bool). j.0) was.judged ((v, b) ∷ []) ∙ ap (λ xs. xs ++ v ∷ []) was.each ∙ sym is;
    chain = subst (λ xs. Chain steps first xs last) (sym (map-append (λ (j : ℕ × Bool). ((g, feature_at g j.0), j.1)) was.judged ((v, b) ∷ []))) (Chain-push steps (shown_features g was.judged) first middle last (g, feature_at g v) b was.chain step);
    has_true = put was.judged v b true b included new_included (λ h. h, λ h. h) members was.has_true;
    starts_are = pushed ∙ ap (λ xs. cond b (xs ++ v ∷ []) xs) was.starts_are ∙ sym (taken_more was.judged v b);
    sized = size ∙ was.sized;
  }

pairs_mapped : {X Y : Type 0} (R : Y → Y → Type 0) (f : X → Y) (xs : List X) → AllPairs (λ x y. R (f x) (f y)) xs → AllPairs R (map f xs)
pairs_mapped R f [] h i j d lt within = absurd (omega (arith, within))
pairs_mapped R f (x ∷ xs) h i j d lt within =
    let here = subst (λ n. j < n) (length-map (x ∷ xs) f) within in
    subst (λ a. R a (get_or (map f (x ∷ xs)) j d)) (sym (get_or-map f (x ∷ xs) i x d (omega (arith, lt, here)))) (subst (λ b. R (f (get_or (x ∷ xs) i x)) b) (sym (get_or-map f (x ∷ xs) j x d here)) (h i j x lt here))

pairs_unmapped : {X Y : Type 0} (R : Y → Y → Type 0) (f : X → Y) (xs : List X) → AllPairs R (map f xs) → AllPairs (λ x y. R (f x) (f y)) xs
pairs_unmapped R f xs h i j d lt within =
    let mapped = subst (λ n. j < n) (sym (length-map xs f)) within in
    subst (λ a. R a (f (get_or xs j d))) (get_or-map f xs i d (f d) (omega (arith, lt, within))) (subst (λ b. R (get_or (map f xs) i (f d)) b) (get_or-map f xs j d (f d) within) (h i j (f d) lt mapped))

taken_each : (judged : Judged) (v : ℕ) → Contains (taken_of judged) v ↔ Contains judged (v, true)
taken_each judged v = (there, back)
  where
    there : Contains (taken_of judged) v → Contains judged (v, true)
    there h =
        let found = Contains-map_cases (λ (j : ℕ × Bool). j.0) (filter (λ (j : ℕ × Bool). j.1) judged) v h in
        let kept = Contains-filter_cases (λ (j : ℕ × Bool). j.1) judged found.0 found.1 in
        subst (Contains judged) (λ i. (found.2 i, kept.1 i)) kept.0

    back : Contains judged (v, true) → Contains (taken_of judged) v
    back h = Contains-map (λ (j : ℕ × Bool). j.0) (filter (λ (j : ℕ × Bool). j.1) judged) (v, true) (Contains-filter (λ (j : ℕ × Bool). j.1) judged (v, true) h refl)

-- all were asked about: those that were taken ascend
pub taken_starts : {steps : List ℕ → FeatureGraphValue × FeatureValue → Bool → List ℕ → Type 0} {g : FeatureGraphValue} {first last : List ℕ} (n : ℕ) (asked : List ℕ) (included : List Bool) (starts : List ℕ) → AllPairs (λ u v. u < v) asked → All (λ v. v < n) asked → IsTaking steps g first asked last included starts → AreStarts n included starts
taken_starts n asked included starts ascending within was =
    let up = subst (AllPairs (λ u v. u < v)) (sym was.each) ascending in
    let kept = pairs_mapped (λ u v. u < v) (λ (j : ℕ × Bool). j.0) (filter (λ (j : ℕ × Bool). j.1) was.judged) (AllPairs-filter (λ (x y : ℕ × Bool). x.0 < y.0) (λ (j : ℕ × Bool). j.1) was.judged (pairs_unmapped (λ u v. u < v) (λ (j : ℕ × Bool). j.0) was.judged up)) in
    record {
      within = All-from_Contains (λ v. v < n) starts (λ v h.
          let taken = (taken_each was.judged v).0 (subst (λ xs. Contains xs v) was.starts_are h) in
          small v (subst (λ xs. Contains xs v) was.each (Contains-map (λ (j : ℕ × Bool). j.0) was.judged (v, true) taken)));
      initials = record {
        ascending = subst (AllPairs (λ u v. u < v)) (sym was.starts_are) kept;
        each = λ v. (λ h. (was.has_true v).1 ((taken_each was.judged v).0 (subst (λ xs. Contains xs v) was.starts_are h)), λ h. subst (λ xs. Contains xs v) (sym was.starts_are) ((taken_each was.judged v).1 ((was.has_true v).0 h)));
      };
    }
  where
    small : (v : ℕ) → Contains asked v → v < n
    small v h = subst (λ u. u < n) h.2 (within h.0 v h.1)

-- they are the features that were to be asked about
pub all_judged : {steps : List ℕ → FeatureGraphValue × FeatureValue → Bool → List ℕ → Type 0} {g : FeatureGraphValue} {first last : List ℕ} (passes : ℕ → Type 0) (asked : List ℕ) (included : List Bool) (starts : List ℕ) → AllPairs (λ u v. u < v) asked → ((v : ℕ) → Contains asked v ↔ passes v) → (was : IsTaking steps g first asked last included starts) → AreJudged passes was.judged
all_judged passes asked included starts ascending each was = record {
  ascending = subst (AllPairs (λ u v. u < v)) (sym was.each) ascending;
  each = λ v. subst (λ xs. Contains xs v ↔ passes v) (sym was.each) (each v);
}

-- a list that is one longer at most
pub pushed_length : (b : Bool) (xs new : List ℕ) (v n : ℕ) → new ≡ cond b (xs ++ v ∷ []) xs → length xs ≤ n → length new ≤ n + 1
pushed_length true xs new v n is le = let sizes = ap length is ∙ length-append xs (v ∷ []) in omega (arith, sizes, le)
pushed_length false xs new v n is le = let sizes = ap length is in omega (arith, sizes, le)

-- features that pass one test or another that says the same
pub judged_by : {P Q : ℕ → Type 0} {judged : Judged} → ((v : ℕ) → P v ↔ Q v) → AreJudged P judged → AreJudged Q judged
judged_by same h = record { ascending = h.ascending; each = λ v. (λ inside. (same v).0 ((h.each v).0 inside), λ passes. (h.each v).1 ((same v).1 passes)) }

-- the query from the features that were taken
pub taken_query : (g : FeatureGraphValue) (d : DependencyDirection) (n : ℕ) (q : QueryValue) (included : List Bool) (starts : List ℕ) (judged : Judged) → q ≡ record { graph = g; direction = d; initials = starts } → AreStarts n included starts → HasAnswered judged true included → IsQueryOf g d (λ v. Contains judged (v, true)) q
taken_query g d n q included starts judged is are answered = record {
  graph = ap (λ (x : QueryValue). x.graph) is;
  directed = ap (λ (x : QueryValue). x.direction) is;
  initials = subst (AreInitials (λ v. Contains judged (v, true))) (sym (ap (λ (x : QueryValue). x.initials) is)) (record {
    ascending = are.initials.ascending;
    each = λ v. (λ h. (answered v).0 ((are.initials.each v).0 h), λ h. (are.initials.each v).1 ((answered v).1 h));
  });
}
