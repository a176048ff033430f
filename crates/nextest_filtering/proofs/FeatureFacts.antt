-- Packages with a feature that is said to be on.
use Rattle.std.proofs.Common.{◌≡◌, ◌∙◌, ◌↔◌, sym, subst, List, Contains, map}
use Rattle.workspace_record.specs.Records.{Text}
use Rattle.nextest_filter_evaluation.specs.NameTests.{NameTest, Suits}
use Rattle.nextest_filtering.specs.Contexts.{ContextValue}
use Rattle.nextest_filtering.specs.ContextViews.{ArePicked}
use Rattle.nextest_filtering.specs.Meaning.{IsFeatured}

-- the packages whose ids are those of features that suit are those with such a feature
pub featured_of : {X : Type 0} (f : X → Text) (cx : ContextValue) (t : NameTest) (lent items : List X) (keys ids : List Text) (on packages : List (Text × Text)) → on ≡ cx.on → packages ≡ cx.packages → lent ≡ items → ArePicked (λ p. Suits t p.1) on (map f items) → ((id : Text) → Contains keys id ↔ Contains (map f lent) id) → ArePicked (λ p. Contains keys p.0) packages ids → (id : Text) → Contains ids id ↔ IsFeatured cx t id
featured_of f cx t lent items keys ids on packages is_on are_packages same suited set picked id = (
  λ h. let p = (picked id).0 h in
      let q = (suited p.0.0).0 (subst (λ xs. Contains (map f xs) p.0.0) same ((set p.0.0).0 p.2)) in
      record { found = p.0; listed = subst (λ xs. Contains xs p.0) are_packages p.1; is_its = p.3; feature = q.0.1; is_on = subst (λ x. Contains cx.on (x, q.0.1)) (q.3 ∙ p.3) (subst (λ xs. Contains xs q.0) is_on q.1); suits = q.2 },
  λ h. let key = (set h.found.0).1 (subst (λ xs. Contains (map f xs) h.found.0) (sym same) ((suited h.found.0).1 ((id, h.feature), subst (λ xs. Contains xs (id, h.feature)) (sym is_on) h.is_on, h.suits, sym h.is_its))) in
      (picked id).1 (h.found, subst (λ xs. Contains xs h.found) (sym are_packages) h.listed, key, h.is_its),
)
