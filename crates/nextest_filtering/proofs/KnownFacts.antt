-- Ids of packages that a graph knows, one by one.
use Rattle.std.proofs.Common.{◌≡◌, ◌↔◌, ⊎_elim, inl, inr, sym, ◌∙◌, subst, ℕ, true, false, List, [], ◌∷◌, ◌++◌, Result, Ok, Err, Some, None}
use Rattle.std.proofs.lemmas.Bool.{false≢true, true≢false}
use Rattle.std.proofs.lemmas.List.Elements.{All-push}
use Rattle.std.specs.Result.{is_ok}
use Rattle.workspace_record.specs.Records.{Text}
use Rattle.guppy_package_parts.specs.declared.error.Error.{Error}
use Rattle.guppy_package_table.specs.Tables.{TableValue}
use Rattle.guppy_package_graph.specs.Finding.{AreKnown, FindsPackage, IsAt, IsNamed, IsUnknown}
use Rattle.guppy_package_graph.specs.Views.{place_of}
use Rattle.guppy_package_graph.specs.declared.package_metadata.PackageMetadata.{PackageMetadata}
use Rattle.guppy_package_graph.proofs.PlaceFacts.{named_more}

none_some : {A : Type 0} {x : A} → None ≡ Some x → ⊥
none_some e = cc

module _ (g : TableValue) where
  -- a package that is found has a place
  pub known_as : (id : Text) (r : Result PackageMetadata Error) → FindsPackage g id r → is_ok r ≡ true → (v : ℕ) × IsAt g id v
  known_as id (Ok metadata) found is = (place_of metadata, found.0)
  known_as id (Err error) found is = absurd (false≢true is)

  pub unknown_as : (id : Text) (r : Result PackageMetadata Error) → FindsPackage g id r → is_ok r ≡ false → IsUnknown g id
  unknown_as id (Ok metadata) found is = absurd (true≢false is)
  unknown_as id (Err error) found is = found.0

  pub known_more : (known more : List Text) (id : Text) → (v : ℕ) × IsAt g id v → more ≡ known ++ id ∷ [] → AreKnown g known → AreKnown g more
  known_more known more id at e old =
      subst (AreKnown g) (sym e) (All-push (λ x. (v : ℕ) × IsAt g x v) known id old at)

  -- one id more on both sides
  pub named_both : (known more ids longer : List Text) (id : Text) → more ≡ known ++ id ∷ [] → longer ≡ ids ++ id ∷ [] → ((v : ℕ) → IsNamed g known v ↔ IsNamed g ids v) → (v : ℕ) → IsNamed g more v ↔ IsNamed g longer v
  named_both known more ids longer id e f was v =
      let a = named_more g known id v in
      let b = named_more g ids id v in
      rw (e, f) (
        λ h. b.1 (⊎_elim (λ old. inl ((was v).0 old)) (λ new. inr new) (a.0 h)),
        λ h. a.1 (⊎_elim (λ old. inl ((was v).1 old)) (λ new. inr new) (b.0 h)),
      )

  -- an id of no package names none
  pub named_over : (known ids longer : List Text) (id : Text) → IsUnknown g id → longer ≡ ids ++ id ∷ [] → ((v : ℕ) → IsNamed g known v ↔ IsNamed g ids v) → (v : ℕ) → IsNamed g known v ↔ IsNamed g longer v
  named_over known ids longer id unknown f was v =
      let b = named_more g ids id v in
      rw f (
        λ h. b.1 (inl ((was v).0 h)),
        λ h. ⊎_elim (λ old. (was v).1 old) (λ at. absurd (none_some (sym unknown ∙ at))) (b.0 h),
      )
