-- The listing of one binary, for which alone the lister was asked.
use Rattle.std.proofs.Common.{◌≡◌, subst, sym, List, [], ◌∷◌, map, Vec, String, slice_index_or}
use Rattle.std.specs.Global.{Global}
use Rattle.list_facts.specs.Texts.{texts}
use Rattle.workspace_record.specs.Records.{Text}
use Rattle.nextest_binaries.specs.Listers.{Shown}
use Rattle.nextest_binaries.specs.Asking.{Answered}

none_of_one : {X : Type 0} {x : X} → [] ≡ x ∷ [] → ⊥
none_of_one e = cc

two_of_one : {X : Type 0} {x y z : X} {xs : List X} → x ∷ y ∷ xs ≡ z ∷ [] → ⊥
two_of_one e = cc

abbrev answers : List (Vec (String Global) Global) → List (List Text)
answers listings = map (λ listing. texts listing.items) listings

module _ (old new : Shown) (id : Text) where
  one_of : (listings : List (Vec (String Global) Global)) (first : Vec (String Global) Global) → first ≡ slice_index_or listings 0 first → Answered old (id ∷ []) (answers listings) new → Answered old (id ∷ []) (texts first.items ∷ []) new
  one_of [] first is h = absurd (none_of_one h.held)
  one_of (l ∷ []) first is h = subst (λ (x : Vec (String Global) Global). Answered old (id ∷ []) (texts x.items ∷ []) new) (sym is) h
  one_of (l ∷ k ∷ ls) first is h = absurd (two_of_one h.held)

  -- where one id was told, the first listing is the one
  pub one_listing : (told : List Text) (listings : List (Vec (String Global) Global)) (first : Vec (String Global) Global) → told ≡ id ∷ [] → first ≡ slice_index_or listings 0 first → Answered old told (answers listings) new → Answered old (id ∷ []) (texts first.items ∷ []) new
  one_listing told listings first telling is h =
      one_of listings first is (subst (λ ts. Answered old ts (answers listings) new) telling h)
