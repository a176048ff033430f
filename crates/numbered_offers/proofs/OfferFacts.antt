-- Offers told apart.
use Rattle.std.proofs.Common.{◌≡◌, ℕ, true, ◌==◌, ◌⊎◌, inl, inr, refl, ap, ◌∙◌, arith}
use Rattle.std.proofs.lemmas.Bool.Decides.{nat_tests}
use Rattle.std.proofs.lemmas.Bool.{and_parts, false≢true}
use Rattle.numbered_offers.specs.declared.offer.Offer.{Offer}
use Rattle.numbered_offers.specs.declared.offer.OfferKind.{OfferKind}
use Rattle.numbered_offers.specs.declared.offer.OfferKind.TheVariants.{Unsplit, Required, Optional}
use Rattle.numbered_offers.specs.Edges.{kind_number, same_offer}

-- by cases
pub either : {A B C : Type 0} → (A → C) → (B → C) → A ⊎ B → C
either f g (inl a) = f a
either f g (inr b) = g b

same_kind : (a b : OfferKind) → (kind_number a == kind_number b) ≡ true → a ≡ b
same_kind Unsplit Unsplit h = refl
same_kind Unsplit Required h = absurd (false≢true h)
same_kind Unsplit Optional h = absurd (false≢true h)
same_kind Required Unsplit h = absurd (false≢true h)
same_kind Required Required h = refl
same_kind Required Optional h = absurd (false≢true h)
same_kind Optional Unsplit h = absurd (false≢true h)
same_kind Optional Required h = absurd (false≢true h)
same_kind Optional Optional h = refl

pub same_edge : (a b : ℕ) → (a == b) ≡ true → a ≡ b
same_edge a b h = grind (arith, nat_tests, h)

pub same_offer-is : (p o : Offer) → same_offer p o ≡ true → p ≡ o
same_offer-is p o h =
    let parts = and_parts (p.edge == o.edge) (kind_number p.kind == kind_number o.kind) h in
    ap (λ e. record { edge = e; kind = p.kind }) (same_edge p.edge o.edge parts.0) ∙ ap (λ k. record { edge = o.edge; kind = k }) (same_kind p.kind o.kind parts.1)
