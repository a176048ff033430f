-- Links that are apart, of which one gets a line more, or a link more.
use Rattle.std.proofs.Common.{◌≡◌, ◌≢◌, ℕ, zero, suc, ◌<◌, ◌≤◌, List, [], ◌∷◌, ◌++◌, length, length-append, get_or, set, take, All, AllPairs, ⊎_elim, arith, refl, sym, subst, ap, ◌∙◌}
use Rattle.std.proofs.Math.ListN.{get_or-append}
use Rattle.std.proofs.lemmas.Bool.{cases_lt}
use Rattle.std.proofs.lemmas.List.{get_or_default, get_or-take, length-set, length-take}
use Rattle.std.proofs.lemmas.List.Quantifiers.{all_pairs_push}
use Rattle.workspace_record.specs.Records.{Text, Line, Link}
use Rattle.cargo_metadata.specs.Dependencies.{Declared, name_of}
use Rattle.cargo_metadata.specs.Packages.{Declaring}
use Rattle.cargo_record.specs.Lines.{AreApart, AreApartFrom, IsDeclaredLink, IsLink, IsLinkAt, link_of, no_link}
use Rattle.cargo_record.proofs.RowFacts.{lined, with_line}

lined_still : (links : List Link) (i : ℕ) (e : Link) (line : Line) (k : ℕ) (d : Link) → IsLink (get_or (set links i (with_line (get_or links i e) line)) k d) (get_or links k d).from (get_or links k d).to (get_or links k d).name
lined_still [] i e line k d = (refl, refl, refl)
lined_still (l ∷ ls) zero e line zero d = (refl, refl, refl)
lined_still (l ∷ ls) zero e line (suc k) d = (refl, refl, refl)
lined_still (l ∷ ls) (suc i) e line zero d = (refl, refl, refl)
lined_still (l ∷ ls) (suc i) e line (suc k) d = lined_still ls i e line k d

module _ (start : ℕ) (id : Text) (links : List Link) (apart : AreApartFrom start id links) where
  pub apart_in : (i : ℕ) (line : Line) → AreApartFrom start id (lined links i line)
  apart_in i line =
      let still = lined_still links i no_link line in
      let long : length (lined links i line) ≡ length links = length-set links i (with_line (get_or links i no_link) line) in
      record {
        within = rw long apart.within;
        before = λ k lt same. apart.before k lt (sym (still k no_link).0 ∙ same);
        apart = λ j k d lt inside same. apart.apart j k d lt (rw long at inside) (sym (still j d).0 ∙ same.0 ∙ (still k d).0, sym (still j d).1 ∙ same.1 ∙ (still k d).1, sym (still j d).2 ∙ same.2 ∙ (still k d).2);
      }

  pub apart_new : (to : Text) (d : Declared) → ((k : ℕ) → start ≤ k → k < length links → ¬ IsLinkAt links k id to (name_of d)) → AreApartFrom start id (links ++ link_of id to d [] ∷ [])
  apart_new to d none =
      let link = link_of id to d [] in
      record {
        within = let long = length-append links (link ∷ []) in let within = apart.within in omega arith;
        before = λ k lt same. let inside : k < length links = let within = apart.within in omega arith in apart.before k lt (sym (ap (λ l. l.from) (get_or-append links (link ∷ []) no_link k inside)) ∙ same);
        apart = all_pairs_push (λ a b. ¬ IsLink a b.from b.to b.name) links link apart.apart (λ k e inside same.
            let at : IsLinkAt links k id to (name_of d) = subst (λ l. IsLink l id to (name_of d)) (get_or_default links k e no_link inside) same in
            ⊎_elim (λ lt. apart.before k lt at.0) (λ le. none k le inside at) (cases_lt k start));
      }

-- links of other packages than one, apart: all before their end are of others
pub apart_from : (id : Text) (links : List Link) (start : ℕ) → start ≡ length links → All (λ l. l.from ≢ id) links → AreApart links → AreApartFrom start id links
apart_from id links start end others apart =
    record { within = omega arith; before = λ k lt. others k no_link (omega arith); apart = apart }

-- the links of the packages before one are of others than it
pub of_others : (packages : List Declaring) (i : ℕ) (p : Declaring) (links : List Link) → i < length packages → p ≡ get_or packages i p → AllPairs (λ p q. p.row.id ≢ q.row.id) packages → All (IsDeclaredLink (take i packages)) links → All (λ l. l.from ≢ p.row.id) links
of_others packages i p links lt is differ all k d inside same =
    let h = all k d inside in
    let j = h.is_owner.0 in
    let before : j < i = let short = length-take i packages in let here = h.is_owner.1 in omega arith in
    let within : j < length packages = omega arith in
    let owner : get_or packages j p ≡ h.owner = get_or_default packages j p h.owner within ∙ sym (get_or-take i packages j h.owner before) ∙ h.is_owner.2 in
    differ j i p before lt (ap (λ q. q.row.id) owner ∙ sym (ap (λ l. l.from) h.is) ∙ same ∙ ap (λ q. q.row.id) is)
