-- The answers of a table, spec by spec.
use Rattle.std.proofs.Common.{◌≡◌, ℕ, ◌+◌, ◌<◌, ◌≤◌, Bool, true, false, cond, List, [], ◌∷◌, ◌++◌, length, take, map, get_or, Contains, Option, Some, None, inl, inr, bytes_eq, Bor, refl, sym, subst, ap, ◌∙◌}
use Rattle.std.proofs.lemmas.Bool.{false≢true}
use Rattle.std.proofs.lemmas.List.{get_or_default, map-append, take_all, take_more}
use Rattle.std.proofs.lemmas.Slice.Eq.{bytes_eq-Decides}
use Rattle.list_facts.proofs.Membership.{Contains-append_cases, Contains-map, Contains-append_left, Contains-append_right, Contains-cons_cases, Contains-first, Contains-none}
use Rattle.workspace_record.specs.Records.{Text}
use Rattle.cargo_files.specs.Settings.{Setting}
use Rattle.cargo_files.specs.Specs.{IsSpec}
use Rattle.cargo_files.specs.TableAnswers.{IsAnswer, IsRefusal, IsRefusedAs, Says}
use Rattle.cargo_files.specs.declared.cfg_table.TableError.{TableError}
use Rattle.cargo_files.specs.declared.cfg_table.TableError.TheVariants as error

module _ (triple : Text) (settings : List Setting) where
  pub no_answer : (spec : Text) → IsAnswer triple settings [] spec None
  no_answer spec h = Contains-none spec h

  pub answer_found : (front : List Text) (key spec : Text) (b : Bool) → key ≡ spec → Says triple settings key b → IsAnswer triple settings (front ++ key ∷ []) spec (Some b)
  answer_found front key spec b is says =
      (Contains-append_right front (key ∷ []) spec (subst (λ k. Contains (key ∷ []) k) is (Contains-first key [])), subst (λ k. Says triple settings k b) is says)

  -- an answer that was there, and stays
  pub answer_kept : (front : List Text) (key spec : Text) (old : Option Bool) → (key ≡ spec → ⊥) → IsAnswer triple settings front spec old → IsAnswer triple settings (front ++ key ∷ []) spec old
  answer_kept front key spec (Some b) other h = (Contains-append_left front (key ∷ []) spec h.0, h.1)
  answer_kept front key spec None other h =
      λ found. elim (Contains-append_cases front (key ∷ []) spec found) [
        | inl before ↦ h before
        | inr last ↦ elim (Contains-cons_cases key [] spec last) [ inl is ↦ other is | inr none ↦ Contains-none spec none ]
      ]

  answer_by : (front : List Text) (key spec : Text) (b : Bool) (old : Option Bool) (same : Bool) → bytes_eq key spec ≡ same → Says triple settings key b → IsAnswer triple settings front spec old → IsAnswer triple settings (front ++ key ∷ []) spec (cond same (Some b) old)
  answer_by front key spec b old true is says h =
      answer_found front key spec b ((bytes_eq-Decides key spec).0 is) says
  answer_by front key spec b old false is says h =
      answer_kept front key spec old (λ e. false≢true (sym is ∙ (bytes_eq-Decides key spec).1 e)) h

  pub answer_more : (front : List Text) (key spec : Text) (b : Bool) (old : Option Bool) → Says triple settings key b → IsAnswer triple settings front spec old → IsAnswer triple settings (front ++ key ∷ []) spec (cond (bytes_eq key spec) (Some b) old)
  answer_more front key spec b old says h = answer_by front key spec b old (bytes_eq key spec) refl says h

-- what one of the texts is refused as refuses them all
pub refuses_all : (specs : List Text) (spec : Text) (e : TableError) → Contains specs spec → IsRefusedAs spec e → IsRefusal specs e
refuses_all specs spec (error.Spec text fault) h refused =
    (subst (λ t. Contains specs t) (sym refused.0) h, λ s is. refused.1 s (subst (λ t. IsSpec t s) refused.0 is))
refuses_all specs spec error.Memory h refused = tt

abbrev texts_of : List (Bor Text) → List Text
texts_of specs = map (λ s. s.now) specs

pub answers_at_end : (triple : Text) (settings : List Setting) (i : ℕ) (specs : List (Bor Text)) (spec : Text) (answer : Option Bool) → length specs ≤ i → IsAnswer triple settings (texts_of (take i specs)) spec answer → IsAnswer triple settings (texts_of specs) spec answer
answers_at_end triple settings i specs spec answer h is = rw (take_all i specs h) at is

pub answers_one_more : (triple : Text) (settings : List Setting) (i : ℕ) (specs : List (Bor Text)) (d : Bor Text) (spec key : Text) (b : Bool) (old new : Option Bool) → i < length specs → key ≡ (get_or specs i d).now → Says triple settings (get_or specs i d).now b → new ≡ cond (bytes_eq key spec) (Some b) old → IsAnswer triple settings (texts_of (take i specs)) spec old → IsAnswer triple settings (texts_of (take (i + 1) specs)) spec new
answers_one_more triple settings i specs d spec key b old new lt is says updated before =
    let more : texts_of (take (i + 1) specs) ≡ texts_of (take i specs) ++ (get_or specs i d).now ∷ [] = ap texts_of (take_more specs i d lt) ∙ map-append (λ s. s.now) (take i specs) (get_or specs i d ∷ []) in
    let says_key : Says triple settings key b = subst (λ t. Says triple settings t b) (sym is) says in
    let whole : IsAnswer triple settings (texts_of (take i specs) ++ key ∷ []) spec (cond (bytes_eq key spec) (Some b) old) = answer_more triple settings (texts_of (take i specs)) key spec b old says_key before in
    let placed : IsAnswer triple settings (texts_of (take (i + 1) specs)) spec (cond (bytes_eq key spec) (Some b) old) = subst (λ ts. IsAnswer triple settings ts spec (cond (bytes_eq key spec) (Some b) old)) (ap (λ t. texts_of (take i specs) ++ t ∷ []) is ∙ sym more) whole in
    subst (λ a. IsAnswer triple settings (texts_of (take (i + 1) specs)) spec a) (sym updated) placed

pub one_refused : (i : ℕ) (specs : List (Bor Text)) (d : Bor Text) (e : TableError) → i < length specs → IsRefusedAs (get_or specs i d).now e → IsRefusal (texts_of specs) e
one_refused i specs d e lt refused =
    refuses_all (texts_of specs) (get_or specs i d).now e (Contains-map (λ s. s.now) specs (get_or specs i d) (i, lt, get_or_default specs i (get_or specs i d) d lt)) refused
