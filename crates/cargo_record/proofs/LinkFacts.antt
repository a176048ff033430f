-- Declared links, of which one gets a line more, or a link more.
use Rattle.std.proofs.Common.{◌≡◌, ℕ, ◌+◌, ◌<◌, ◌≤◌, List, [], ◌∷◌, ◌++◌, length, get_or, take, All, Contains, sym, subst, ap, ◌∙◌}
use Rattle.std.proofs.lemmas.List.{take_all, take_more}
use Rattle.std.proofs.lemmas.List.Elements.{All-append, All-set}
use Rattle.list_facts.proofs.Membership.{Contains-append_left, Contains-append_right, Contains-first}
use Rattle.list_facts.proofs.Quantifiers.{All-from_Contains}
use Rattle.workspace_record.specs.Records.{Text, Line, Link}
use Rattle.cargo_metadata.specs.Dependencies.{Declared}
use Rattle.cargo_metadata.specs.Packages.{Declaring}
use Rattle.cargo_record.specs.Lines.{IsDeclaredLink, StayDeclared, link_of, no_link}
use Rattle.cargo_record.proofs.RowFacts.{lined, one_of, with_line}

-- a line more in the link at a place
pub declared_in : (packages : List Declaring) (links : List Link) (i : ℕ) (line : Line) → i < length links → All (IsDeclaredLink packages) links → All (IsDeclaredLink packages) (lined links i line)
declared_in packages links i line lt all =
    let h = all i no_link lt in
    let grown : IsDeclaredLink packages (with_line (get_or links i no_link) line) = record { owner = h.owner; declared = h.declared; more = h.more ++ line ∷ []; is_owner = h.is_owner; is_declared = h.is_declared; is = ap (λ l. with_line l line) h.is } in
    All-set (IsDeclaredLink packages) links i (with_line (get_or links i no_link) line) grown all

-- a link more
pub declared_new : (links : List Link) (from to : Text) (d : Declared) → StayDeclared from d links (links ++ link_of from to d [] ∷ [])
declared_new links from to d packages p here same in_p all =
    let link = link_of from to d [] in
    let is : IsDeclaredLink packages link = record { owner = p; declared = d; more = []; is_owner = here; is_declared = in_p; is = ap (λ id. link_of id to d []) (sym same) } in
    All-append (IsDeclaredLink packages) links (link ∷ []) all (All-from_Contains (IsDeclaredLink packages) (link ∷ []) (λ l h. subst (IsDeclaredLink packages) (one_of link l h) is))

module _ (packages : List Declaring) (i : ℕ) where
  -- declared by the packages up to the next one
  pub declared_next : (p : Declaring) (links new : List Link) → i < length packages → p ≡ get_or packages i p → ((ps : List Declaring) → Contains ps p → All (IsDeclaredLink ps) links → All (IsDeclaredLink ps) new) → All (IsDeclaredLink (take i packages)) links → All (IsDeclaredLink (take (i + 1) packages)) new
  declared_next p links new lt is stay all =
      let front = take i packages in
      let later : All (IsDeclaredLink (front ++ p ∷ [])) links = λ k d inside. let h = all k d inside in record { owner = h.owner; declared = h.declared; more = h.more; is_owner = Contains-append_left front (p ∷ []) h.owner h.is_owner; is_declared = h.is_declared; is = h.is } in
      let one : front ++ p ∷ [] ≡ take (i + 1) packages = ap (λ q. front ++ q ∷ []) is ∙ sym (take_more packages i p lt) in
      subst (λ ps. All (IsDeclaredLink ps) new) one (stay (front ++ p ∷ []) (Contains-append_right front (p ∷ []) p (Contains-first p [])) later)

  pub declared_all : (links : List Link) → length packages ≤ i → All (IsDeclaredLink (take i packages)) links → All (IsDeclaredLink packages) links
  declared_all links le all = subst (λ ps. All (IsDeclaredLink ps) links) (take_all i packages le) all
