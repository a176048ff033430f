-- Paths joined, made longer, and closed sets.
use Rattle.std.proofs.Common.{◌≡◌, ℕ, zero, suc, ◌<◌, Bool, true, false, List, [], ◌∷◌, ◌++◌, length, replicate, ◌↔◌, Contains, refl, sym, subst, arith}
use Rattle.numbered_graph.specs.declared.link.Link.{Link}
use Rattle.numbered_graph.specs.declared.direction.Direction.{Direction}
use Rattle.numbered_graph.specs.declared.direction.Direction.TheVariants.{Forward, Reverse}
use Rattle.numbered_graph.specs.Links.{link_at, near_at, far_at}
use Rattle.std.proofs.lemmas.List.{get_or-replicate}
use Rattle.numbered_graph.specs.Sets.{has}
use Rattle.numbered_graph.specs.Paths.{any_link, IsPath, Reaches, LeadsOn, IsReached}

module _ (links : List Link) where
  -- a path over links that pass one test, where those pass another one too
  pub IsPath-weaker : (p q : ℕ → Bool) → ((j : ℕ) → j < length links → p j ≡ true → q j ≡ true) → (a : ℕ) (js : List ℕ) (b : ℕ) → IsPath links p a js b → IsPath links q a js b
  IsPath-weaker p q weaker a [] b h = h
  IsPath-weaker p q weaker a (j ∷ js) b h = (h.0, weaker j h.0 h.1, h.2, IsPath-weaker p q weaker (link_at links j).to js b h.3)

  pub IsPath-append : (p : ℕ → Bool) (a : ℕ) (js : List ℕ) (b : ℕ) (ks : List ℕ) (c : ℕ) → IsPath links p a js b → IsPath links p b ks c → IsPath links p a (js ++ ks) c
  IsPath-append p a [] b ks c h k = subst (λ x. IsPath links p x ks c) (sym h) k
  IsPath-append p a (j ∷ js) b ks c h k = (h.0, h.1, h.2, IsPath-append p (link_at links j).to js b ks c h.3 k)

  -- what holds at the start, and at the end of each link if at its beginning, holds where a path ends
  pub IsPath-carries : (p : ℕ → Bool) (S : ℕ → Type 0) → ((j : ℕ) → j < length links → p j ≡ true → S (link_at links j).from → S (link_at links j).to) → (a : ℕ) (js : List ℕ) (b : ℕ) → IsPath links p a js b → S a → S b
  IsPath-carries p S on a [] b h s = subst S h s
  IsPath-carries p S on a (j ∷ js) b h s = IsPath-carries p S on (link_at links j).to js b h.3 (on j h.0 h.1 (subst S (sym h.2) s))

  -- the same against the links
  pub IsPath-carries_back : (p : ℕ → Bool) (S : ℕ → Type 0) → ((j : ℕ) → j < length links → p j ≡ true → S (link_at links j).to → S (link_at links j).from) → (a : ℕ) (js : List ℕ) (b : ℕ) → IsPath links p a js b → S b → S a
  IsPath-carries_back p S on a [] b h s = subst S (sym h) s
  IsPath-carries_back p S on a (j ∷ js) b h s = subst S h.2 (on j h.0 h.1 (IsPath-carries_back p S on (link_at links j).to js b h.3 s))

  pub Reaches-refl : (p : ℕ → Bool) (a : ℕ) → Reaches links p a a
  Reaches-refl p a = record { path = []; leads = refl }

  pub Reaches-link : (p : ℕ → Bool) (j : ℕ) → j < length links → p j ≡ true → Reaches links p (link_at links j).from (link_at links j).to
  Reaches-link p j lt ok = record { path = j ∷ []; leads = (lt, ok, refl, refl) }

module _ {links : List Link} {p : ℕ → Bool} where
  pub Reaches-trans : {a b c : ℕ} → Reaches links p a b → Reaches links p b c → Reaches links p a c
  Reaches-trans {a} {b} {c} h k = record { path = h.path ++ k.path; leads = IsPath-append links p a h.path b k.path c h.leads k.leads }

  pub Reaches-weaker : {q : ℕ → Bool} → ((j : ℕ) → j < length links → p j ≡ true → q j ≡ true) → {a b : ℕ} → Reaches links p a b → Reaches links q a b
  Reaches-weaker {q} weaker {a} {b} h = record { path = h.path; leads = IsPath-weaker links p q weaker a h.path b h.leads }

-- each link passes a flag that is set for all
pub Reaches-by_all : (links : List Link) (a b : ℕ) → Reaches links (has (replicate (length links) true)) a b ↔ Reaches links any_link a b
Reaches-by_all links a b = (Reaches-weaker (λ j lt h. refl), Reaches-weaker (λ j lt h. get_or-replicate (length links) j true false lt))

-- one link more in a direction
pub LeadsOn-more : (d : Direction) (links : List Link) (p : ℕ → Bool) (a j : ℕ) → j < length links → p j ≡ true → LeadsOn d links p a (near_at d links j) → LeadsOn d links p a (far_at d links j)
LeadsOn-more Forward links p a j lt ok h = Reaches-trans h (Reaches-link links p j lt ok)
LeadsOn-more Reverse links p a j lt ok h = Reaches-trans (Reaches-link links p j lt ok) h

LeadsOn-refl : (d : Direction) (links : List Link) (p : ℕ → Bool) (a : ℕ) → LeadsOn d links p a a
LeadsOn-refl Forward links p a = Reaches-refl links p a
LeadsOn-refl Reverse links p a = Reaches-refl links p a

LeadsOn-weaker : (d : Direction) (links : List Link) (p q : ℕ → Bool) → ((j : ℕ) → j < length links → p j ≡ true → q j ≡ true) → (a b : ℕ) → LeadsOn d links p a b → LeadsOn d links q a b
LeadsOn-weaker Forward links p q weaker a b h = Reaches-weaker weaker h
LeadsOn-weaker Reverse links p q weaker a b h = Reaches-weaker weaker h

LeadsOn-carries : (d : Direction) (links : List Link) (p : ℕ → Bool) (S : ℕ → Type 0) → ((j : ℕ) → j < length links → p j ≡ true → S (near_at d links j) → S (far_at d links j)) → (a b : ℕ) → LeadsOn d links p a b → S a → S b
LeadsOn-carries Forward links p S on a b h s = IsPath-carries links p S on a h.path b h.leads s
LeadsOn-carries Reverse links p S on a b h s = IsPath-carries_back links p S on b h.path a h.leads s

module _ (d : Direction) (links : List Link) (p : ℕ → Bool) (starts : List ℕ) where
  pub IsReached-start : (v : ℕ) → Contains starts v → IsReached d links p starts v
  IsReached-start v h = record { start = v; among = h; leads = LeadsOn-refl d links p v }

  pub IsReached-more : (j : ℕ) → j < length links → p j ≡ true → IsReached d links p starts (near_at d links j) → IsReached d links p starts (far_at d links j)
  IsReached-more j lt ok h = record { start = h.start; among = h.among; leads = LeadsOn-more d links p h.start j lt ok h.leads }

  pub IsReached-weaker : (q : ℕ → Bool) → ((j : ℕ) → j < length links → p j ≡ true → q j ≡ true) → (more : List ℕ) → ((v : ℕ) → Contains starts v → Contains more v) → (v : ℕ) → IsReached d links p starts v → IsReached d links q more v
  IsReached-weaker q weaker more wider v h = record { start = h.start; among = wider h.start h.among; leads = LeadsOn-weaker d links p q weaker h.start v h.leads }

  -- a set that has the starts, and with the near end of each link that passes its far end, has what is reached
  pub IsReached-closed : (S : ℕ → Type 0) → ((v : ℕ) → Contains starts v → S v) → ((j : ℕ) → j < length links → p j ≡ true → S (near_at d links j) → S (far_at d links j)) → (v : ℕ) → IsReached d links p starts v → S v
  IsReached-closed S begins on v h = LeadsOn-carries d links p S on h.start v h.leads (begins h.start h.among)

-- what is reached from one start alone
pub reached_from_one : (links : List Link) (p : ℕ → Bool) (from to : ℕ) → IsReached Forward links p (from ∷ []) to ↔ Reaches links p from to
reached_from_one links p from to = (λ h. of_one h.start h.among h.leads, λ leads. record { start = from; among = (0, omega arith, refl); leads = leads })
  where
    of_one : (start : ℕ) → Contains (from ∷ []) start → Reaches links p start to → Reaches links p from to
    of_one start (zero, lt, is) leads = subst (λ v. Reaches links p v to) (sym is) leads
    of_one start (suc k, lt, is) leads = absurd (omega (arith, lt))
