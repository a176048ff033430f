-- Links between two places, and what a cache remembers.
use Rattle.std.proofs.Common.{◌≡◌, ◌∙◌, ◌↔◌, ◌<◌, ℕ, Bool, true, false, not, Option, Some, None, IfSome, IfNone, IsTrue, length, ap, subst, sym, refl, true≢false}
use Rattle.std.proofs.Math.Dec.{eqb}
use Rattle.std.proofs.lemmas.Bool.{eqb-true}
use Rattle.std.specs.Option.{is_some, option_eq}
use Rattle.numbered_graph.specs.Paths.{Reaches, any_link}
use Rattle.numbered_graph.specs.Sets.{has}
use Rattle.guppy_package_table.specs.Tables.{IsClear, IsFirstBetween, TableValue, numbered_links}
use Rattle.guppy_package_graph.specs.Depending.{HasLink}
use Rattle.guppy_package_graph.specs.declared.depends_cache.DependsCache.TheInside.{Inside}

-- what a look for the first link between two places answers
pub record SaysBetween (g : TableValue) (from to : ℕ) (found : Option ℕ) : Type 0 where
  pub some : IfSome found (IsFirstBetween from to (numbered_links g))
  pub none : IfNone found (IsClear from to (numbered_links g) (length g.links))

pub linked : (g : TableValue) (from to : ℕ) (found : Option ℕ) → length (numbered_links g) ≡ length g.links → IfSome found (IsFirstBetween from to (numbered_links g)) → IfNone found (IsClear from to (numbered_links g) (length g.links)) → IsTrue (is_some found) ↔ HasLink g from to
linked g from to (Some j) sized some none = (λ _. record { number = j; within = subst (λ n. j < n) sized some.within; between = some.between }, λ _. refl)
linked g from to None sized some none = (λ h. absurd (true≢false (sym h)), λ h. absurd (none h.number h.within h.between))

-- a cache was last asked about the place, and has what it reaches
pub record Remembers (g : TableValue) (from : ℕ) (cache : Inside) : Type 0 where
  pub graph : cache.graph.now ≡ g
  pub last : cache.from ≡ Some from
  pub each : (v : ℕ) → IsTrue (has cache.reached v) ↔ Reaches (numbered_links g) any_link from v

pub remembered : (g : TableValue) (from : ℕ) (cache : Inside) → Remembers g from cache → (last : ℕ) → cache.from ≡ Some last → (v : ℕ) → IsTrue (has cache.reached v) ↔ Reaches (numbered_links cache.graph.now) any_link last v
remembered g from cache knows last is v =
    let e = sym knows.last ∙ is in
    let same : from ≡ last = cc in
    let here = subst (λ w. IsTrue (has cache.reached v) ↔ Reaches (numbered_links g) any_link w v) same (knows.each v) in
    subst (λ (t : TableValue). IsTrue (has cache.reached v) ↔ Reaches (numbered_links t) any_link last v) (sym knows.graph) here

opposite : (b : Bool) → not b ≡ false → b ≡ true
opposite true e = refl
opposite false e = sym e

-- a place that does not differ from the last is the last
pub same_last : (last : Option ℕ) (place : ℕ) → not (option_eq eqb last (Some place)) ≡ false → last ≡ Some place
same_last (Some v) place e = ap Some (eqb-true v place (opposite (eqb v place) e))
same_last None place e = absurd (true≢false e)
