use Rattle.std.proofs.Common.{◌∙◌, ◌↔◌, IsTrue, refl, subst, sym}
use Rattle.numbered_graph.specs.Paths.{Reaches, any_link}
use Rattle.guppy_package_table.specs.Tables.{TableValue, numbered_links}
use Rattle.guppy_package_graph.specs.Depending.{SaysReaches}
use Rattle.guppy_package_graph.proofs.DependFacts.{Remembers, remembered, same_last}
use Rattle.guppy_package_graph.proofs.depends_cache.DependsCache.depends_on.Goals as goal
use Rattle.guppy_package_graph.proofs.depends_cache.DependsCache.depends_on.Goals.{After-contains, then-ne+in_ok-reached-in-Ok, else-ne}

-- whether the place was new or not, it is now the last
remembers : (c : After-contains) → Remembers c.self.inside.graph.now c.in-Ok.from c.if-ne.self-inside
remembers c =
    let here = Remembers c.self.inside.graph.now c.in-Ok.from in
    elim c.if-ne.branch [
      | then-ne+in_ok-reached-in-Ok w ↦ subst here (sym w.self-inside-is) (record { graph = refl; last = refl; each = w.in_ok-reached-in-Ok.ensures })
      | else-ne w ↦
          let last = same_last c.self.inside.from c.in-Ok.from (sym c.ne.ensures ∙ w.if-ne.false) in
          subst here (sym w.self-inside-is) (record { graph = refl; last = last; each = c.self.invariant c.in-Ok.from last })
    ]

pub places_from-requires : goal.places_from-requires
places_from-requires c = c.in-Ok.ensures.2

pub invariant_of-self : goal.invariant_of-self
invariant_of-self c = remembered c.self.inside.graph.now c.in-Ok.from c.if-ne.self-inside (remembers c)

pub returns-after-ne-clause-answer : goal.returns-after-ne-clause-answer
returns-after-ne-clause-answer c =
    let from = c.in-Ok.from in
    let to = c.in-Ok.to in
    let says = subst (λ b. IsTrue b ↔ Reaches (numbered_links c.self.inside.graph.now) any_link from to) (sym c.contains.ensures.member) ((remembers c).each to) in
    let answers = λ (g : TableValue). SaysReaches g c.args.package_a.now c.args.package_b.now c.contains.result in
    let both = c.in-Ok.ensures in
    subst answers c.self.view_is (record { from = from; to = to; is_from = both.0; is_to = both.1; says = says })

pub returns-after-ne-clause-graph : goal.returns-after-ne-clause-graph
returns-after-ne-clause-graph c = (remembers c).graph ∙ c.self.view_is
