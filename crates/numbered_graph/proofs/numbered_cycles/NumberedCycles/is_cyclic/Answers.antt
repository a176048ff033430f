use Rattle.std.proofs.Common.{◌≡◌, ◌<◌, ◌∙◌, arith, length, map, rules, subst, sym}
use Rattle.std.proofs.lemmas.Bool.{eqb-true, eq-eqb}
use Rattle.std.proofs.lemmas.Bool.Decides.{nat_tests}
use Rattle.std.proofs.lemmas.List.{length-map}
use Rattle.numbered_graph.proofs.CycleNumbering.{other_is, says_cyclic}
use Rattle.numbered_graph.proofs.numbered_cycles.NumberedCycles.is_cyclic.Goals as goal

pub returns-then-number-len : goal.returns-then-number-len
returns-then-number-len c d links cyclic =
    let numbers = c.self.inside.numbers.items in
    let cycles = c.self.inside.cycles.items in
    let lists = map (λ x. x.items) cycles in
    let items : c.len.result ≡ length cycles = search rules in
    let lt : c.index-number.result.now < length lists = subst (λ n. c.index-number.result.now < n) (items ∙ sym (length-map cycles (λ x. x.items))) c.if-number-len.true in
    let y = c.index.result.now in
    let y_is = other_is numbers lists c.args.self.now c.self.view_is c.requires y c.index.ensures in
    let says = says_cyclic numbers lists c.args.self.now c.self.view_is c.requires c.self.invariant c.index-number.result.now c.index-number.ensures cyclic in
    (λ h. says.0 (lt, eqb-true c.index-number.result.now y h ∙ y_is), λ h. eq-eqb c.index-number.result.now y ((says.1 h).1 ∙ sym y_is))

pub returns-else-number-len : goal.returns-else-number-len
returns-else-number-len c d links cyclic =
    let numbers = c.self.inside.numbers.items in
    let cycles = c.self.inside.cycles.items in
    let lists = map (λ x. x.items) cycles in
    let items : c.len.result ≡ length cycles = search rules in
    let count = items ∙ sym (length-map cycles (λ x. x.items)) in
    let says = says_cyclic numbers lists c.args.self.now c.self.view_is c.requires c.self.invariant c.index-number.result.now c.index-number.ensures cyclic in
    let not_below = c.if-number-len.false in
    (λ h. absurd (grind (arith, nat_tests, h, not_below)), λ h. let lt = (says.1 h).0 in absurd (omega (arith, lt, count, not_below)))
