use Rattle.std.proofs.Common.{◌≡◌, ◌≢◌, ℕ, ◌+◌, ◌<◌, List, Vec, Global, ◌∷◌, [], length, get_or, take, map, flat_map, sym, subst, ap, ◌∙◌, arith}
use Rattle.std.proofs.lemmas.List.{map-append}
use Rattle.numbered_graph.specs.Cycles.{AreRuns}
use Rattle.numbered_graph.proofs.RunFacts.{flat_more, runs_more, cut_more}
use Rattle.numbered_graph.proofs.cycle_lists.runs_of.Goals as goal

pub loop-start-preserved : goal.loop-start-preserved
loop-start-preserved c =
    let keys = c.args.keys.now in
    let nodes = c.args.nodes.now in
    let before = c.loop-start.invariant in
    let run = c.in_ok-run.run'.items in
    let is = c.in_ok-run.ensures in
    let lists = λ (v : Vec ℕ Global). v.items in
    let old = map lists c.loop-start.runs.items in
    let size : c.len-start.result ≡ length run = omega (arith, c.len-start.ensures) in
    let more = ap (map lists) c.in_ok-push.ensures.items ∙ map-append lists c.loop-start.runs.items (c.in_ok-run.run' ∷ []) in
    record {
      within = let within = is.within in omega arith;
      whole = ap (flat_map (λ (xs : List ℕ). xs)) more ∙ flat_more keys nodes c.requires.together old c.loop-start.start before.whole before.runs before.cut run is ∙ ap (λ n. take (c.loop-start.start + n) nodes) (sym size);
      runs = subst (AreRuns keys) (sym more) (runs_more keys nodes c.requires.together old c.loop-start.start before.whole before.runs before.cut run is);
      cut = subst (λ n. (i : ℕ) → i < c.loop-start.start + n → c.loop-start.start + n < length nodes → get_or keys (get_or nodes i 0) 0 ≢ get_or keys (get_or nodes (c.loop-start.start + n) 0) 0) (sym size) (cut_more keys nodes c.requires.together old c.loop-start.start before.whole before.runs before.cut run is);
    }
