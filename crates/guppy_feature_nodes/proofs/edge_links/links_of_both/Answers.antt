use Rattle.std.proofs.Common.{sym, ◌∙◌, true≢false}
use Rattle.guppy_feature_nodes.proofs.EdgeLinkFacts.{joined_is}
use Rattle.guppy_feature_nodes.proofs.edge_links.links_of_both.Goals as goal

pub returns-then-is_empty : goal.returns-then-is_empty
returns-then-is_empty c =
    joined_is c.args.links.now c.args.places.now c.args.required.now c.args.optional.now c.new.result.items c.requires.required c.requires.optional (λ some other. absurd (true≢false (sym c.if-is_empty.true ∙ c.is_empty.ensures ∙ some)))

pub returns-then-is_empty-2 : goal.returns-then-is_empty-2
returns-then-is_empty-2 c =
    joined_is c.args.links.now c.args.places.now c.args.required.now c.args.optional.now c.new-then-is_empty-2.result.items c.requires.required c.requires.optional (λ some other. absurd (true≢false (sym c.if-is_empty-2.true ∙ c.is_empty-2.ensures ∙ other)))
