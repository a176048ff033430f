use Rattle.numbered_offers.specs.Graphs.{OfferGraphValue}
use Rattle.guppy_feature_graph.specs.declared.resolving.Offers.{Offers}
use Rattle.guppy_feature_graph.specs.declared.resolving.Offers.TheVariants.{Kept, Made}

-- what contracts see of edges that are offered
abbrev pub offers_view : Offers → OfferGraphValue
offers_view (Kept graph) = graph.now
offers_view (Made graph) = graph
