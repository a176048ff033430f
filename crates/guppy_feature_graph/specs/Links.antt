-- Links that are shown where offers are made.
use Rattle.guppy_feature_demands.specs.declared.link_declarations.LinkDeclarations.{LinkDeclarations}
use Rattle.guppy_feature_demands.specs.declared.link_declarations.LinkDeclarations.TheVariants as shown
use Rattle.guppy_feature_nodes.specs.Graphs.{FeatureGraphValue}
use Rattle.guppy_feature_views.specs.Links.{LinkValue}
use Rattle.numbered_offers.specs.declared.offer.Offer.{Offer}
use Rattle.numbered_offers.specs.declared.offer.OfferKind.{OfferKind}
use Rattle.numbered_offers.specs.declared.offer.OfferKind.TheVariants.{Unsplit, Required, Optional}

-- which lines an offer stands on
abbrev pub declarations_of : OfferKind → LinkDeclarations
declarations_of Unsplit = shown.Unsplit
declarations_of Required = shown.Required
declarations_of Optional = shown.Optional

-- the link that is shown where an offer is made (from guppy's `ConditionalLink`)
abbrev pub link_of : FeatureGraphValue → Offer → LinkValue
link_of g o = record { graph = g; number = o.edge; declarations = declarations_of o.kind }
