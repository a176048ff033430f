-- A graph: so many nodes, numbered from 0, and a list of links between them.
use Rattle.std.specs.Prelude.{ℕ, List}
use Rattle.numbered_graph.specs.declared.link.Link.{Link}
use Rattle.numbered_graph.specs.declared.direction.Direction.TheVariants.{Forward, Reverse}
use Rattle.numbered_graph.specs.declared.chains.Chains.{Chains}
use Rattle.numbered_graph.specs.Links.{AreWithin}
use Rattle.numbered_graph.specs.Chains.{AreChains}

pub record GraphValue : Type 0 where
  pub nodes : ℕ
  pub links : List Link

-- what a graph keeps beside its nodes and links: their ends are nodes, and they are chained by both ends
pub record IsKept (nodes : ℕ) (links : List Link) (leaving entering : Chains) : Type 0 where
  pub within : AreWithin nodes links
  pub leaves : AreChains Forward nodes links leaving
  pub enters : AreChains Reverse nodes links entering
