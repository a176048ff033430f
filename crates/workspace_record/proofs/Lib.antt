pub mod TableFacts
pub mod PackageFacts
pub mod LinkFacts
pub mod TextFacts
