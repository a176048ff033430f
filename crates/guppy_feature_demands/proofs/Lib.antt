pub mod EntriesFacts
pub mod FirstFacts
pub mod KeptFacts
pub mod LinkFacts
pub mod NumberFacts
pub mod LoopFacts
