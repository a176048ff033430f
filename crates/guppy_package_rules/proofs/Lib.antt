pub mod PlaceFacts
pub mod PathFacts
pub mod Positions
pub mod FoundFacts
pub mod RepeatFacts
pub mod KeptFacts
pub mod FaultFacts
pub mod ReadingFacts
