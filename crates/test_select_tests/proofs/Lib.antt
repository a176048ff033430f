pub mod FilteringFacts
pub mod FirstFacts
pub mod KnownFacts
pub mod SomeFacts
pub mod LendingFacts
pub mod NamedFacts
pub mod ChoosingFacts
pub mod TakingFacts
pub mod KeptFacts
pub mod ListingFacts
pub mod MayFacts
pub mod PassFacts
pub mod PlanFacts
pub mod ReadingFacts
pub mod SelectingFacts
pub mod WantedFacts
pub mod AscendingFacts
mod ByteFacts
mod ReportFacts
pub mod ExplainingFacts
pub mod FoundFacts
pub mod ReasonFacts
pub mod ReasonLaws
pub mod TellingFacts
pub mod PartFacts
pub mod PartitionReading
pub mod GroupFacts
pub mod OnceFacts
