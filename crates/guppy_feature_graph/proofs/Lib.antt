pub mod ResolveFacts
pub mod FoundFacts
pub mod SetFacts
pub mod DependFacts
pub mod PackageFacts
pub mod TakeFacts
pub mod ListFacts
pub mod InitialFacts
