pub mod AskingFacts
pub mod ReadingFacts
pub mod ListFacts
pub mod ConversionFacts
pub mod RunFacts
