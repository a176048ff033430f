pub mod AppFacts
pub mod ReadingFacts
pub mod VerdictFacts
pub mod WordFacts
pub mod TellingFacts
pub mod RunFacts
