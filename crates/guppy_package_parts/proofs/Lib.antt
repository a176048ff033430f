pub mod SetFacts
pub mod TextParts
pub mod RequestFacts
pub mod TernaryFacts
pub mod StatusFacts
pub mod LineFacts
pub mod RequirementFacts
pub mod EachOnce
