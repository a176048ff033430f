pub mod Lines
pub mod Closed
pub mod Found
pub mod IsEntry
pub mod IsRule
pub mod LentLabels
pub mod LentPremises
pub mod RuleList
