pub mod EntryReading
pub mod FoundFacts
pub mod KeptLinks
pub mod LineFacts
pub mod PushFacts
pub mod RuleFacts
