mod AcceptedFacts
mod AgreeFacts
mod OrderContextFacts
mod OrderFacts
mod OrderLinkFacts
mod OrderPathFacts
mod PathFacts
mod PlainFacts
mod ServedFacts
pub mod LookupFacts
pub mod TableFacts
