pub mod RustNames
pub mod IdFacts
pub mod Places
pub mod LinkFacts
pub mod TableFacts
pub mod PushFacts
pub mod OrderFacts
pub mod ApartFacts
