pub mod AccountFacts
pub mod ClosedSets
pub mod ConcludedFacts
pub mod Conclusions
pub mod CountFacts
pub mod ExplanationFacts
pub mod Irreducible
