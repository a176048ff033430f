pub mod KeptRules
pub mod FeatureOrder
pub mod Halving
pub mod OnLines
pub mod SearchFacts
