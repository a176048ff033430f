pub mod WordFacts
pub mod HexFacts
pub mod TextBack
pub mod PatternBack
pub mod MatcherBack
pub mod LeafBack
pub mod TreeBack
