pub mod BlankFacts
pub mod EndFacts
pub mod SpanFacts
pub mod TextFacts
pub mod PatternFacts
