pub mod PieceFacts
pub mod CallFacts
